-- What is shown of folded modules, as statements.
use Rattle.std.specs.Prelude.{◌≡◌, ℕ, List, [], Some, length, slice_get}
use Rattle.hol_spec.specs.Proofs.{Accepted}
use Rattle.lp_spec.specs.Modules.{Declaration}
use Rattle.lp_spec.specs.ModuleOrder.{IsModule}
use Rattle.lp_spec.specs.ShortNames.{NoneShort, AreLong}
use Rattle.lp_spec.specs.TextLaws.{ArePlain, AreShallow, ReadsBack}
use Rattle.lp_check_laws.specs.ShapedPasses.{AreShaped}
use Rattle.lp_check_laws.specs.PricedModules.{IsPriced}
use Rattle.translate_spec.specs.Stands.{StandsForRun}
use Rattle.share_spec.specs.Folded.{folded}
use Rattle.share_spec.specs.FoldedStands.{FoldedStands}

-- The folded module of a module of shaped declarations without short names is a module, names no abbreviation in its trees, is shaped, and
-- the check of each of its declarations says yes at a price of at most 64 times the square of its weight.
pub record IsFoldedWell (m : List Declaration) : Type 0 where
  pub is_module : IsModule (folded m)
  pub long : AreLong [] (folded m)
  pub shaped : AreShaped [] (folded m)
  pub priced : (i : ℕ) (d : Declaration) → slice_get (folded m) i ≡ Some d → IsPriced (folded m) i d

abbrev pub FoldedShaped : Type 0
FoldedShaped = (m : List Declaration) → IsModule m → NoneShort m → AreShaped [] m → IsFoldedWell m

-- Its text reads as it, and as no other module.
abbrev pub FoldedReadsBack : Type 0
FoldedReadsBack = (m : List Declaration) (bounds : List ℕ) → IsModule m → NoneShort m → AreShaped [] m → ArePlain m → AreShallow m → length bounds
    ≡ length (folded m) → ReadsBack (folded m) bounds

-- It stands for the run for which the module stands.
abbrev pub FoldedStand : Type 0
FoldedStand = (m : List Declaration) (run : Accepted) → NoneShort m → AreShaped [] m → StandsForRun m run → FoldedStands (folded m) run
