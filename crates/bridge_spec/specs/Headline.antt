-- What the module of an accepted run is good for.
use Rattle.std.specs.Prelude.{◌≡◌, ℕ, ◌≤◌, Bool, List, ◌++◌, Some, slice_get, true, false, drop, length}
use Rattle.std.specs.List.{AllByRecursion}
use Rattle.hol_spec.specs.Mangling.{AreBytes}
use Rattle.hol_spec.specs.Proofs.{Accepted, IsProof}
use Rattle.article_spec.specs.Run.{accepted, Run}
use Rattle.article_spec.specs.SoundRuns.{IsDerived}
use Rattle.lp_spec.specs.Trees.{Tree}
use Rattle.lp_spec.specs.Lemmas.{lemmas}
use Rattle.lp_spec.specs.Modules.{Declaration}
use Rattle.lp_spec.specs.Reading.{Reads}
use Rattle.lp_spec.specs.Weight.{bound}
use Rattle.lp_spec.specs.Check.{Found}
use Rattle.lp_spec.specs.FastCheck.{fast_bound}
use Rattle.translate_spec.specs.Image.{image}
use Rattle.translate_spec.specs.Stands.{StandsForRun}
use Rattle.share_spec.specs.Folded.{folded, places, entries_of, place_in}
use Rattle.share_spec.specs.FoldedStands.{FoldedStands}
use Rattle.share_spec.specs.MovedTrees.{moved}
use Rattle.share_spec.specs.WrittenOnce.{IsSharedIn, all_written}
use Rattle.bridge_spec.specs.FileChecks.{EndsWithin}
use Rattle.bridge_spec.specs.Texts.{module_of, module_text}

-- A run's module is well typed, leaves unproved only the run's inputs and assumptions, defines only what the run defined, and its exports stand,
-- in order, for the closed forms of the run's. With shared abbreviations it defines these too.
abbrev pub ModuleStands : Bool → Accepted → Type 0
ModuleStands false run = StandsForRun (image run) run
ModuleStands true run = FoldedStands (folded (image run)) run

-- With shared abbreviations no tree that is shared is written out more than once after the lemmas, the types of abbreviations aside.
abbrev pub WritesOnce : Bool → Accepted → Type 0
WritesOnce false run = Unit {0}
WritesOnce true run =
    (rest : List Declaration) (t : Tree) → image run ≡ lemmas ++ rest → IsSharedIn rest t
    → places (moved (place_in (entries_of (image run))) t) (all_written lemmas (drop (length lemmas) (folded (image run)))) ≤ 1

-- Of the module that is written of an accepted run, with shared abbreviations or without:
pub record Headline (share : Bool) (run : Accepted) : Type 0 where
  -- its text reads as it, and as no other module
  pub reads : Reads (module_text share run) (module_of share run)
  pub only : (m : List Declaration) → Reads (module_text share run) m → m ≡ module_of share run
  -- it is well typed, and faithful to its run
  pub stands : ModuleStands share run
  -- the check of each declaration says yes within the bound that is printed before it, if it is a theorem
  pub within : (i : ℕ) (d : Declaration) → slice_get (module_of share run) i ≡ Some d
      → EndsWithin true (module_of share run) (bound (module_of share run) d) i (Found d.ty)
  -- and without rechecks of sorts within 64 times the square of the declaration's weight
  pub within_fast : (i : ℕ) (d : Declaration) → slice_get (module_of share run) i ≡ Some d
      → EndsWithin false (module_of share run) (fast_bound (module_of share run) d) i (Found d.ty)
  -- what has an abbreviation is written out once
  pub once : WritesOnce share run
  -- what the run made is a proof, in which no name is taken twice, each type definition is made from an earlier step, and its laws from that step
  pub proof : IsProof run.made
  -- each export of the run derives from its assumptions and its definitions alone
  pub derived : AllByRecursion (IsDerived run) run.exports

-- The headline: so it is with every accepted run of articles of bytes.
abbrev pub EachRunCarries : Type 0
EachRunCarries = (share : Bool) (texts : List (List ℕ)) (run : Accepted) → AllByRecursion AreBytes texts → Run texts (accepted run) → Headline share run
