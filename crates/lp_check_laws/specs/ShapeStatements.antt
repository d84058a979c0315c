-- What is shown of checks and of shapes, as statements.
use Rattle.std.specs.Prelude.{◌≡◌, ◌↔◌, ℕ, ◌*◌, Bool, List, [], Some, slice_get, take}
use Rattle.lp_spec.specs.Modules.{Declaration}
use Rattle.lp_spec.specs.ModuleOrder.{IsModule}
use Rattle.lp_spec.specs.Typing.{WellTyped}
use Rattle.lp_spec.specs.Weight.{weight}
use Rattle.lp_typing_laws.specs.ConversionLaws.{IsClosed}
use Rattle.lp_spec.specs.Check.{Reply, declaration_plan, Ends}
use Rattle.lp_spec.specs.Shaped.{IsShaped}
use Rattle.lp_check_laws.specs.ShapedPasses.{Passes, AreShaped}

-- The check of a shaped declaration says yes at a price of at most 64 times the square of its weight.
abbrev pub ShapedPass : Type 0
ShapedPass = (m : List Declaration) (closed : IsClosed m) (d : Declaration) → IsShaped m d
    → Passes m closed (declaration_plan d) d.ty (64 * (weight m d * weight m d))

-- A module of shaped declarations is well typed.
abbrev pub ShapedTyped : Type 0
ShapedTyped = (m : List Declaration) → AreShaped [] m → WellTyped m

-- The check of a declaration over those before it is its check over the whole module: one reply at one price, with rechecks or without.
abbrev pub EarlierAlone : Type 0
EarlierAlone = (m : List Declaration) → IsModule m → (i : ℕ) (d : Declaration) → slice_get m i ≡ Some d → (r : Bool) (reply : Reply) (n : ℕ)
    → Ends m r (declaration_plan d) reply n ↔ Ends (take i m) r (declaration_plan d) reply n
