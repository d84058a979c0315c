-- What is shown of checks without rechecks, as statements.
use Rattle.std.specs.Prelude.{◌≡◌, ℕ, ◌*◌, ◌≤◌, Bool, List, [], slice_get, Some}
use Rattle.lp_spec.specs.Modules.{Declaration}
use Rattle.lp_spec.specs.ModuleOrder.{IsModule}
use Rattle.lp_spec.specs.Typing.{WellTyped}
use Rattle.lp_spec.specs.Weight.{weight}
use Rattle.lp_spec.specs.Check.{Reply, Found, Check}
use Rattle.lp_check_laws.specs.ShapedPasses.{AreShaped}
use Rattle.lp_spec.specs.FastCheck.{FastCheck, CheckBy, PassesBy}
use Rattle.lp_spec.specs.Trees.{Tree}

-- The checker's law, with rechecks or without: a module whose declarations pass, each over those before it, is well typed.
abbrev pub CheckerLawBy : Type 0
CheckerLawBy = (r : Bool) (m : List Declaration) → IsModule m → ((i : ℕ) (d : Declaration) → slice_get m i ≡ Some d → PassesBy r m i) → WellTyped m

-- A declaration that passes passes without rechecks, at no greater price.
abbrev pub FastPasses : Type 0
FastPasses = (m : List Declaration) (i : ℕ) (found : Tree) (price : ℕ) → Check m i (Found found) price → (less : ℕ) × FastCheck m i (Found found) less
    × less ≤ price

-- The check of a declaration has one reply, at one price, with rechecks or without.
abbrev pub OneCheck : Type 0
OneCheck = (r : Bool) (m : List Declaration) (i : ℕ) (a b : Reply) (n k : ℕ) → CheckBy r m i a n → CheckBy r m i b k → (a ≡ b) × (n ≡ k)

-- The check without rechecks of a declaration of a shaped module says yes, at a price of at most 64 times the square of its weight.
abbrev pub ShapedFast : Type 0
ShapedFast =
    (m : List Declaration) → AreShaped [] m → (i : ℕ) (d : Declaration) → slice_get m i ≡ Some d
    → (price : ℕ) × FastCheck m i (Found d.ty) price × price ≤ 64 * (weight m d * weight m d)
