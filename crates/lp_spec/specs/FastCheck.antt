-- The check without rechecks of sorts: the directed rules with two questions left out, that for the sort of a product that head steps
-- reached, and that for the sort of an expected type.
use Rattle.std.specs.Prelude.{◌≡◌, ℕ, ◌*◌, Bool, true, false, min, List, slice_get, take, Some}
use Rattle.lp_spec.specs.Trees.{Tree}
use Rattle.lp_spec.specs.Modules.{Declaration}
use Rattle.lp_spec.specs.Weight.{weight, greatest}
use Rattle.lp_spec.specs.Check.{Reply, Found, Ends, declaration_plan, Check}

-- the check without rechecks of the declaration with this number, over those before it
pub record FastCheck (m : List Declaration) (i : ℕ) (reply : Reply) (price : ℕ) : Type 0 where
  pub declaration : Declaration
  pub at : slice_get m i ≡ Some declaration
  pub ends : Ends (take i m) false (declaration_plan declaration) reply price

-- the check with rechecks, or without
abbrev pub CheckBy : Bool → List Declaration → ℕ → Reply → ℕ → Type 0
CheckBy true m i reply price = Check m i reply price
CheckBy false m i reply price = FastCheck m i reply price

-- the declaration passes, at this number, with rechecks or without
pub record PassesBy (r : Bool) (m : List Declaration) (i : ℕ) : Type 0 where
  pub found : Tree
  pub price : ℕ
  pub by : CheckBy r m i (Found found) price

-- how many steps the check without rechecks of a declaration may take
abbrev pub fast_bound : List Declaration → Declaration → ℕ
fast_bound m d = let w = weight m d in min (64 * (w * w)) greatest
