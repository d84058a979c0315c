-- The entries of a memo of closed trees, and what they say.
use Rattle.std.specs.Prelude.{◌≡◌, ℕ, suc, ◌<◌, ◌+◌, Bool, true, List, [], Some, length, slice_get}
use Rattle.lp_spec.specs.Trees.{Tree, loose}
use Rattle.lp_spec.specs.Modules.{Declaration}
use Rattle.lp_term.specs.declared.LpId.{LpId}
use Rattle.lp_term.specs.Tables.{tree_at}
use Rattle.lp_spec.specs.Check.{Found, reach}
use Rattle.lp_conv.specs.Answers.{Answered}
use Rattle.lp_kernel.specs.Inference.{typing}
use Rattle.lp_kernel.specs.declared.state.Next.{Next}
use Rattle.lp_kernel.specs.declared.state.Next.TheVariants as next

-- the list has the number of the tree's type, and one more, at the tree's number
abbrev pub IsNoted : List ℕ → LpId → LpId → Type 0
IsNoted types id found = slice_get types id.0 ≡ Some (suc found.0)

-- nothing is noted
abbrev pub IsEmpty : List ℕ → Type 0
IsEmpty types = (t r : LpId) → IsNoted types t r → ⊥

-- what is noted was noted before, and has numbers below len
abbrev pub IsCutOff : List ℕ → List ℕ → ℕ → Type 0
IsCutOff old new len = (t r : LpId) → IsNoted new t r → IsNoted old t r × (t.0 < len) × (r.0 < len)

-- a list keeps its items, and what came behind them is 0
pub record IsLonger (old new : List ℕ) : Type 0 where
  pub noted : (place n : ℕ) → slice_get new place ≡ Some (suc n) → slice_get old place ≡ Some (suc n)
  pub stay : (place n : ℕ) → slice_get old place ≡ Some n → slice_get new place ≡ Some n

-- at the first places of a list, so many, the numbers from len on are forgotten, and nothing else
pub record IsForgotten (old new : List ℕ) (count len : ℕ) : Type 0 where
  pub same : length new ≡ length old
  pub lower : (place n : ℕ) → slice_get new place ≡ Some (suc n) → slice_get old place ≡ Some (suc n) × (place < count → n < len)
  pub stay : (place n : ℕ) → n < len → slice_get old place ≡ Some (suc n) → slice_get new place ≡ Some (suc n)

-- the tree is closed, and the directed rules, with rechecks of sorts or without, find this type in the empty context, after a step at least
pub record IsTypeOfClosed (rechecks : Bool) (ds : List Declaration) (ts : List Tree) (id found : LpId) : Type 0 where
  pub known : id.0 < length ts
  pub found_known : found.0 < length ts
  pub closed : loose (tree_at ts id.0) ≡ 0
  pub answered : Answered ds rechecks (typing [] (tree_at ts id.0)) (Found (tree_at ts found.0)) 1

-- every type that is noted is right
pub record AreTypes (rechecks : Bool) (ds : List Declaration) (ts : List Tree) (types : List ℕ) : Type 0 where
  pub each : (id found : LpId) → IsNoted types id found → IsTypeOfClosed rechecks ds ts id found

-- head steps go from the type to this product, a step at least
pub record IsProductOf (ds : List Declaration) (ts : List Tree) (id found : LpId) : Type 0 where
  pub known : id.0 < length ts
  pub found_known : found.0 < length ts
  pub answered : Answered ds true (reach ds (tree_at ts id.0)) (Found (tree_at ts found.0)) 1

-- every product that is noted is right
pub record AreProducts (ds : List Declaration) (ts : List Tree) (types : List ℕ) : Type 0 where
  pub each : (id found : LpId) → IsNoted types id found → IsProductOf ds ts id found

-- one step is taken for a type that is remembered, unless none is left
abbrev pub IsTakenUp : LpId → ℕ → ℕ → Next → Type 0
IsTakenUp found old new (next.Tell r) = (r ≡ found) × (new + 1 ≡ old)
IsTakenUp found old new next.Over = (old ≡ 0) × (new ≡ 0)
IsTakenUp found old new _ = ⊥
