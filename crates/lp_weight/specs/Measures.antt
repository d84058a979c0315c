-- Sums over the places of a tree, as a stack of tasks over a stack of amounts.
use Rattle.std.specs.Prelude.{◌≡◌, ℕ, ◌+◌, ◌*◌, ◌<◌, ◌^◌, List, [], ◌∷◌, length}
use Rattle.lp_spec.specs.Trees.{Tree, size}
use Rattle.lp_term.specs.Tables.{tree_at}
use Rattle.lp_weight.specs.declared.memo.Place.{Place}
use Rattle.holide_sig.specs.declared.module.Module.{Module}
use Rattle.lp_weight.specs.declared.occurrences.Parts.{Parts}
use Rattle.lp_weight.specs.declared.occurrences.Parts.TheVariants as parts
use Rattle.lp_weight.specs.declared.measure.Walk.{Walk}
use Rattle.lp_weight.specs.declared.measure.Task.{Task}
use Rattle.lp_weight.specs.declared.measure.Task.TheVariants.{Visit, Join}
use Rattle.lp_weight.specs.Saturation.{saturated}
use Rattle.tree_map.specs.Noted.{IsNoted}
use Rattle.lp_weight.specs.Occurrences.{occurrences}

-- the place's tree is of the table, and the binders round its parts can be counted
pub record IsPlace (trees : List Tree) (place : Place) : Type 0 where
  pub known : place.id.0 < length trees
  pub counted : place.depth + place.id.0 < 2 ^ 64

-- the tree at a place
abbrev pub tree_of : List Tree → Place → Tree
tree_of trees place = tree_at trees place.id.0

-- how often the variable occurs that is bound right outside the binders round a place
abbrev pub place_occurrences : Module → Place → ℕ
place_occurrences m place = occurrences place.depth (tree_at m.table place.id.0)

-- the place amounts to what the two places do, whose trees together are smaller than its own
pub record AreTwo (amount : Place → ℕ) (trees : List Tree) (place first second : Place) : Type 0 where
  pub first_place : IsPlace trees first
  pub second_place : IsPlace trees second
  pub sum : saturated (amount first + amount second) ≡ saturated (amount place)
  pub smaller : size (tree_of trees first) + size (tree_of trees second) < size (tree_of trees place)

-- the parts sum to what the place amounts to
abbrev pub IsPart : (Place → ℕ) → List Tree → Place → Parts → Type 0
IsPart amount trees place (parts.Alone n) = n ≡ saturated (amount place)
IsPart amount trees place (parts.Two first second) = AreTwo amount trees place first second

-- the tasks make this one amount of those that there are, the topmost first, and each join makes that of its place
abbrev pub Makes : (Place → ℕ) → List Task → List ℕ → ℕ → Type 0
Makes amount [] amounts goal = amounts ≡ saturated goal ∷ []
Makes amount (Visit place ∷ rest) amounts goal = Makes amount rest (saturated (amount place) ∷ amounts) goal
Makes amount (Join place ∷ rest) (second ∷ first ∷ amounts) goal =
    (saturated (first + second) ≡ saturated (amount place)) × Makes amount rest (saturated (amount place) ∷ amounts) goal
Makes amount (Join place ∷ rest) _ goal = ⊥

-- the tree at a place is noted, since it has more than a few nodes
abbrev pub IsLarge : List Tree → Place → Type 0
IsLarge trees place = 16 < size (tree_of trees place)

-- each place that is to be visited or joined is one of the table
abbrev pub ArePlaces : List Tree → List Task → Type 0
ArePlaces trees [] = Unit {0}
ArePlaces trees (Visit place ∷ rest) = IsPlace trees place × ArePlaces trees rest
ArePlaces trees (Join place ∷ rest) = IsPlace trees place × ArePlaces trees rest

-- each amount of the memo is that of its place
abbrev pub IsMemo : (Place → ℕ) → List (Place × ℕ) → Type 0
IsMemo amount memo = (place : Place) (n : ℕ) → IsNoted memo place n → n ≡ saturated (amount place)

-- a walk that is to make this amount
pub record IsWalk (amount : Place → ℕ) (trees : List Tree) (goal : ℕ) (tasks : List Task) (amounts : List ℕ) (memo : List (Place × ℕ)) : Type 0 where
  pub places : ArePlaces trees tasks
  pub noted : IsMemo amount memo
  pub makes : Makes amount tasks amounts goal

-- a walk between two measures: nothing is under way, and each amount of its memo is that of its place
pub record IsIdle (amount : Place → ℕ) (walk : Walk) : Type 0 where
  pub tasks : walk.tasks ≡ []
  pub amounts : walk.amounts ≡ []
  pub noted : IsMemo amount walk.memo

-- how many turns the tasks take at most
abbrev pub work : List Tree → List Task → ℕ
work trees [] = 0
work trees (Visit place ∷ rest) = 2 * size (tree_of trees place) + work trees rest
work trees (Join place ∷ rest) = 1 + work trees rest
