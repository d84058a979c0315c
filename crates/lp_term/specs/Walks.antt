-- A walk over the nodes of a tree, as a stack of tasks over a stack of trees that are made.
use Rattle.std.specs.Prelude.{◌≡◌, ◌⊎◌, ℕ, ◌+◌, ◌-◌, ◌*◌, ◌<◌, ◌≤◌, ◌^◌, List, [], ◌∷◌, length, reverse, slice_get, Some}
use Rattle.lp_spec.specs.Trees.{Tree, Var, App, Lam, Pi, lift_at, put_all_at, size, loose}
use Rattle.lp_term.specs.declared.LpId.{LpId}
use Rattle.lp_term.specs.declared.LpNode.{LpNode}
use Rattle.lp_term.specs.declared.LpNode.TheVariants as node
use Rattle.lp_term.specs.declared.memo.Change.{Change}
use Rattle.lp_term.specs.declared.memo.Change.TheVariants.{Raise, Replace}
use Rattle.lp_term.specs.declared.memo.Place.{Place}
use Rattle.lp_term.specs.declared.walk.Task.{Task}
use Rattle.lp_term.specs.declared.walk.Task.TheVariants.{Visit, Join}
use Rattle.lp_term.specs.declared.walk.Variable.{Variable}
use Rattle.lp_term.specs.declared.walk.Variable.TheVariants.{Renamed, Argument}
use Rattle.lp_term.specs.Tables.{tree_at, trees_at, AreKnown, Holds}
use Rattle.tree_map.specs.Noted.{IsNoted}

-- what a change with these arguments makes of a tree under d binders
abbrev pub changed : List Tree → Change → ℕ → Tree → Tree
changed args (Raise k) d t = lift_at d k t
changed args Replace d t = put_all_at d args t

-- the tree that is wanted at a place
abbrev pub wanted : List Tree → List Tree → Place → Tree
wanted args trees place = changed args place.change place.depth (tree_at trees place.id.0)

-- the change leaves the place's tree alone
abbrev pub IsLeftAlone : List Tree → Place → Type 0
IsLeftAlone trees place = (place.change ≡ Raise 0) ⊎ (place.depth < 2 ^ 64 → loose (tree_at trees place.id.0) ≤ place.depth)

-- what stands for the variable n of a place, whatever the arguments with these numbers
abbrev pub IsReplaced : List LpId → Place → ℕ → Variable → Type 0
IsReplaced ids place n (Renamed m) = (given : List Tree) → length given ≡ length ids → changed given place.change place.depth (Var n) ≡ Var m
IsReplaced ids place n (Argument id) = (place.change ≡ Replace) × (place.depth ≤ n) × (slice_get (reverse ids) (n - place.depth) ≡ Some id)
    × ((i : ℕ) × (slice_get ids i ≡ Some id))

-- a node of this kind with these parts
abbrev pub with_parts : LpNode → LpId → LpId → LpNode
with_parts (node.App _ _) f x = node.App f x
with_parts (node.Lam _ _) a b = node.Lam a b
with_parts (node.Pi _ _) a b = node.Pi a b
with_parts n _ _ = n

-- a tree of this kind with these parts
abbrev pub joined : Tree → Tree → Tree → Tree
joined (App _ _) f x = App f x
joined (Lam _ _) a b = Lam a b
joined (Pi _ _) a b = Pi a b
joined t _ _ = t

-- the tasks make this one tree of those that are made, the topmost first, and each join makes what is wanted at its place
abbrev pub Makes : List Tree → List Tree → List Task → List Tree → Tree → Type 0
Makes args trees [] made goal = made ≡ goal ∷ []
Makes args trees (Visit place ∷ rest) made goal = Makes args trees rest (wanted args trees place ∷ made) goal
Makes args trees (Join place ∷ rest) (x ∷ f ∷ made) goal =
    (joined (tree_at trees place.id.0) f x ≡ wanted args trees place) × Makes args trees rest (wanted args trees place ∷ made) goal
Makes args trees (Join place ∷ rest) _ goal = ⊥

-- the place's tree is of the table, and the binders round its parts can be counted
abbrev pub IsPlace : List Tree → Place → Type 0
IsPlace trees place = (place.id.0 < length trees) × (place.depth + place.id.0 < 2 ^ 64)

abbrev pub place_of : Task → Place
place_of (Visit place) = place
place_of (Join place) = place

abbrev pub ArePlaces : List Tree → List Task → Type 0
ArePlaces trees [] = Unit {0}
ArePlaces trees (task ∷ tasks) = IsPlace trees (place_of task) × ArePlaces trees tasks

-- each tree of the memo is the one that is wanted at its place
abbrev pub IsMemo : List Tree → List Tree → List (Place × LpId) → Type 0
IsMemo args trees memo = (place : Place) (id : LpId) → IsNoted memo place id → (place.id.0 < length trees) × Holds trees id.0 (wanted args trees place)

-- a walk with these arguments that is to make this tree
pub record IsWalk (args : List Tree) (goal : Tree) (trees : List Tree) (ids : List LpId) (tasks : List Task) (made : List LpId)
    (memo : List (Place × LpId)) : Type 0 where
  pub given : AreKnown trees ids
  pub arguments : trees_at trees ids ≡ args
  pub places : ArePlaces trees tasks
  pub known : AreKnown trees made
  pub noted : IsMemo args trees memo
  pub makes : Makes args trees tasks (trees_at trees made) goal

-- the nodes of all arguments
abbrev pub sizes : List Tree → List LpId → ℕ
sizes trees [] = 0
sizes trees (id ∷ ids) = size (tree_at trees id.0) + sizes trees ids

-- how many turns a change takes at most for each node, where the arguments have so many nodes
abbrev pub price : ℕ → Change → ℕ
price n (Raise k) = 2
price n Replace = 2 * n + 2

-- how many turns the tasks take at most
abbrev pub work : List Tree → List LpId → List Task → ℕ
work trees ids [] = 0
work trees ids (Visit place ∷ rest) = price (sizes trees ids) place.change * size (tree_at trees place.id.0) + work trees ids rest
work trees ids (Join place ∷ rest) = 1 + work trees ids rest
