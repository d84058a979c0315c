-- A table of trees, as the list of its trees by number.
use Rattle.std.specs.Prelude.{◌≡◌, ◌⊎◌, ℕ, ◌<◌, ◌≤◌, List, [], ◌∷◌, ◌++◌, length, map, Some, slice_get, unwrap_or}
use Rattle.lp_spec.specs.Trees.{Tree, SortType, SortKind, Var, Sym, App, Lam, Pi}
use Rattle.lp_term.specs.declared.LpId.{LpId}
use Rattle.lp_term.specs.declared.LpNode.{LpNode}
use Rattle.lp_term.specs.declared.LpNode.TheVariants as node

-- the number's tree; `Type` for a number that the table lacks
abbrev pub tree_at : List Tree → ℕ → Tree
tree_at trees id = unwrap_or (slice_get trees id) SortType

-- the table has this tree under the number
abbrev pub Holds : List Tree → ℕ → Tree → Type 0
Holds trees id tree = slice_get trees id ≡ Some tree

-- the trees of some numbers
abbrev pub trees_at : List Tree → List LpId → List Tree
trees_at trees ids = map (λ id. tree_at trees id.0) ids

-- the numbers are of the table
abbrev pub AreKnown : List Tree → List LpId → Type 0
AreKnown trees [] = Unit {0}
AreKnown trees (id ∷ ids) = (id.0 < length trees) × AreKnown trees ids

-- the tree of a node whose parts have these numbers
abbrev pub tree_of_node : List Tree → LpNode → Tree
tree_of_node trees node.SortType = SortType
tree_of_node trees node.SortKind = SortKind
tree_of_node trees (node.Var n) = Var n
tree_of_node trees (node.Sym s) = Sym s
tree_of_node trees (node.App f x) = App (tree_at trees f.0) (tree_at trees x.0)
tree_of_node trees (node.Lam a b) = Lam (tree_at trees a.0) (tree_at trees b.0)
tree_of_node trees (node.Pi a b) = Pi (tree_at trees a.0) (tree_at trees b.0)

-- the node's parts have numbers below n
abbrev pub PartsBelow : ℕ → LpNode → Type 0
PartsBelow n node.SortType = Unit {0}
PartsBelow n node.SortKind = Unit {0}
PartsBelow n (node.Var m) = Unit {0}
PartsBelow n (node.Sym s) = Unit {0}
PartsBelow n (node.App f x) = (f.0 < n) × (x.0 < n)
PartsBelow n (node.Lam a b) = (a.0 < n) × (b.0 < n)
PartsBelow n (node.Pi a b) = (a.0 < n) × (b.0 < n)

-- no tree has two numbers
pub record IsDistinct (trees : List Tree) : Type 0 where
  pub each : (i j : ℕ) (t : Tree) → Holds trees i t → Holds trees j t → i ≡ j

-- every number keeps its tree
pub record Stays (old new : List Tree) : Type 0 where
  pub each : (i : ℕ) (t : Tree) → Holds old i t → Holds new i t

-- every number keeps its tree, no number goes, and no tree gets a second one
pub record Keeps (old new : List Tree) : Type 0 where
  pub stays : Stays old new
  pub longer : length old ≤ length new
  pub distinct : IsDistinct old → IsDistinct new

-- the table is as before or has this tree as its last
abbrev pub Adds : List Tree → List Tree → Tree → Type 0
Adds old new tree = (new ≡ old) ⊎ (new ≡ old ++ tree ∷ [])
