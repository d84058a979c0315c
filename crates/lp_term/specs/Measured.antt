-- The measures of a tree, and a column of them.
use Rattle.std.specs.Prelude.{◌≡◌, ℕ, ◌<◌, ◌≤◌, ◌-◌, ◌^◌, ◌+◌, List, length, max, min, Some, slice_get}
use Rattle.lp_spec.specs.Trees.{Tree, size, depth, loose}
use Rattle.lp_term.specs.declared.measures.Measures.{Measures}
use Rattle.lp_term.specs.Tables.{Holds}

-- the measures are the tree's: size as far as its type goes, depth, and at least its loose variables
pub record IsMeasured (measures : Measures) (tree : Tree) : Type 0 where
  pub size : measures.size ≡ min (size tree) (2 ^ 128 - 1)
  pub depth : measures.depth ≡ depth tree
  pub loose : measures.loose < 2 ^ 32 - 1 → loose tree ≤ measures.loose

-- there are as many measures as trees, each of them its tree's
pub record AreMeasured (column : List Measures) (trees : List Tree) : Type 0 where
  pub counted : length column ≡ length trees
  pub each : (i : ℕ) (m : Measures) (t : Tree) → slice_get column i ≡ Some m → Holds trees i t → IsMeasured m t

-- the measures of a node over two trees with these, where the second has this for its loose variables outside the node
pub record IsJoined (first second : Measures) (outside : ℕ) (m : Measures) : Type 0 where
  pub size : m.size ≡ min (1 + first.size + second.size) (2 ^ 128 - 1)
  pub depth : m.depth ≡ 1 + max first.depth second.depth
  pub loose : m.loose ≡ max first.loose outside
