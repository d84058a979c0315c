-- The nodes of trees as they are written.
use Rattle.std.specs.Prelude.{◌≡◌, ℕ, take, ◌+◌, ◌<◌, Bool, true, false, List}
use Rattle.lp_spec.specs.Trees.{Tree, SortType, SortKind, Var, Sym, App, Lam, Pi, size, depth}
use Rattle.lp_spec.specs.ShortNames.{shortened}
use Rattle.lp_term.specs.declared.LpId.{LpId}
use Rattle.lp_term.specs.declared.LpNode.{LpNode}
use Rattle.lp_term.specs.declared.LpNode.TheVariants as node
use Rattle.lp_term.specs.Tables.{tree_at}
use Rattle.holide_sig.specs.declared.module.Module.{Module}
use Rattle.holide_sig.specs.Modules.{declarations_of}

-- the tree of a number as it is written after so many declarations
abbrev pub written_tree : Module → ℕ → LpId → Tree
written_tree m n id = shortened (take n (declarations_of m)) (tree_at m.table id.0)

-- the tree of a node, its parts as they are written
abbrev pub tree_written : Module → ℕ → LpNode → Tree
tree_written m n node.SortType = SortType
tree_written m n node.SortKind = SortKind
tree_written m n (node.Var v) = Var v
tree_written m n (node.Sym s) = Sym s
tree_written m n (node.App f x) = App (written_tree m n f) (written_tree m n x)
tree_written m n (node.Lam a b) = Lam (written_tree m n a) (written_tree m n b)
tree_written m n (node.Pi a b) = Pi (written_tree m n a) (written_tree m n b)

-- the trees of the last two numbers are parts of that of the first
pub record AreParts (trees : List Tree) (whole first second : LpId) : Type 0 where
  pub first_below : first.0 < whole.0
  pub second_below : second.0 < whole.0
  pub first_depth : depth (tree_at trees first.0) < depth (tree_at trees whole.0)
  pub second_depth : depth (tree_at trees second.0) < depth (tree_at trees whole.0)
  pub sizes : size (tree_at trees first.0) + size (tree_at trees second.0) < size (tree_at trees whole.0)

-- the parts of a node, if it has parts, are those of the tree
abbrev pub HasParts : List Tree → LpId → LpNode → Type 0
HasParts trees id (node.App f x) = AreParts trees id f x
HasParts trees id (node.Lam a b) = AreParts trees id a b
HasParts trees id (node.Pi a b) = AreParts trees id a b
HasParts trees id _ = Unit {0}

-- the node is that of the tree as it is written after so many declarations
pub record IsWritten (m : Module) (n : ℕ) (id : LpId) (of_tree : LpNode) : Type 0 where
  pub tree : written_tree m n id ≡ tree_written m n of_tree
  pub parts : HasParts m.table id of_tree

abbrev pub is_binder_node : LpNode → Bool
is_binder_node (node.Lam a b) = true
is_binder_node (node.Pi a b) = true
is_binder_node _ = false

-- the node is written as a single word
abbrev pub is_word_node : LpNode → Bool
is_word_node (node.App f x) = false
is_word_node (node.Lam a b) = false
is_word_node (node.Pi a b) = false
is_word_node _ = true
