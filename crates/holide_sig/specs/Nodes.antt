-- Trees that are added to a table by their nodes, of which it has none yet.
use Rattle.std.specs.Prelude.{ℕ, Bool, true, not, ◌&&◌, nat_lt, List, [], ◌∷◌, ◌++◌, length}
use Rattle.std.specs.List.{list_any}
use Rattle.lp_spec.specs.Trees.{Tree, tree_eq}
use Rattle.lp_term.specs.declared.LpNode.{LpNode}
use Rattle.lp_term.specs.declared.LpNode.TheVariants as node
use Rattle.lp_term.specs.Tables.{tree_of_node}

-- the trees, and those of the nodes after them
unfoldable pub trees_with : List Tree → List LpNode → List Tree
trees_with trees [] = trees
trees_with trees (n ∷ ns) = trees_with (trees ++ tree_of_node trees n ∷ []) ns

-- the node's parts have numbers below n
abbrev pub parts_below : ℕ → LpNode → Bool
parts_below n node.SortType = true
parts_below n node.SortKind = true
parts_below n (node.Var m) = true
parts_below n (node.Sym s) = true
parts_below n (node.App f x) = nat_lt f.0 n && nat_lt x.0 n
parts_below n (node.Lam a b) = nat_lt a.0 n && nat_lt b.0 n
parts_below n (node.Pi a b) = nat_lt a.0 n && nat_lt b.0 n

-- the parts of each node come before it, and none of the nodes' trees is among those before it
unfoldable pub are_new : List Tree → List LpNode → Bool
are_new trees [] = true
are_new trees (n ∷ ns) = parts_below (length trees) n && not (list_any (tree_eq (tree_of_node trees n)) trees) && are_new (trees ++ tree_of_node trees n ∷ [])
    ns
