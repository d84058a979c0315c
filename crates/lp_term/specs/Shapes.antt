-- Nodes with narrow numbers.
use Rattle.lp_term.specs.declared.LpNode.{LpNode}
use Rattle.lp_term.specs.declared.LpNode.TheVariants as node
use Rattle.lp_term.specs.declared.shape.Shape.{Shape}
use Rattle.lp_term.specs.declared.shape.Shape.TheVariants as shape

-- the node of a shape
abbrev pub node_of : Shape → LpNode
node_of shape.SortType = node.SortType
node_of shape.SortKind = node.SortKind
node_of (shape.Var n) = node.Var n
node_of (shape.Sym s) = node.Sym s
node_of (shape.App f x) = node.App (record { 0 = f }) (record { 0 = x })
node_of (shape.Lam a b) = node.Lam (record { 0 = a }) (record { 0 = b })
node_of (shape.Pi a b) = node.Pi (record { 0 = a }) (record { 0 = b })
