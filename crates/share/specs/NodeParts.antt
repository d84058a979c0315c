-- The parts of a node, by their numbers.
use Rattle.std.specs.Prelude.{Option, None, Some}
use Rattle.lp_term.specs.declared.LpId.{LpId}
use Rattle.lp_term.specs.declared.LpNode.{LpNode}
use Rattle.lp_term.specs.declared.LpNode.TheVariants as node

-- the two parts of a node, if it has parts
abbrev pub parts_of : LpNode → Option (LpId × LpId)
parts_of (node.App f x) = Some (f, x)
parts_of (node.Lam a b) = Some (a, b)
parts_of (node.Pi a b) = Some (a, b)
parts_of node.SortType = None
parts_of node.SortKind = None
parts_of (node.Var n) = None
parts_of (node.Sym s) = None
