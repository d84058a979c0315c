-- What a turn of conversion leaves, by numbers and as a plan.
use Rattle.std.specs.Prelude.{◌<◌, List, length}
use Rattle.lp_spec.specs.Trees.{Tree}
use Rattle.lp_term.specs.declared.LpNode.{LpNode}
use Rattle.lp_term.specs.declared.LpNode.TheVariants as node
use Rattle.lp_term.specs.Tables.{tree_at}
use Rattle.lp_spec.specs.Check.{Convert, Found, No, Plan, Say, Ask}
use Rattle.lp_conv.specs.declared.conversion.Left.{Left}
use Rattle.lp_conv.specs.declared.conversion.Left.TheVariants as left

-- what is left, as a plan that finds E
abbrev pub plan_of : List Tree → Tree → Left → Plan
plan_of ts E left.Nothing = Say (Found E)
plan_of ts E (left.One g h) = Ask (Convert (tree_at ts g.0) (tree_at ts h.0)) (λ _. Say (Found E))
plan_of ts E (left.Two g h x y) = Ask (Convert (tree_at ts g.0) (tree_at ts h.0)) (λ _. Ask (Convert (tree_at ts x.0) (tree_at ts y.0)) (λ _. Say (Found E)))
plan_of ts E left.Differs = Say No

-- the numbers are of the table
abbrev pub IsKnownLeft : List Tree → Left → Type 0
IsKnownLeft ts left.Nothing = Unit {0}
IsKnownLeft ts (left.One g h) = (g.0 < length ts) × (h.0 < length ts)
IsKnownLeft ts (left.Two g h x y) = (g.0 < length ts) × (h.0 < length ts) × (x.0 < length ts) × (y.0 < length ts)
IsKnownLeft ts left.Differs = Unit {0}

-- the parts of two nodes, pair by pair
abbrev pub parts_of : LpNode → LpNode → Left
parts_of (node.App g x) (node.App h y) = left.Two g h x y
parts_of (node.Lam g x) (node.Lam h y) = left.Two g h x y
parts_of (node.Pi g x) (node.Pi h y) = left.Two g h x y
parts_of _ _ = left.Differs
