use Rattle.std.proofs.Common.{arith}
use Rattle.lp_term.proofs.ColumnLaws.{length-trees_of, trees_of-Holds}
use Rattle.lp_term.proofs.LpTable.shape_of.Goals as goal

pub get-requires : goal.get-requires
get-requires c =
    let h = rw (← c.self.view_is) at c.requires in
    omega (arith, length-trees_of c.self.inside.shapes, h)

pub returns-clause-is : goal.returns-clause-is
returns-clause-is c = rw (← c.self.view_is) (trees_of-Holds _ _ _ (c.self.invariant.lower _ _ c.get.ensures) c.get.ensures)

pub returns-clause-small : goal.returns-clause-small
returns-clause-small c = rw (← c.self.view_is) (omega (arith, length-trees_of c.self.inside.shapes, c.len-count.ensures.few))
