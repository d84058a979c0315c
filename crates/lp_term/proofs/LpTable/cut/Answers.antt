use Rattle.std.proofs.Common.{arith}
use Rattle.lp_term.proofs.ColumnLaws.{length-trees_of}
use Rattle.lp_term.proofs.Cut.{trees_of-take, IsTable-take}
use Rattle.lp_term.proofs.LpTable.cut.Goals as goal

pub invariant_of-self : goal.invariant_of-self
invariant_of-self c =
    let h = rw (← c.self.view_is) at c.requires in
    rw (c.truncate.ensures, c.truncate-2.ensures)
    (IsTable-take c.args.len c.self.inside.shapes c.self.inside.measures (omega (arith, h, length-trees_of c.self.inside.shapes)) c.self.invariant)

pub returns : goal.returns
returns c =
    let h = rw (← c.self.view_is) at c.requires in
    rw (← c.self.view_is, c.truncate.ensures) (trees_of-take c.args.len c.self.inside.shapes (omega (arith, h, length-trees_of c.self.inside.shapes)))
