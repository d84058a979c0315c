use Rattle.std.proofs.Common.{arith}
use Rattle.lp_term.proofs.MeasuredLaws.{AreMeasured-at}
use Rattle.lp_term.proofs.LpTable.measures_of.Goals as goal

pub get-requires : goal.get-requires
get-requires c =
    let h = rw (← c.self.view_is) at c.requires in
    omega (arith, h, c.self.invariant.measured.counted)

pub returns : goal.returns
returns c = rw (← c.self.view_is) (AreMeasured-at _ _ _ _ c.self.invariant.measured c.get.ensures)
