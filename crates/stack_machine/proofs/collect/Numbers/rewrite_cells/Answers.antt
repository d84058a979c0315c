use Rattle.stack_machine.specs.Collecting.{numbered_cell}
use Rattle.stack_machine.proofs.Kept.{written_more}
use Rattle.stack_machine.proofs.collect.Numbers.rewrite_cells.Goals as goal

pub loop-cell-preserved : goal.loop-cell-preserved
loop-cell-preserved c = written_more (numbered_cell c.args.self.now) _ c.loop-cell.cell-items _ c.loop-cell.cell-index _ c.cell.result
    c.deref_mut-cell-items.ensures.value c.loop-cell-test.true c.loop-cell.auto.cell-items c.loop-cell.invariant c.cell.ensures
