use Rattle.stack_machine.specs.Collecting.{numbered}
use Rattle.stack_machine.proofs.Kept.{written_more}
use Rattle.stack_machine.proofs.collect.Numbers.rewrite_all.Goals as goal

pub loop-object-preserved : goal.loop-object-preserved
loop-object-preserved c = written_more (numbered c.args.self.now) _ c.loop-object.object-items _ c.loop-object.object-index _ c.object.result
    c.deref_mut-object-items.ensures.value c.loop-object-test.true c.loop-object.auto.object-items c.loop-object.invariant c.object.ensures
