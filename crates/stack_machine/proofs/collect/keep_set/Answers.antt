use Rattle.std.proofs.Common.{arith, ◌∙◌}
use Rattle.stack_machine.proofs.Kept.{kept_more, passed_more}
use Rattle.stack_machine.proofs.collect.keep_set.Goals as goal
use Rattle.stack_machine.proofs.collect.keep_set.Goals.{then-flag, else-flag}

pub loop-i-preserved : goal.loop-i-preserved
loop-i-preserved g c = elim c.if-flag.branch [
  | then-flag w ↦ rw (w.items-is, w.count-is) record {
    before = omega arith;
    long = omega arith;
    kept =
        kept_more _ _ _ c.loop-i.count c.loop-i.i c.loop-i-test.true c.loop-i.invariant.long c.loop-i.invariant.before w.if-flag.true w.swap.ensures.items
        ∙ c.loop-i.invariant.kept;
  }
  | else-flag w ↦ rw (w.items-is, w.count-is) record {
    before = omega arith;
    long = c.loop-i.invariant.long;
    kept =
        passed_more _ _ c.loop-i.count c.loop-i.i c.loop-i-test.true c.loop-i.invariant.long w.if-flag.false ∙ c.loop-i.invariant.kept;
  }
]
