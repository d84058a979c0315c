use Rattle.bridge_check.proofs.checking.verdict_on.Goals as goal

pub returns-then-rechecks-clause-judged : goal.returns-then-rechecks-clause-judged
returns-then-rechecks-clause-judged c = rw c.if-rechecks.true c.check_module.ensures.judged

pub returns-else-rechecks-clause-judged : goal.returns-else-rechecks-clause-judged
returns-else-rechecks-clause-judged c = rw c.if-rechecks.false c.check_fast.ensures.judged
