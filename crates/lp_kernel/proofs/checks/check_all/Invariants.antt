use Rattle.lp_kernel.proofs.Judged.{IsCarried}
use Rattle.lp_kernel.proofs.checks.check_all.Given as goal

abbrev pub invariant-loop-i : goal.invariant-loop-i
invariant-loop-i l = IsCarried l.fn.rechecks l.fn.base l.base l.i l.memo
