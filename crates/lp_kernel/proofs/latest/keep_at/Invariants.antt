use Rattle.std.proofs.Common.{suc, ◌-◌, length}
use Rattle.lp_kernel.proofs.LatestLaws.{IsOnly}
use Rattle.lp_kernel.proofs.latest.keep_at.Given as goal

abbrev pub invariant-loop-kept : goal.invariant-loop-kept
invariant-loop-kept l = IsOnly l.fn.kept.items l.kept.items l.fn.finding

abbrev pub decreases-loop-kept : goal.decreases-loop-kept
decreases-loop-kept l = suc l.fn.place - length l.kept.items
