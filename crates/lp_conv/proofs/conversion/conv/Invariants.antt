use Rattle.lp_conv.proofs.Converted.{IsConvert}
use Rattle.lp_conv.proofs.conversion.conv.Given as goal

abbrev pub invariant-loop-a : goal.invariant-loop-a
invariant-loop-a l = IsConvert l.fn.base l.fn.expected l.fn.found l.fn.budget.left l.base l.budget.left l.pairs

abbrev pub decreases-loop-a : goal.decreases-loop-a
decreases-loop-a l = l.budget.left
