use Rattle.lp_conv.proofs.Spines.{IsSpine}
use Rattle.lp_conv.proofs.heads.head_step.Given as goal

abbrev pub invariant-loop-f : goal.invariant-loop-f
invariant-loop-f l = IsSpine l.fn.base l.fn.id l.base l.head l.args

abbrev pub decreases-loop-f : goal.decreases-loop-f
decreases-loop-f l = l.head.0
