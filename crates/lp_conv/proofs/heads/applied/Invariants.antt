use Rattle.std.proofs.Common.{length}
use Rattle.lp_conv.proofs.Spines.{IsApplied}
use Rattle.lp_conv.proofs.heads.applied.Given as goal

abbrev pub invariant-loop-x : goal.invariant-loop-x
invariant-loop-x l = IsApplied l.fn.base l.fn.f l.fn.args l.base l.made l.rest

abbrev pub decreases-loop-x : goal.decreases-loop-x
decreases-loop-x l = length l.rest
