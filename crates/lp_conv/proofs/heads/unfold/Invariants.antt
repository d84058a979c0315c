use Rattle.lp_conv.proofs.Spines.{IsGiven}
use Rattle.lp_conv.proofs.heads.unfold.Given as goal

abbrev pub invariant-loop-inner : goal.invariant-loop-inner
invariant-loop-inner l = IsGiven l.fn.base l.fn.id l.fn.args l.base l.before.items l.body l.rest

abbrev pub decreases-loop-inner : goal.decreases-loop-inner
decreases-loop-inner l = l.body.0
