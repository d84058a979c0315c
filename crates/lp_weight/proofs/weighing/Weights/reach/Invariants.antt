use Rattle.std.proofs.Common.{◌-◌, length}
use Rattle.lp_weight.specs.Spreads.{AreWeights}
use Rattle.lp_weight.proofs.weighing.Weights.reach.Given as goal

abbrev pub invariant-loop-id : goal.invariant-loop-id
invariant-loop-id l = AreWeights l.base l.self

abbrev pub decreases-loop-id : goal.decreases-loop-id
decreases-loop-id l = length l.base.table - length l.self.column
