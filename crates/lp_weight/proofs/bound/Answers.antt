use Rattle.lp_weight.proofs.bound.Goals as goal

pub bound-requires-clause-weights : goal.bound-requires-clause-weights
bound-requires-clause-weights c = c.new-weights.ensures c.args.base.now
