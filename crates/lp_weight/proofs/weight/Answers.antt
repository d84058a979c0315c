use Rattle.lp_weight.proofs.weight.Goals as goal

pub weight-requires-clause-weights : goal.weight-requires-clause-weights
weight-requires-clause-weights c = c.new-weights.ensures c.args.base.now
