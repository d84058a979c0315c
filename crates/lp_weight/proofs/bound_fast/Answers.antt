use Rattle.lp_weight.proofs.bound_fast.Goals as goal

pub bound_fast-requires-clause-weights : goal.bound_fast-requires-clause-weights
bound_fast-requires-clause-weights c = c.new-weights.ensures c.args.base.now
