use Rattle.compose.proofs.order.compare.Goals as goal

pub returns : goal.returns
returns c = c.ordering.ensures c.args.a.now c.args.b.now c.least_beyond.ensures c.least_beyond-2.ensures
