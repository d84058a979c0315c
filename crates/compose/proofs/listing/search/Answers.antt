use Rattle.std.proofs.Common.{◌-◌, subst, arith}
use Rattle.compose.specs.Orders.{IsBefore}
use Rattle.compose.proofs.ListedLaws.{between-above, between-below}
use Rattle.compose.proofs.listing.search.Goals as goal

pub loop-low-preserved-in-Less : goal.loop-low-preserved-in-Less
loop-low-preserved-in-Less c = record {
  between = between-above c.args.held.now c.args.list.now c.args.hyps.now c.loop-low.low c.loop-low.high _ c.requires.ordered c.loop-low.invariant.between
      (omega (arith, c.loop-low-test.true)) (omega arith) (subst (λ s. IsBefore s c.args.hyps.now) c.hyps_at.ensures c.in-Less.ensures);
}

pub loop-low-preserved : goal.loop-low-preserved
loop-low-preserved c = record {
  between = between-below c.args.held.now c.args.list.now c.args.hyps.now c.loop-low.low c.loop-low.high _ c.requires.ordered c.loop-low.invariant.between
      (omega (arith, c.loop-low-test.true)) (omega arith) (subst (λ s. IsBefore c.args.hyps.now s) c.hyps_at.ensures c.in-Greater.ensures);
}
