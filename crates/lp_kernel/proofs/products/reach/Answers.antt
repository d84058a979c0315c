use Rattle.std.proofs.Common.{arith}
use Rattle.lp_conv.specs.BudgetLaws.{ticked, not_ticked}
use Rattle.lp_conv.specs.GrowthLaws.{Grows-trans}
use Rattle.lp_kernel.proofs.Reached.{reach-product, reach-none, reach-more, reach-over}
use Rattle.lp_kernel.proofs.products.reach.Goals as goal

pub returns-in-Pi-clause-answered : goal.returns-in-Pi-clause-answered
returns-in-Pi-clause-answered c = reach-product _ c.args.id _ c.loop-domain.base c.loop-domain.reached _ c.view.result c.loop-domain.invariant c.view.ensures.is
    c.in-Pi._domain c.in-Pi._body c.in-Pi.is

pub returns-in-None : goal.returns-in-None
returns-in-None c = record {
  grows = Grows-trans c.loop-domain.invariant.grows c.head_step.ensures.grows;
  known = tt;
  less = c.loop-domain.invariant.less;
  answered = reach-none _ c.args.id _ c.loop-domain.base c.loop-domain.reached _ c.view.result c.loop-domain.invariant c.view.ensures.is c.in_default.not-Pi
      c.head_step.new.base c.head_step.ensures.grows (rw c.in-None.is at c.in_ok-head_step.ensures.step);
}

pub returns-then-not-tick : goal.returns-then-not-tick
returns-then-not-tick c = record {
  grows = Grows-trans c.loop-domain.invariant.grows c.head_step.ensures.grows;
  known = tt;
  less = omega (arith, (c.tick.ensures.spent (not_ticked _ _ _ c.tick.ensures.taken c.if-not-tick.true)).1);
  answered = reach-over _ c.args.id _ c.loop-domain.base c.loop-domain.reached _ c.view.result c.loop-domain.invariant c.view.ensures.is c.in_default.not-Pi
      c.head_step.new.base _ c.head_step.ensures.grows (rw c.in-Some.is at c.in_ok-head_step.ensures.step)
      (not_ticked _ _ _ c.tick.ensures.taken c.if-not-tick.true);
}

pub loop-domain-preserved : goal.loop-domain-preserved
loop-domain-preserved c =
    reach-more _ c.args.id _ c.loop-domain.base c.loop-domain.reached _ c.view.result c.loop-domain.invariant c.view.ensures.is c.in_default.not-Pi
    c.head_step.new.base c.in-Some.made _ c.head_step.ensures.grows
    (rw c.in-Some.is at c.in_ok-head_step.ensures.known) (rw c.in-Some.is at c.in_ok-head_step.ensures.step)
    (omega (arith, ticked _ _ _ c.tick.ensures.taken c.tick.ensures.spent c.if-not-tick.false))
    (omega (arith, ticked _ _ _ c.tick.ensures.taken c.tick.ensures.spent c.if-not-tick.false))
