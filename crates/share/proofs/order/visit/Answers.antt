use Rattle.std.proofs.Common.{refl, ◌∙◌}
use Rattle.share.proofs.order.visit.Goals as goal

pub loop-turn-init : goal.loop-turn-init
loop-turn-init c = rw (c.in_ok-push.ensures.pushed, c.requires.begun) record
    { order = refl; meeting = c.requires.meeting; below = (c.requires.known, tt); length = refl }

pub take-requires-clause-meeting : goal.take-requires-clause-meeting
take-requires-clause-meeting c = c.loop-turn.invariant.meeting

pub take-requires-clause-below : goal.take-requires-clause-below
take-requires-clause-below c = rw c.in-Some.ensures.popped at c.loop-turn.invariant.below

pub loop-turn-preserved : goal.loop-turn-preserved
loop-turn-preserved c = record {
  order = c.in_ok-take.ensures.order ∙ (rw c.in-Some.ensures.popped at c.loop-turn.invariant.order);
  meeting = c.in_ok-take.ensures.meeting;
  below = c.in_ok-take.ensures.below;
  length = c.in_ok-take.ensures.length ∙ c.loop-turn.invariant.length;
}

pub returns-clause-order : goal.returns-clause-order
returns-clause-order c = rw c.in_default.ensures.popped at c.loop-turn.invariant.order

pub returns-clause-meeting : goal.returns-clause-meeting
returns-clause-meeting c = c.loop-turn.invariant.meeting

pub returns-clause-length : goal.returns-clause-length
returns-clause-length c = c.loop-turn.invariant.length
