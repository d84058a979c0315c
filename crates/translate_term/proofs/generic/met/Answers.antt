use Rattle.translate_term.proofs.generic.met.Goals as goal

pub loop-next-init : goal.loop-next-init
loop-next-init c = λ want root m. rw c.in_ok-push.ensures.pushed m

pub loop-next-preserved : goal.loop-next-preserved
loop-next-preserved c = λ want root m. c.in_ok-turn.ensures.matching want root (rw c.in-Some.ensures.popped at c.loop-next.invariant want root m)

pub returns : goal.returns
returns c = λ want root m. rw c.in_default.ensures.popped at c.loop-next.invariant want root m

pub turn-requires : goal.turn-requires
turn-requires c = (c.requires.0, c.requires.1, rw c.in-Some.ensures.popped at c.loop-next.invariant c.requires.0 c.requires.1 c.requires.2)

pub loop-next-smaller : goal.loop-next-smaller
loop-next-smaller c = rw c.in-Some.ensures.popped c.in_ok-turn.ensures.less
