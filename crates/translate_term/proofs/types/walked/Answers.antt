use Rattle.translate_term.specs.GrowLaws.{Grows-refl, Grows-trans}
use Rattle.translate_term.proofs.TypeTurns.{type_begins}
use Rattle.translate_term.proofs.types.walked.Goals as goal

pub loop-task-init : goal.loop-task-init
loop-task-init c = (Grows-refl _, λ given s. rw (c.in_ok-push.ensures.pushed, c.requires.nothing_else) (type_begins given _ _ _ _ _ s))

pub turn-requires : goal.turn-requires
turn-requires c = (c.requires.begins.0, _, rw c.in-Some.ensures.popped at c.loop-task.invariant.1 c.requires.begins.0 c.requires.begins.1)

pub loop-task-preserved : goal.loop-task-preserved
loop-task-preserved c = (
  Grows-trans c.loop-task.invariant.0 c.in_ok-turn.ensures.grows,
  λ given s. c.in_ok-turn.ensures.walk given _ (rw c.in-Some.ensures.popped at c.loop-task.invariant.1 given s),
)

pub returns-clause-ends : goal.returns-clause-ends
returns-clause-ends c = λ given s. rw c.in_default.ensures.popped at c.loop-task.invariant.1 given s

pub loop-task-smaller : goal.loop-task-smaller
loop-task-smaller c = rw c.in-Some.ensures.popped c.in_ok-turn.ensures.less

pub returns-in_err-turn-clause-grows : goal.returns-in_err-turn-clause-grows
returns-in_err-turn-clause-grows c = Grows-trans c.loop-task.invariant.0 c.turn.ensures.grows
