use Rattle.translate_term.specs.GrowLaws.{Grows-refl, Grows-trans}
use Rattle.translate_term.proofs.ClosedTurns.{type_one, type_ends}
use Rattle.translate_term.proofs.closed.type_made.Goals as goal

pub loop-work-init : goal.loop-work-init
loop-work-init c = (Grows-refl _, λ given root w. rw c.in_ok-push.ensures.pushed w)

pub turn_type-requires : goal.turn_type-requires
turn_type-requires c = (c.requires.0, c.requires.1, rw c.in-Some.ensures.popped at c.loop-work.invariant.1 c.requires.0 c.requires.1 c.requires.2)

pub loop-work-preserved : goal.loop-work-preserved
loop-work-preserved c = (
  Grows-trans c.loop-work.invariant.0 c.in_ok-left.ensures.grows,
  λ given root w. c.in_ok-left.ensures.walk given root (rw c.in-Some.ensures.popped at c.loop-work.invariant.1 given root w),
)

pub one-requires : goal.one-requires
one-requires c = type_one c.requires.0 c.requires.1 _ _ _ _ (rw c.in_default.ensures.popped at c.loop-work.invariant.1 c.requires.0 c.requires.1 c.requires.2)

pub returns-clause-made : goal.returns-clause-made
returns-clause-made c = λ given root w. type_ends given root _ _ _ c.one.result _ _ c.one.ensures
    (rw c.in_default.ensures.popped at c.loop-work.invariant.1 given root w)

pub loop-work-smaller : goal.loop-work-smaller
loop-work-smaller c = rw c.in-Some.ensures.popped c.in_ok-left.ensures.less

pub returns-in_err-left-clause-grows : goal.returns-in_err-left-clause-grows
returns-in_err-left-clause-grows c = Grows-trans c.loop-work.invariant.0 c.turn_type.ensures.grows
