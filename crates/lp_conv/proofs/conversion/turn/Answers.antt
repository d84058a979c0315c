use Rattle.lp_conv.specs.GrowthLaws.{IsHeld-Grows, declarations_of-Grows}
use Rattle.lp_conv.proofs.Converted.{turn-same, turn-left, turn-right, turn-parts}
use Rattle.lp_conv.proofs.conversion.turn.Goals as goal

pub head_step-requires-2-clause-held : goal.head_step-requires-2-clause-held
head_step-requires-2-clause-held c = IsHeld-Grows _ _ c.head_step.ensures.grows c.requires.held

pub returns-then-eq-clause-is : goal.returns-then-eq-clause-is
returns-then-eq-clause-is c = turn-same _ _ c.args.e c.args.f c.if-eq.ensures

pub returns-in-Some-clause-is : goal.returns-in-Some-clause-is
returns-in-Some-clause-is c =
    turn-left _ _ _ c.args.e c.args.f c.in-Some.g c.requires.held.distinct c.requires.e c.requires.f c.if-eq.ensures c.head_step.ensures.grows.keeps.stays
    (rw c.in-Some.is at c.in_ok-g.ensures.step)

pub returns-in-Some-2-clause-is : goal.returns-in-Some-2-clause-is
returns-in-Some-2-clause-is c =
    turn-right _ _ _ _ _ c.args.e c.args.f c.in-Some-2.g c.requires.held.distinct c.requires.e c.requires.f c.if-eq.ensures
    c.head_step.ensures.grows.keeps.stays c.head_step-2.ensures.grows.keeps.stays
    (rw c.in_default.is at c.in_ok-g.ensures.step) (declarations_of-Grows _ _ c.head_step.ensures.grows c.requires.held)
    (rw c.in-Some-2.is at c.in_ok-g-2.ensures.step)

pub returns-clause-is : goal.returns-clause-is
returns-clause-is c =
    turn-parts _ _ _ _ _ c.args.e c.args.f c.view.result c.view-2.result c.parts.result c.requires.held.distinct c.requires.e c.requires.f c.if-eq.ensures
    c.head_step.ensures.grows.keeps.stays c.head_step-2.ensures.grows.keeps.stays
    (rw c.in_default.is at c.in_ok-g.ensures.step) (declarations_of-Grows _ _ c.head_step.ensures.grows c.requires.held)
    (rw c.in_default-2.is at c.in_ok-g-2.ensures.step) c.view.ensures.is c.view-2.ensures.is c.parts.ensures
