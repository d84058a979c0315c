use Rattle.std.proofs.Common.{◌∙◌, ap, ◌∷◌, refl}
use Rattle.lp_conv.specs.declared.conversion.Left.TheVariants as left
use Rattle.lp_conv.specs.BudgetLaws.{ticked, not_ticked}
use Rattle.lp_conv.proofs.Converted.{start-convert, next-convert, differs-end, spent-end, done-end, done-sound}
use Rattle.lp_conv.proofs.conversion.conv.Goals as goal

pub loop-a-init : goal.loop-a-init
loop-a-init c = start-convert _ c.args.expected c.args.found _ _ c.requires.held c.requires.expected c.requires.found
    (c.in_ok-push.ensures.pushed ∙ ap (λ l. (c.args.expected, c.args.found) ∷ l) c.new-pairs.ensures.empty)

pub returns-then-not-tick-clause-answered : goal.returns-then-not-tick-clause-answered
returns-then-not-tick-clause-answered c = spent-end _ c.args.expected c.args.found _ c.loop-a.base c.loop-a.budget.left _ c.loop-a.pairs c.pop.new.self
    c.loop-a.invariant c.in-Some.ensures.popped (not_ticked _ _ _ c.tick.ensures.taken c.if-not-tick.true)

pub loop-a-preserved-in-Nothing : goal.loop-a-preserved-in-Nothing
loop-a-preserved-in-Nothing c = next-convert _ c.args.expected c.args.found _ c.loop-a.base c.turn.new.base c.loop-a.budget.left _ c.in-Some.a c.in-Some.b
    c.loop-a.pairs c.pop.new.self c.in_ok-turn.field-0 c.loop-a.invariant c.in-Some.ensures.popped c.turn.ensures.grows c.in_ok-turn.ensures.is
    (ticked _ _ _ c.tick.ensures.taken c.tick.ensures.spent c.if-not-tick.false) left.Nothing _ c.in_ok-turn.ensures.known c.in-Nothing.is (λ d. cc) refl

pub loop-a-preserved-in-Continue-branch-4 : goal.loop-a-preserved-in-Continue-branch-4
loop-a-preserved-in-Continue-branch-4 c = next-convert _ c.args.expected c.args.found _ c.loop-a.base c.turn.new.base c.loop-a.budget.left _ c.in-Some.a
    c.in-Some.b c.loop-a.pairs c.pop.new.self c.in_ok-turn.field-0 c.loop-a.invariant c.in-Some.ensures.popped c.turn.ensures.grows c.in_ok-turn.ensures.is
    (ticked _ _ _ c.tick.ensures.taken c.tick.ensures.spent c.if-not-tick.false) (left.One c.in-One.g c.in-One.h) _ c.in_ok-turn.ensures.known c.in-One.is
    (λ d. cc) c.in_ok-push-in-One.ensures.pushed

pub loop-a-preserved : goal.loop-a-preserved
loop-a-preserved c = next-convert _ c.args.expected c.args.found _ c.loop-a.base c.turn.new.base c.loop-a.budget.left _ c.in-Some.a c.in-Some.b c.loop-a.pairs
    c.pop.new.self c.in_ok-turn.field-0 c.loop-a.invariant c.in-Some.ensures.popped c.turn.ensures.grows c.in_ok-turn.ensures.is
    (ticked _ _ _ c.tick.ensures.taken c.tick.ensures.spent c.if-not-tick.false) (left.Two c.in-Two.g c.in-Two.h c.in-Two.x c.in-Two.y) _
    c.in_ok-turn.ensures.known c.in-Two.is (λ d. cc) (c.in_ok-push-in-Two-2.ensures.pushed
    ∙ ap (λ l. (c.in-Two.g, c.in-Two.h) ∷ l) c.in_ok-push-in-Two.ensures.pushed)

pub returns-in-Differs-clause-answered : goal.returns-in-Differs-clause-answered
returns-in-Differs-clause-answered c = differs-end _ c.args.expected c.args.found _ c.loop-a.base c.turn.new.base c.loop-a.budget.left _ c.in-Some.a c.in-Some.b
    c.loop-a.pairs c.pop.new.self c.in_ok-turn.field-0 c.loop-a.invariant c.in-Some.ensures.popped c.turn.ensures.grows c.in_ok-turn.ensures.is
    (ticked _ _ _ c.tick.ensures.taken c.tick.ensures.spent c.if-not-tick.false) c.in-Differs.is

pub returns-clause-answered : goal.returns-clause-answered
returns-clause-answered c = done-end _ c.args.expected c.args.found _ c.loop-a.base c.loop-a.budget.left c.loop-a.pairs c.loop-a.invariant
    c.in_default.ensures.popped

pub returns-clause-sound : goal.returns-clause-sound
returns-clause-sound c e = done-sound _ c.args.expected c.args.found _ c.loop-a.base c.loop-a.budget.left c.loop-a.pairs c.loop-a.invariant
    c.in_default.ensures.popped
