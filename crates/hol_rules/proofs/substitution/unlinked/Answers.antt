use Rattle.std.proofs.Common.{refl}
use Rattle.hol_rules.proofs.Chaining.{unlinking_begins, unlinking_goes_on, unlinking_stops}
use Rattle.hol_rules.proofs.substitution.unlinked.Goals as goal

pub loop-place-init : goal.loop-place-init
loop-place-init c = rw c.new-links.ensures.items (unlinking_begins c.args.terms.now c.args.count c.args.whole c.requires)

pub loop-place-preserved : goal.loop-place-preserved
loop-place-preserved c =
    rw c.in_ok-push.ensures.items (
    unlinking_goes_on c.args.terms.now c.args.count _ c.loop-place.links.items c.loop-place.rest c.loop-place._place c.loop-place.invariant
    c.loop-place-test.true
    c.in-App.link c.in-App.next c.in-App.ensures.is c.in-App.ensures.lower.0 c.in-App.ensures.lower.1
    )

pub returns-in_default : goal.returns-in_default
returns-in_default c =
    unlinking_stops c.args.terms.now c.args.count _ c.loop-place.links.items c.loop-place.rest c.loop-place._place c.loop-place.invariant c.view.result
    c.view.ensures.is c.in_default.not-App _ refl refl
