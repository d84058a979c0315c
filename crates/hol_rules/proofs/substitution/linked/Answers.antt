use Rattle.hol_rules.proofs.Chaining.{linking_begins, linking_goes_on, link_known}
use Rattle.hol_rules.proofs.substitution.linked.Goals as goal

pub loop-rest-init : goal.loop-rest-init
loop-rest-init c = linking_begins c.args.terms.now c.args.ids.now c.args.last c.requires.ids c.requires.last

pub raw_application-requires-clause-function : goal.raw_application-requires-clause-function
raw_application-requires-clause-function c =
    link_known c.args.terms.now c.loop-rest.terms c.args.ids.now c.loop-rest.rest.now c.args.last c.loop-rest.whole _ c.loop-rest.invariant
    c.in-len1-up.len_at_least

pub loop-rest-preserved : goal.loop-rest-preserved
loop-rest-preserved c =
    linking_goes_on c.args.terms.now c.loop-rest.terms c.args.ids.now c.loop-rest.rest.now c.args.last c.loop-rest.whole _ c.loop-rest.invariant
    c.in-len1-up.len_at_least
    c.raw_application.new.self c.raw_application.ensures.keeps c.in_ok-whole.whole c.in_ok-whole.ensures.known c.in_ok-whole.ensures.made
