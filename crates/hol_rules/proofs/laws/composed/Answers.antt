use Rattle.hol_term.specs.TableLaws.{Keeps-trans}
use Rattle.hol_rules.proofs.LawTrees.{IfOk-applied, applied, own-number, number-kept}
use Rattle.hol_rules.proofs.laws.composed.Goals as goal

pub raw_application-requires-clause-function : goal.raw_application-requires-clause-function
raw_application-requires-clause-function c = c.requires.inner

pub raw_application-requires-clause-argument : goal.raw_application-requires-clause-argument
raw_application-requires-clause-argument c = c.requires.argument

pub raw_application-requires-2-clause-function : goal.raw_application-requires-2-clause-function
raw_application-requires-2-clause-function c = (number-kept c.raw_application.ensures.keeps (own-number c.args.terms.now c.args.outer c.requires.outer)).known

pub raw_application-requires-2-clause-argument : goal.raw_application-requires-2-clause-argument
raw_application-requires-2-clause-argument c = c.in_ok-part.ensures.known

pub returns-clause-keeps : goal.returns-clause-keeps
returns-clause-keeps c = Keeps-trans c.raw_application.ensures.keeps c.raw_application-2.ensures.keeps

pub returns-clause-made : goal.returns-clause-made
returns-clause-made c =
    let k0 = c.args.terms.now in
    let k1 = c.raw_application.new.self in
    let outer = number-kept c.raw_application.ensures.keeps (own-number k0 c.args.outer c.requires.outer) in
    let part = applied k0 k1 c.args.inner c.args.x c.in_ok-part.part _ _ (own-number k0 c.args.inner c.requires.inner)
    (own-number k0 c.args.x c.requires.argument) c.in_ok-part.ensures.known c.in_ok-part.ensures.made in
    IfOk-applied k1 c.raw_application-2.new.self c.args.outer c.in_ok-part.part c.raw_application-2.result _ _ outer part c.raw_application-2.ensures.known
    c.raw_application-2.ensures.made
