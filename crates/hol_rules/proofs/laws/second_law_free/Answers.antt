use Rattle.std.proofs.Common.{subst, arith}
use Rattle.hol_spec.specs.Terms.{app, free}
use Rattle.hol_term.specs.Tables.{type_at}
use Rattle.hol_term.specs.TableLaws.{Keeps-trans}
use Rattle.hol_rules.specs.Premises.{IsNumberOf}
use Rattle.hol_rules.proofs.ConstantImage.{held}
use Rattle.hol_rules.proofs.LawTrees.{IfOk-equated, applied, equated, own-number, own-type, number-kept, type-kept}
use Rattle.hol_rules.proofs.laws.second_law_free.Goals as goal

pub composed-requires-clause-outer : goal.composed-requires-clause-outer
composed-requires-clause-outer c = (number-kept c.free.ensures.keeps (own-number c.args.terms.now c.args.part.rep c.requires.part.rep)).known

pub composed-requires-clause-inner : goal.composed-requires-clause-inner
composed-requires-clause-inner c = (number-kept c.free.ensures.keeps (own-number c.args.terms.now c.args.part.abs c.requires.part.abs)).known

pub composed-requires-clause-argument : goal.composed-requires-clause-argument
composed-requires-clause-argument c = c.in-Ok.ensures.known

pub raw_equation-requires-clause-ty : goal.raw_equation-requires-clause-ty
raw_equation-requires-clause-ty c =
    (type-kept (Keeps-trans c.free.ensures.keeps c.composed.ensures.keeps) (own-type c.args.terms.now c.args.variable.now.ty c.requires.variable)).known

pub raw_equation-requires-clause-left : goal.raw_equation-requires-clause-left
raw_equation-requires-clause-left c = c.in_ok-both.ensures.made.known

pub raw_equation-requires-clause-right : goal.raw_equation-requires-clause-right
raw_equation-requires-clause-right c = omega (arith, c.in-Ok.ensures.known, c.composed.ensures.keeps.longer)

pub raw_application-requires-clause-function : goal.raw_application-requires-clause-function
raw_application-requires-clause-function c =
    (number-kept (Keeps-trans (Keeps-trans c.free.ensures.keeps c.composed.ensures.keeps) c.raw_equation.ensures.keeps)
    (own-number c.args.terms.now c.args.predicate c.requires.predicate)).known

pub raw_application-requires-clause-argument : goal.raw_application-requires-clause-argument
raw_application-requires-clause-argument c = omega (arith, c.in-Ok.ensures.known, c.composed.ensures.keeps.longer, c.raw_equation.ensures.keeps.longer)

pub raw_equation-requires-2-clause-ty : goal.raw_equation-requires-2-clause-ty
raw_equation-requires-2-clause-ty c = c.in_ok-truth.ensures.made.known

pub raw_equation-requires-2-clause-left : goal.raw_equation-requires-2-clause-left
raw_equation-requires-2-clause-left c = omega (arith, c.in_ok-holds.ensures.known, c.truth_type.ensures.keeps.longer)

pub raw_equation-requires-2-clause-right : goal.raw_equation-requires-2-clause-right
raw_equation-requires-2-clause-right c = omega (arith, c.in_ok-back.ensures.known, c.raw_application.ensures.keeps.longer, c.truth_type.ensures.keeps.longer)

pub returns-in_err-both-clause-keeps : goal.returns-in_err-both-clause-keeps
returns-in_err-both-clause-keeps c = Keeps-trans c.free.ensures.keeps c.composed.ensures.keeps

pub returns-in_err-back-clause-keeps : goal.returns-in_err-back-clause-keeps
returns-in_err-back-clause-keeps c = Keeps-trans (Keeps-trans c.free.ensures.keeps c.composed.ensures.keeps) c.raw_equation.ensures.keeps

pub returns-in_err-holds-clause-keeps : goal.returns-in_err-holds-clause-keeps
returns-in_err-holds-clause-keeps c = Keeps-trans (Keeps-trans (Keeps-trans c.free.ensures.keeps c.composed.ensures.keeps) c.raw_equation.ensures.keeps)
    c.raw_application.ensures.keeps

pub returns-in_err-truth-clause-keeps : goal.returns-in_err-truth-clause-keeps
returns-in_err-truth-clause-keeps c = Keeps-trans
    (Keeps-trans (Keeps-trans (Keeps-trans c.free.ensures.keeps c.composed.ensures.keeps) c.raw_equation.ensures.keeps) c.raw_application.ensures.keeps)
    c.truth_type.ensures.keeps

pub returns-clause-keeps : goal.returns-clause-keeps
returns-clause-keeps c = Keeps-trans
    (Keeps-trans (Keeps-trans (Keeps-trans (Keeps-trans c.free.ensures.keeps c.composed.ensures.keeps) c.raw_equation.ensures.keeps)
    c.raw_application.ensures.keeps) c.truth_type.ensures.keeps) c.raw_equation-2.ensures.keeps

pub returns-clause-made : goal.returns-clause-made
returns-clause-made c =
    let k0 = c.args.terms.now in
    let k1 = c.free.new.self in
    let k2 = c.composed.new.terms in
    let k3 = c.raw_equation.new.self in
    let k4 = c.raw_application.new.self in
    let k5 = c.truth_type.new.terms in
    let v = c.args.variable.now in
    let own = held k1 c.in-Ok.own (free v.name (type_at k0 v.ty.0)) c.in-Ok.ensures.known c.in-Ok.ensures.made in
    let to = (number-kept c.free.ensures.keeps (own-number k0 c.args.part.abs c.requires.part.abs)).is in
    let from = (number-kept c.free.ensures.keeps (own-number k0 c.args.part.rep c.requires.part.rep)).is in
    let both = subst (IsNumberOf k2 c.in_ok-both.both) (λ i. app (from i) (app (to i) (own.is i))) c.in_ok-both.ensures.made in
    let at2 = Keeps-trans c.free.ensures.keeps c.composed.ensures.keeps in
    let at3 = Keeps-trans at2 c.raw_equation.ensures.keeps in
    let own2 = number-kept c.composed.ensures.keeps own in
    let back = equated k2 k3 v.ty c.in_ok-both.both c.in-Ok.own c.in_ok-back.back _ _ _ (type-kept at2 (own-type k0 v.ty c.requires.variable)) both own2
    c.in_ok-back.ensures.known c.in_ok-back.ensures.made in
    let holds = applied k3 k4 c.args.predicate c.in-Ok.own c.in_ok-holds.holds _ _ (number-kept at3 (own-number k0 c.args.predicate c.requires.predicate))
    (number-kept c.raw_equation.ensures.keeps own2) c.in_ok-holds.ensures.known c.in_ok-holds.ensures.made in
    let later = Keeps-trans c.raw_application.ensures.keeps c.truth_type.ensures.keeps in
    IfOk-equated k5 c.raw_equation-2.new.self c.in_ok-truth.truth c.in_ok-holds.holds c.in_ok-back.back c.raw_equation-2.result _ _ _ c.in_ok-truth.ensures.made
    (number-kept c.truth_type.ensures.keeps holds) (number-kept later back) c.raw_equation-2.ensures.known c.raw_equation-2.ensures.made
