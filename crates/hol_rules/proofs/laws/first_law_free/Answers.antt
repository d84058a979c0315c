use Rattle.std.proofs.Common.{subst, arith}
use Rattle.hol_spec.specs.Terms.{app, free}
use Rattle.hol_term.specs.Tables.{type_at}
use Rattle.hol_term.specs.TableLaws.{Keeps-trans}
use Rattle.hol_rules.specs.Premises.{IsNumberOf}
use Rattle.hol_rules.proofs.ConstantImage.{held}
use Rattle.hol_rules.proofs.LawTrees.{IfOk-equated, own-number, own-type, number-kept, type-kept}
use Rattle.hol_rules.proofs.laws.first_law_free.Goals as goal

pub composed-requires-clause-outer : goal.composed-requires-clause-outer
composed-requires-clause-outer c = (number-kept c.free.ensures.keeps (own-number c.args.terms.now c.args.part.abs c.requires.part.abs)).known

pub composed-requires-clause-inner : goal.composed-requires-clause-inner
composed-requires-clause-inner c = (number-kept c.free.ensures.keeps (own-number c.args.terms.now c.args.part.rep c.requires.part.rep)).known

pub composed-requires-clause-argument : goal.composed-requires-clause-argument
composed-requires-clause-argument c = c.in-Ok.ensures.known

pub raw_equation-requires-clause-ty : goal.raw_equation-requires-clause-ty
raw_equation-requires-clause-ty c =
    (type-kept (Keeps-trans c.free.ensures.keeps c.composed.ensures.keeps) (own-type c.args.terms.now c.args.variable.now.ty c.requires.variable)).known

pub raw_equation-requires-clause-left : goal.raw_equation-requires-clause-left
raw_equation-requires-clause-left c = c.in_ok-both.ensures.made.known

pub raw_equation-requires-clause-right : goal.raw_equation-requires-clause-right
raw_equation-requires-clause-right c = omega (arith, c.in-Ok.ensures.known, c.composed.ensures.keeps.longer)

pub returns-in_err-both-clause-keeps : goal.returns-in_err-both-clause-keeps
returns-in_err-both-clause-keeps c = Keeps-trans c.free.ensures.keeps c.composed.ensures.keeps

pub returns-clause-keeps : goal.returns-clause-keeps
returns-clause-keeps c = Keeps-trans (Keeps-trans c.free.ensures.keeps c.composed.ensures.keeps) c.raw_equation.ensures.keeps

pub returns-clause-made : goal.returns-clause-made
returns-clause-made c =
    let k0 = c.args.terms.now in
    let k1 = c.free.new.self in
    let k2 = c.composed.new.terms in
    let v = c.args.variable.now in
    let own = held k1 c.in-Ok.own (free v.name (type_at k0 v.ty.0)) c.in-Ok.ensures.known c.in-Ok.ensures.made in
    let to = (number-kept c.free.ensures.keeps (own-number k0 c.args.part.abs c.requires.part.abs)).is in
    let from = (number-kept c.free.ensures.keeps (own-number k0 c.args.part.rep c.requires.part.rep)).is in
    let both = subst (IsNumberOf k2 c.in_ok-both.both) (λ i. app (to i) (app (from i) (own.is i))) c.in_ok-both.ensures.made in
    let part = type-kept (Keeps-trans c.free.ensures.keeps c.composed.ensures.keeps) (own-type k0 v.ty c.requires.variable) in
    IfOk-equated k2 c.raw_equation.new.self v.ty c.in_ok-both.both c.in-Ok.own c.raw_equation.result _ _ _ part both (number-kept c.composed.ensures.keeps own)
    c.raw_equation.ensures.known c.raw_equation.ensures.made
