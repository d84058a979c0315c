use Rattle.std.proofs.Common.{subst, ap, arith}
use Rattle.hol_spec.specs.Primitives.{function}
use Rattle.hol_spec.specs.Terms.{app, free}
use Rattle.hol_term.specs.Tables.{type_at}
use Rattle.hol_term.specs.TableLaws.{Keeps-trans}
use Rattle.hol_rules.specs.Laws.{IsTypeOf}
use Rattle.hol_rules.specs.Premises.{IsNumberOf}
use Rattle.hol_rules.proofs.ConstantImage.{held}
use Rattle.hol_rules.proofs.LawTrees.{IfOk-abstracted, first-closed, own-number, own-type, number-kept, type-kept}
use Rattle.hol_rules.proofs.laws.first_law_closed.Goals as goal

pub composed-requires-clause-outer : goal.composed-requires-clause-outer
composed-requires-clause-outer c = (number-kept c.free.ensures.keeps (own-number c.args.terms.now c.args.part.abs c.requires.part.abs)).known

pub composed-requires-clause-inner : goal.composed-requires-clause-inner
composed-requires-clause-inner c = (number-kept c.free.ensures.keeps (own-number c.args.terms.now c.args.part.rep c.requires.part.rep)).known

pub composed-requires-clause-argument : goal.composed-requires-clause-argument
composed-requires-clause-argument c = c.in-Ok.ensures.known

pub function_type-requires-clause-domain : goal.function_type-requires-clause-domain
function_type-requires-clause-domain c =
    (type-kept (Keeps-trans c.free.ensures.keeps c.composed.ensures.keeps) (own-type c.args.terms.now c.args.variable.now.ty c.requires.variable)).known

pub function_type-requires-clause-codomain : goal.function_type-requires-clause-codomain
function_type-requires-clause-codomain c =
    (type-kept (Keeps-trans c.free.ensures.keeps c.composed.ensures.keeps) (own-type c.args.terms.now c.args.variable.now.ty c.requires.variable)).known

pub abstractions-requires-clause-variable : goal.abstractions-requires-clause-variable
abstractions-requires-clause-variable c =
    (type-kept (Keeps-trans (Keeps-trans c.free.ensures.keeps c.composed.ensures.keeps) c.function_type.ensures.keeps)
    (own-type c.args.terms.now c.args.variable.now.ty c.requires.variable)).known

pub abstractions-requires-clause-left : goal.abstractions-requires-clause-left
abstractions-requires-clause-left c = (number-kept c.function_type.ensures.keeps c.in_ok-both.ensures.made).known

pub abstractions-requires-clause-right : goal.abstractions-requires-clause-right
abstractions-requires-clause-right c = omega (arith, c.in-Ok.ensures.known, c.composed.ensures.keeps.longer, c.function_type.ensures.keeps.longer)

pub abstractions-requires-clause-ty : goal.abstractions-requires-clause-ty
abstractions-requires-clause-ty c = c.in_ok-ty.ensures.made.known

pub returns-in_err-both-clause-keeps : goal.returns-in_err-both-clause-keeps
returns-in_err-both-clause-keeps c = Keeps-trans c.free.ensures.keeps c.composed.ensures.keeps

pub returns-in_err-ty-clause-keeps : goal.returns-in_err-ty-clause-keeps
returns-in_err-ty-clause-keeps c = Keeps-trans (Keeps-trans c.free.ensures.keeps c.composed.ensures.keeps) c.function_type.ensures.keeps

pub returns-clause-keeps : goal.returns-clause-keeps
returns-clause-keeps c = Keeps-trans (Keeps-trans (Keeps-trans c.free.ensures.keeps c.composed.ensures.keeps) c.function_type.ensures.keeps)
    c.abstractions.ensures.keeps

pub returns-clause-made : goal.returns-clause-made
returns-clause-made c =
    let k0 = c.args.terms.now in
    let k1 = c.free.new.self in
    let k2 = c.composed.new.terms in
    let k3 = c.function_type.new.terms in
    let v = c.args.variable.now in
    let n = type_at k0 v.ty.0 in
    let own = held k1 c.in-Ok.own (free v.name n) c.in-Ok.ensures.known c.in-Ok.ensures.made in
    let to = (number-kept c.free.ensures.keeps (own-number k0 c.args.part.abs c.requires.part.abs)).is in
    let from = (number-kept c.free.ensures.keeps (own-number k0 c.args.part.rep c.requires.part.rep)).is in
    let both = number-kept c.function_type.ensures.keeps
    (subst (IsNumberOf k2 c.in_ok-both.both) (λ i. app (to i) (app (from i) (own.is i))) c.in_ok-both.ensures.made) in
    let part = type-kept (Keeps-trans c.free.ensures.keeps c.composed.ensures.keeps) (own-type k0 v.ty c.requires.variable) in
    let ty = subst (IsTypeOf k3 c.in_ok-ty.ty) (λ i. function (part.is i) (part.is i)) c.in_ok-ty.ensures.made in
    let same = ap (λ t. (v.name, t)) (type-kept c.function_type.ensures.keeps part).is in
    IfOk-abstracted k3 c.abstractions.new.terms v (v.name, n) c.in_ok-both.both c.in-Ok.own c.abstractions.result c.in_ok-ty.ty _ _ _ same ty both
    (number-kept (Keeps-trans c.composed.ensures.keeps c.function_type.ensures.keeps) own) _
    (first-closed (v.name, n) _ _ c.requires.part.abs_closed c.requires.part.rep_closed) c.abstractions.ensures.made
