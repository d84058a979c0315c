use Rattle.std.proofs.Common.{subst}
use Rattle.hol_spec.specs.Rules.{abstraction}
use Rattle.hol_term.specs.Tables.{term_at}
use Rattle.hol_term.specs.TableLaws.{Keeps-trans}
use Rattle.hol_rules.specs.Premises.{IsNumberOf}
use Rattle.hol_rules.specs.Views.{variable_view}
use Rattle.hol_rules.proofs.ConstantImage.{held}
use Rattle.hol_rules.proofs.LawTrees.{IfOk-equated, own-number, own-type, number-kept, type-kept, variable-kept}
use Rattle.hol_rules.proofs.laws.abstractions.Goals as goal

pub raw_abstraction-requires-2-clause-variable : goal.raw_abstraction-requires-2-clause-variable
raw_abstraction-requires-2-clause-variable c =
    (type-kept c.raw_abstraction.ensures.keeps (own-type c.args.terms.now c.args.variable.now.ty c.requires.variable)).known

pub raw_abstraction-requires-2-clause-body : goal.raw_abstraction-requires-2-clause-body
raw_abstraction-requires-2-clause-body c = (number-kept c.raw_abstraction.ensures.keeps (own-number c.args.terms.now c.args.right c.requires.right)).known

pub raw_equation-requires-clause-ty : goal.raw_equation-requires-clause-ty
raw_equation-requires-clause-ty c =
    (type-kept (Keeps-trans c.raw_abstraction.ensures.keeps c.raw_abstraction-2.ensures.keeps) (own-type c.args.terms.now c.args.ty c.requires.ty)).known

pub raw_equation-requires-clause-left : goal.raw_equation-requires-clause-left
raw_equation-requires-clause-left c =
    (number-kept c.raw_abstraction-2.ensures.keeps (own-number c.raw_abstraction.new.self c.in_ok-left.left c.in_ok-left.ensures.known)).known

pub raw_equation-requires-clause-right : goal.raw_equation-requires-clause-right
raw_equation-requires-clause-right c = c.in_ok-right.ensures.known

pub returns-in_err-right-clause-keeps : goal.returns-in_err-right-clause-keeps
returns-in_err-right-clause-keeps c = Keeps-trans c.raw_abstraction.ensures.keeps c.raw_abstraction-2.ensures.keeps

pub returns-clause-keeps : goal.returns-clause-keeps
returns-clause-keeps c = Keeps-trans (Keeps-trans c.raw_abstraction.ensures.keeps c.raw_abstraction-2.ensures.keeps) c.raw_equation.ensures.keeps

pub returns-clause-made : goal.returns-clause-made
returns-clause-made c =
    let k0 = c.args.terms.now in
    let k1 = c.raw_abstraction.new.self in
    let k2 = c.raw_abstraction-2.new.self in
    let v = c.args.variable.now in
    let first = number-kept c.raw_abstraction-2.ensures.keeps
    (held k1 c.in_ok-left.left (abstraction (variable_view k0 v) (term_at k0 c.args.left.0)) c.in_ok-left.ensures.known c.in_ok-left.ensures.made) in
    let same = variable-kept c.raw_abstraction.ensures.keeps v c.requires.variable in
    let tree = (number-kept c.raw_abstraction.ensures.keeps (own-number k0 c.args.right c.requires.right)).is in
    let second = subst (IsNumberOf k2 c.in_ok-right.right) (λ i. abstraction (same i) (tree i))
    (held k2 c.in_ok-right.right (abstraction (variable_view k1 v) (term_at k1 c.args.right.0)) c.in_ok-right.ensures.known c.in_ok-right.ensures.made) in
    IfOk-equated k2 c.raw_equation.new.self c.args.ty c.in_ok-left.left c.in_ok-right.right c.raw_equation.result _ _ _
    (type-kept (Keeps-trans c.raw_abstraction.ensures.keeps c.raw_abstraction-2.ensures.keeps) (own-type k0 c.args.ty c.requires.ty)) first second
    c.raw_equation.ensures.known c.raw_equation.ensures.made
