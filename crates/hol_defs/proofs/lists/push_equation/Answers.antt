use Rattle.std.proofs.Common.{ap, sym, subst, ◌∙◌, ◌++◌, ◌∷◌, [], map}
use Rattle.std.specs.Prelude.{IfSome}
use Rattle.std.specs.Option.{option_map}
use Rattle.std.proofs.lemmas.List.{append-nil, map-append}
use Rattle.hol_defs.specs.Lists.{equation_at, IsEquationKnown}
use Rattle.hol_defs.proofs.EquationLaws.{one_said, other_said}
use Rattle.hol_defs.proofs.lists.push_equation.Goals as goal

pub returns-then-not-has-clause-said : goal.returns-then-not-has-clause-said
returns-then-not-has-clause-said c =
    let trees = c.args.table.now in
    let old = map (equation_at trees) c.args.all.now.items in
    let known = subst (λ o. IfSome o (IsEquationKnown trees)) c.in-Some.is c.in_ok-equation.ensures.known in
    sym (ap (λ l. old ++ l) (
    other_said trees c.args.variables.now c.args.hyp c.in-Some.equation (sym (ap (option_map (equation_at trees)) c.in-Some.is) ∙ c.in_ok-equation.ensures.says)
    c.requires.distinct c.requires.variables known.ty (
    sym c.has.ensures ∙ c.if-not-has.true)) ∙ append-nil old)

pub returns-clause-said : goal.returns-clause-said
returns-clause-said c =
    let trees = c.args.table.now in
    let old = map (equation_at trees) c.args.all.now.items in
    let known = subst (λ o. IfSome o (IsEquationKnown trees)) c.in-Some.is c.in_ok-equation.ensures.known in
    ap (map (equation_at trees)) c.in_ok-push.ensures.items ∙ map-append (equation_at trees) c.args.all.now.items (c.in-Some.equation ∷ [])
    ∙ ap (λ l. old ++ l) (sym (
    one_said trees c.args.variables.now c.args.hyp c.in-Some.equation (sym (ap (option_map (equation_at trees)) c.in-Some.is) ∙ c.in_ok-equation.ensures.says)
    c.requires.distinct c.requires.variables known.ty (
    sym c.has.ensures ∙ c.if-not-has.false)))
