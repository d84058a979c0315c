use Rattle.std.proofs.Common.{◌≡◌, ◌+◌, ◌∷◌, ap, arith, subst, sym, ◌∙◌}
use Rattle.std.specs.Prelude.{drop}
use Rattle.std.proofs.lemmas.List.{drop_all, drop_more}
use Rattle.hol_term.specs.Subterms.{variables_of}
use Rattle.hol_term.specs.Tables.{term_at}
use Rattle.hol_variables.specs.Variables.{variable_view}
use Rattle.hol_variables.proofs.Walked.{AreLooked, looked_found, looked_none}
use Rattle.hol_variables.proofs.walking.is_walked.Goals as goal

pub returns-then-is_same : goal.returns-then-is_same
returns-then-is_same c =
    let trees = c.args.terms.now in
    let v = variable_view trees c.args.variable.now in
    let items = c.deref-own-items.result.now in
    let own = c.own-item.result in
    let rest = drop (c.loop-own.own-index + 1) items in
    let front : drop c.loop-own.own-index items ≡ own ∷ rest =
    drop_more items c.loop-own.own-index own c.loop-own-test.true ∙ ap (λ x. x ∷ rest) (sym c.own-item.is) in
    let h = subst (AreLooked trees v items) front c.loop-own.invariant in
    let a = ap (variables_of trees) c.deref-own-items.ensures.value ∙ c.in_ok-variables.ensures.variables in
    looked_found trees v items rest own h (term_at trees c.args.id.0) a
    (sym (c.is_same.ensures trees c.in_ok-variables.ensures.one_each c.requires.variable h.types.0) ∙ c.if-is_same.true)

pub returns : goal.returns
returns c =
    let trees = c.args.terms.now in
    let v = variable_view trees c.args.variable.now in
    let items = c.deref-own-items.result.now in
    let a = ap (variables_of trees) c.deref-own-items.ensures.value ∙ c.in_ok-variables.ensures.variables in
    looked_none trees v items (term_at trees c.args.id.0)
    (subst (AreLooked trees v items) (drop_all c.loop-own.own-index items (omega (arith, c.loop-own-test.false))) c.loop-own.invariant) a
