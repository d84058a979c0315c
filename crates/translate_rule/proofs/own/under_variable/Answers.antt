use Rattle.std.proofs.Common.{◌∙◌, ap, subst, sym}
use Rattle.std.proofs.lemmas.Result.{IfOk-weaker}
use Rattle.hol_spec.specs.Proofs.{sequent_at}
use Rattle.hol_term.specs.Tables.{terms_at, AreKnown}
use Rattle.translate_spec.specs.Scopes.{lifted, scope_of}
use Rattle.translate_proof.specs.Rescoped.{with_scope}
use Rattle.translate_rule.specs.Steps.{given_at}
use Rattle.translate_rule.proofs.OwnLaws.{placed-under}
use Rattle.translate_rule.proofs.own.under_variable.Goals as goal

pub returns-clause-made : goal.returns-clause-made
returns-clause-made c =
    let k = c.args.step.ground.proof.now in
    IfOk-weaker c.under_variable.result _ _
    (λ env h d symbols declared. h
    (with_scope (given_at d symbols (sequent_at k.made c.args.step.id)) (lifted (scope_of symbols (sequent_at k.made c.args.step.id)))) k.trees
    (placed-under k c.args.step.id d symbols c.args.target.now c.requires.step.held declared _ _ c.requires.step.params _
    (subst (AreKnown k.trees) (sym c.ids-hyps.ensures.numbers) c.sequent.ensures.known.0)
    (ap (terms_at k.trees) c.ids-hyps.ensures.numbers ∙ ap (λ s. s.hypotheses) c.sequent.ensures.is)) c.requires.variable)
    c.under_variable.ensures.made
