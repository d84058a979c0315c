use Rattle.std.proofs.Common.{◌∙◌, sym, ap, subst, arith, length}
use Rattle.std.proofs.lemmas.Result.{IfOk-weaker}
use Rattle.hol_spec.specs.Proofs.{sequent_at}
use Rattle.hol_term.specs.Tables.{terms_at, AreKnown}
use Rattle.translate_proof.specs.Rescoped.{over_types}
use Rattle.translate_rule.specs.Steps.{given_at}
use Rattle.translate_rule.proofs.OwnLaws.{placed-outer}
use Rattle.translate_rule.proofs.own.outer_environment.Goals as goal

pub returns-clause-made : goal.returns-clause-made
returns-clause-made c =
    let k = c.args.step.ground.proof.now in
    let hyps = c.ids-hyps.ensures.numbers in
    let count = ap length c.variables-variables.ensures in
    IfOk-weaker c.of_types.result _ _
    (λ env h d symbols declared. h (over_types (given_at d symbols (sequent_at k.made c.args.step.id))) k.trees
    (rw c.names.ensures
    (placed-outer k c.args.step.id d symbols c.args.target.now c.requires.step.held declared _ _ c.requires.step.params _
    (subst (AreKnown k.trees) (sym hyps) c.sequent.ensures.known.0) (ap (terms_at k.trees) hyps ∙ ap (λ s. s.hypotheses) c.sequent.ensures.is) _
    (omega (arith, count)))))
    c.of_types.ensures.made
