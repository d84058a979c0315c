use Rattle.std.proofs.Common.{◌∙◌, ap, subst, sym}
use Rattle.std.proofs.lemmas.Result.{IfOk-weaker}
use Rattle.hol_spec.specs.Proofs.{sequent_at}
use Rattle.hol_term.specs.Tables.{terms_at, AreKnown}
use Rattle.translate_rule.specs.Steps.{given_at}
use Rattle.translate_rule.proofs.OwnLaws.{placed-own}
use Rattle.translate_rule.proofs.own.own_environment.Goals as goal

pub returns-clause-made : goal.returns-clause-made
returns-clause-made c =
    let k = c.args.proof.now in
    IfOk-weaker c.of.result _ _
    (λ env h d symbols declared. h (given_at d symbols (sequent_at k.made c.args.id)) k.trees
    (placed-own k c.args.id d symbols c.args.target.now c.requires.held declared _ _ c.requires.params _
    (subst (AreKnown k.trees) (sym c.ids.ensures.numbers) c.sequent.ensures.known.0)
    (ap (terms_at k.trees) c.ids.ensures.numbers ∙ ap (λ s. s.hypotheses) c.sequent.ensures.is)))
    c.of.ensures.made
