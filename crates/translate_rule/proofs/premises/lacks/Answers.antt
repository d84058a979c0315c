use Rattle.std.proofs.Common.{◌∙◌, ap}
use Rattle.std.specs.Prelude.{not}
use Rattle.hol_spec.specs.Lists.{is_in}
use Rattle.hol_spec.specs.Terms.{term_eq}
use Rattle.translate_proof.specs.FormulaLaws.{is_in-terms}
use Rattle.translate_rule.proofs.premises.lacks.Goals as goal

pub returns : goal.returns
returns c =
    ap not (c.contains.ensures ∙ is_in-terms c.args.proof.now.trees (rw c.terms.ensures at c.view-formula.ensures.distinct) c.sequent.result.now.concl
    c.sequent.ensures.known.1 c.sequent-2.result.now.hyps c.sequent-2.ensures.known.0
    ∙ (λ i. is_in term_eq ((c.sequent.ensures.is i).conclusion) ((c.sequent-2.ensures.is i).hypotheses)))
