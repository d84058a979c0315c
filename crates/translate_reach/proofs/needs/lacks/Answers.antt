use Rattle.std.proofs.Common.{ap, subst, ◌∙◌}
use Rattle.std.specs.Prelude.{not}
use Rattle.std.proofs.Math.Path.{ap₂}
use Rattle.hol_spec.specs.Lists.{is_in}
use Rattle.hol_spec.specs.Sequents.{Sequent}
use Rattle.hol_spec.specs.Terms.{term_eq}
use Rattle.hol_term.specs.Tables.{Trees, IsDistinct}
use Rattle.translate_reach.proofs.Wanted.{in-terms}
use Rattle.translate_reach.proofs.needs.lacks.Goals as goal

pub returns : goal.returns
returns c =
    let trees = c.args.proof.now.trees in
    let one = c.sequent.result.now in
    let two = c.sequent-2.result.now in
    let distinct = subst (λ (t : Trees). IsDistinct t.terms) c.terms.ensures c.view-head.ensures.distinct in
    ap not
    (c.contains.ensures ∙ in-terms trees distinct one.concl c.sequent.ensures.known.1 two.hyps c.sequent-2.ensures.known.0
    ∙ ap₂ (λ (r s : Sequent). is_in term_eq r.conclusion s.hypotheses) c.sequent.ensures.is c.sequent-2.ensures.is)
