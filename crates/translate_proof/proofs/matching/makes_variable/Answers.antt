use Rattle.std.proofs.Common.{◌∙◌, sym, ap, subst, unwrap_or}
use Rattle.hol_spec.specs.Terms.{free, term_eq}
use Rattle.hol_term.specs.Substitutions.{IsPutFor}
use Rattle.hol_term.specs.Tables.{term_at}
use Rattle.translate_proof.specs.Images.{retyped}
use Rattle.translate_proof.specs.FormulaLaws.{same-formula}
use Rattle.translate_proof.proofs.matching.makes_variable.Goals as goal

pub returns-in-Some : goal.returns-in-Some
returns-in-Some c =
    let trees = c.args.table.now in
    let w = retyped trees c.args.put.now c.args.name.now c.args.ty in
    let put = subst (IsPutFor trees c.args.put.now.terms.items w) c.in-Some.is c.in_ok-image.ensures in
    c.eq.ensures ∙ same-formula trees c.view-view.ensures.distinct c.in-Some.image c.args.id put.0 c.requires.id
    ∙ ap (λ t. term_eq t (term_at trees c.args.id.0)) (sym (ap (λ o. unwrap_or o (free w.0 w.1)) put.1))
