use Rattle.std.proofs.Common.{◌∙◌, sym, ap, arith, length}
use Rattle.hol_spec.specs.Proofs.{sequent_at}
use Rattle.hol_term.specs.Tables.{terms_at}
use Rattle.translate_rule.proofs.DeclarationLaws.{domains-length}
use Rattle.translate_rule.proofs.OwnLaws.{terms-count, variables-count}
use Rattle.translate_rule.proofs.declaration.binder_count.Goals as goal

pub returns : goal.returns
returns c = λ tables.
    let k = c.args.proof.now in
    let s = sequent_at k.made c.args.id in
    let names = ap length (c.names-names.ensures ∙ c.requires.params.type_vars) in
    let variables = ap length c.variables-variables.ensures ∙ sym (variables-count k.trees _) ∙ ap length c.requires.params.free_vars in
    let hyps = sym (terms-count k.trees c.ids-hyps.result.now)
    ∙ ap length (ap (terms_at k.trees) c.ids-hyps.ensures.numbers ∙ ap (λ s. s.hypotheses) c.sequent.ensures.is) in
    omega (arith, domains-length tables s, names, variables, hyps)
