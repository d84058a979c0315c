use Rattle.std.proofs.Common.{◌∙◌, refl, sym, ap, subst, arith, Some}
use Rattle.std.specs.List.{AllByRecursion}
use Rattle.std.proofs.lemmas.Result.{IfOk-weaker}
use Rattle.hol_spec.specs.Proofs.{sequent_at}
use Rattle.hol_term.specs.Tables.{terms_at, AreKnown}
use Rattle.holide_sig.specs.Modules.{declarations_of}
use Rattle.lp_spec.specs.Modules.{products, proof_symbol}
use Rattle.lp_term.specs.Tables.{tree_at}
use Rattle.lp_term.specs.TableLaws.{tree_at-Holds, tree_at-Stays}
use Rattle.translate_spec.specs.Scopes.{proof_domains, scope_of_terms, term_tree}
use Rattle.translate_term.specs.GrowLaws.{Grows-trans}
use Rattle.translate_proof.specs.Environments.{IsTold}
use Rattle.translate_proof.specs.Rescoped.{with_scope}
use Rattle.translate_proof.specs.StepSequents.{step-IsSequent}
use Rattle.translate_rule.specs.Domains.{lifted_domains}
use Rattle.translate_rule.specs.Steps.{given_at}
use Rattle.translate_rule.proofs.StatementLaws.{no-item, hypotheses-told, proof_domains-outside}
use Rattle.translate_rule.proofs.statement.over_hypotheses.Goals as goal

pub over_formulas-made-requires : goal.over_formulas-made-requires
over_formulas-made-requires c =
    let k = c.args.step.ground.proof.now in
    let s = sequent_at k.made c.args.step.id in
    let d = declarations_of c.args.target.now in
    let tables = c.requires.told.0 in
    let given = with_scope (given_at d tables s) (scope_of_terms tables s) in
    let are = ap (terms_at k.trees) c.ids-hyps.ensures.numbers ∙ ap (λ t. t.hypotheses) c.sequent.ensures.is in
    record {
      hyps = subst (AreKnown k.trees) (sym c.ids-hyps.ensures.numbers) c.sequent.ensures.known.0;
      inside = omega (arith, c.requires.inside, c.in_ok-env.ensures.grows.table.longer);
      told = (
        given,
        c.in_ok-env.ensures.made d tables refl,
        subst (AllByRecursion (IsTold given)) (sym are)
            (hypotheses-told given s (step-IsSequent k.made c.is_proof.ensures c.args.step.id c.requires.step.id) c.requires.told.1),
      );
    }

pub returns-then-hyps-eq0-clause-made : goal.returns-then-hyps-eq0-clause-made
returns-then-hyps-eq0-clause-made c = λ tables told.
    let k = c.args.step.ground.proof.now in
    let s = sequent_at k.made c.args.step.id in
    let none = ap (terms_at k.trees) (sym (no-item c.ids-hyps.result.now (omega (arith, c.if-hyps-eq0.true))))
    ∙ ap (terms_at k.trees) c.ids-hyps.ensures.numbers ∙ ap (λ t. t.hypotheses) c.sequent.ensures.is in
    tree_at-Holds _ c.args.inside.0 c.requires.inside
    ∙ ap (λ hs. Some (products (proof_domains tables hs (scope_of_terms tables s)) (tree_at c.args.target.now.table c.args.inside.0))) none

pub returns-clause-made : goal.returns-clause-made
returns-clause-made c =
    let k = c.args.step.ground.proof.now in
    let s = sequent_at k.made c.args.step.id in
    let d = declarations_of c.args.target.now in
    let are = ap (terms_at k.trees) c.ids-hyps.ensures.numbers ∙ ap (λ t. t.hypotheses) c.sequent.ensures.is in
    let stay = sym (tree_at-Stays c.in_ok-env.ensures.grows.table.stays c.args.inside.0 c.requires.inside) in
    IfOk-weaker c.over_formulas-made.result _ _
    (λ r h tables told.
    let given = with_scope (given_at d tables s) (scope_of_terms tables s) in
    h given (c.in_ok-env.ensures.made d tables refl)
    (subst (AllByRecursion (IsTold given)) (sym are)
    (hypotheses-told given s (step-IsSequent k.made c.is_proof.ensures c.args.step.id c.requires.step.id) told))
    ∙ (λ i. Some (products (lifted_domains proof_symbol (term_tree tables (scope_of_terms tables s)) 0 (are i)) (stay i)))
    ∙ ap (λ ds. Some (products ds (tree_at c.args.target.now.table c.args.inside.0))) (proof_domains-outside tables (scope_of_terms tables s) s.hypotheses))
    c.over_formulas-made.ensures.made

pub returns-clause-grows : goal.returns-clause-grows
returns-clause-grows c = Grows-trans c.in_ok-env.ensures.grows c.over_formulas-made.ensures.grows
