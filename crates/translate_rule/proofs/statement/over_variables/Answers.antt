use Rattle.std.proofs.Common.{◌∙◌, refl, sym, ap, subst, arith, Some}
use Rattle.std.specs.List.{AllByRecursion}
use Rattle.std.proofs.lemmas.Result.{IfOk-weaker}
use Rattle.hol_spec.specs.Proofs.{sequent_at}
use Rattle.hol_spec.specs.Sequents.{free_variables_of}
use Rattle.hol_spec.specs.Terms.{Variable}
use Rattle.hol_term.specs.Subterms.{HaveTypes, variables_of}
use Rattle.holide_sig.specs.Modules.{declarations_of}
use Rattle.lp_spec.specs.Modules.{products, term_symbol}
use Rattle.lp_term.specs.Tables.{tree_at}
use Rattle.lp_term.specs.TableLaws.{tree_at-Holds, tree_at-Stays}
use Rattle.translate_spec.specs.Scopes.{scope_of_types, term_domains, type_tree}
use Rattle.translate_term.specs.GrowLaws.{Grows-trans}
use Rattle.translate_term.specs.Told.{TellsType}
use Rattle.translate_rule.specs.Domains.{lifted_domains}
use Rattle.translate_rule.specs.Steps.{given_over}
use Rattle.translate_rule.proofs.StatementLaws.{no-item, variables-told, term_domains-outside}
use Rattle.translate_rule.proofs.statement.over_variables.Goals as goal

pub over_terms-made-requires : goal.over_terms-made-requires
over_terms-made-requires c =
    let k = c.args.step.ground.proof.now in
    let s = sequent_at k.made c.args.step.id in
    let d = declarations_of c.args.target.now in
    let tables = c.requires.told.0 in
    let are = ap (variables_of k.trees) c.variables-variables.ensures ∙ c.requires.step.params.free_vars in
    record {
      variables = subst (HaveTypes k.trees) (sym c.variables-variables.ensures) c.requires.step.params.known;
      inside = omega (arith, c.requires.inside, c.in_ok-env.ensures.grows.table.longer);
      told = (
        given_over d tables c.names-names.result.now,
        c.in_ok-env.ensures.made d tables refl,
        subst (AllByRecursion (λ (v : Variable). TellsType d tables v.1)) (sym are) (variables-told d tables s c.requires.told.1),
      );
    }

pub returns-then-variables-eq0-clause-made : goal.returns-then-variables-eq0-clause-made
returns-then-variables-eq0-clause-made c = λ tables told.
    let k = c.args.step.ground.proof.now in
    let s = sequent_at k.made c.args.step.id in
    let none = ap (variables_of k.trees) (sym (no-item c.variables-variables.result.now (omega (arith, c.if-variables-eq0.true)))
    ∙ c.variables-variables.ensures) ∙ c.requires.step.params.free_vars in
    tree_at-Holds _ c.args.inside.0 c.requires.inside
    ∙ ap (λ vs. Some (products (term_domains tables vs (scope_of_types tables s)) (tree_at c.args.target.now.table c.args.inside.0))) none

pub returns-clause-made : goal.returns-clause-made
returns-clause-made c =
    let k = c.args.step.ground.proof.now in
    let s = sequent_at k.made c.args.step.id in
    let d = declarations_of c.args.target.now in
    let are = ap (variables_of k.trees) c.variables-variables.ensures ∙ c.requires.step.params.free_vars in
    let names = c.names-names.ensures ∙ c.requires.step.params.type_vars in
    let stay = sym (tree_at-Stays c.in_ok-env.ensures.grows.table.stays c.args.inside.0 c.requires.inside) in
    IfOk-weaker c.over_terms-made.result _ _
    (λ r h tables told.
    h (given_over d tables c.names-names.result.now) (c.in_ok-env.ensures.made d tables refl)
    (subst (AllByRecursion (λ (v : Variable). TellsType d tables v.1)) (sym are) (variables-told d tables s told))
    ∙ (λ i. Some (products (lifted_domains term_symbol (λ (v : Variable). type_tree tables (given_over d tables (names i)).scope.types v.1) 0 (are i))
    (stay i)))
    ∙ ap (λ ds. Some (products ds (tree_at c.args.target.now.table c.args.inside.0)))
    (term_domains-outside tables (scope_of_types tables s) (free_variables_of s)))
    c.over_terms-made.ensures.made

pub returns-clause-grows : goal.returns-clause-grows
returns-clause-grows c = Grows-trans c.in_ok-env.ensures.grows c.over_terms-made.ensures.grows
