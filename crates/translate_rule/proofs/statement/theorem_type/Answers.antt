use Rattle.std.proofs.Common.{◌∙◌, ap, Some, length}
use Rattle.std.specs.Prelude.{replicate}
use Rattle.std.proofs.lemmas.Result.{IfOk-weaker}
use Rattle.lp_spec.specs.Modules.{products, types}
use Rattle.lp_term.specs.TableLaws.{Holds-tree_at}
use Rattle.translate_term.specs.GrowLaws.{Grows-trans, Grows-table}
use Rattle.translate_proof.specs.Told.{TellsSequent}
use Rattle.translate_rule.specs.OwnSteps.{hypotheses_product, own_sequent, variables_product}
use Rattle.translate_rule.proofs.OwnLaws.{told-Grows, IsReady-Grows}
use Rattle.translate_rule.proofs.StatementLaws.{sequent_tree-products}
use Rattle.translate_rule.proofs.statement.theorem_type.Goals as goal

pub over_hypotheses-requires : goal.over_hypotheses-requires
over_hypotheses-requires c =
    let q = c.requires.told in
    let grows = c.in_ok-inside.ensures.grows in
    record {
      step = IsReady-Grows grows c.args.step c.requires.step;
      inside = c.in_ok-inside.ensures.known;
      told = (q.0, told-Grows grows (λ d. TellsSequent d q.0 (own_sequent c.args.step)) c.requires.step.held q.1);
    }

pub over_variables-requires : goal.over_variables-requires
over_variables-requires c =
    let q = c.requires.told in
    let grows = Grows-trans c.in_ok-inside.ensures.grows c.in_ok-under_terms.ensures.grows in
    record {
      step = IsReady-Grows grows c.args.step c.requires.step;
      inside = c.in_ok-under_terms.ensures.known;
      told = (q.0, told-Grows grows (λ d. TellsSequent d q.0 (own_sequent c.args.step)) c.requires.step.held q.1);
    }

pub returns-clause-made : goal.returns-clause-made
returns-clause-made c =
    let s = own_sequent c.args.step in
    let held = c.requires.step.held in
    let one = c.in_ok-inside.ensures.grows in
    let two = Grows-trans one c.in_ok-under_terms.ensures.grows in
    let names = c.names-count.result.now in
    IfOk-weaker c.over_types.result _ _
    (λ r h tables told.
    let inside = c.in_ok-inside.ensures.made tables told in
    let under_terms = c.in_ok-under_terms.ensures.made tables (told-Grows one (λ d. TellsSequent d tables s) held told) in
    let under_types = c.in_ok-under_types.ensures.made tables (told-Grows two (λ d. TellsSequent d tables s) held told) in
    h
    ∙ ap (λ t. Some (products (replicate (length names) types) t))
    (Holds-tree_at _ c.in_ok-under_types.under_types.0 _ under_types
    ∙ ap (λ t. variables_product t tables s)
    (Holds-tree_at _ c.in_ok-under_terms.under_terms.0 _ under_terms
    ∙ ap (λ t. hypotheses_product t tables s) (Holds-tree_at _ c.in_ok-inside.inside.0 _ inside)))
    ∙ ap Some (sequent_tree-products tables s (length names) (ap length (c.names-count.ensures ∙ c.requires.step.params.type_vars))))
    c.over_types.ensures.made

pub returns-in_err-under_terms-clause-grows : goal.returns-in_err-under_terms-clause-grows
returns-in_err-under_terms-clause-grows c = Grows-trans c.in_ok-inside.ensures.grows c.over_hypotheses.ensures.grows

pub returns-in_err-under_types-clause-grows : goal.returns-in_err-under_types-clause-grows
returns-in_err-under_types-clause-grows c = Grows-trans (Grows-trans c.in_ok-inside.ensures.grows c.in_ok-under_terms.ensures.grows)
    c.over_variables.ensures.grows

pub returns-clause-grows : goal.returns-clause-grows
returns-clause-grows c = Grows-trans
    (Grows-trans (Grows-trans c.in_ok-inside.ensures.grows c.in_ok-under_terms.ensures.grows) c.in_ok-under_types.ensures.grows)
    (Grows-table _ _ c.over_types.ensures.keeps)
