use Rattle.std.proofs.Common.{◌∙◌, refl, sym, ap, Some, ◌∷◌, []}
use Rattle.std.proofs.lemmas.Result.{IfOk-weaker}
use Rattle.hol_spec.specs.Proofs.{sequent_at}
use Rattle.hol_spec.specs.declared.StepKind.TheVariants as kinds
use Rattle.hol_rules.specs.Views.{parameters_view, variable_view}
use Rattle.holide_sig.specs.Modules.{declarations_of}
use Rattle.translate_spec.specs.Rows.{proof_tree}
use Rattle.translate_proof.specs.EnvironmentLaws.{Represents-Grows}
use Rattle.translate_rule.specs.OwnSteps.{own_scope, own_sequent, proof_in}
use Rattle.translate_rule.specs.Steps.{given_at}
use Rattle.translate_term.specs.GrowLaws.{Grows-trans}
use Rattle.translate_rule.proofs.RuleLaws.{abs_thm-equation}
use Rattle.translate_rule.proofs.StepRules.{rule-one, own-told, one-told, equation-step, tree-kind}
use Rattle.translate_rule.proofs.VariableRules.{variable-told, variable-given}
use Rattle.translate_rule.proofs.proof_term.abs_proof.Goals as goal

pub abs_thm-requires-clause-equation : goal.abs_thm-requires-clause-equation
abs_thm-requires-clause-equation c =
    let k = proof_in c.args.step in
    let id = c.args.step.id in
    let l = c.requires.step.id in
    let p = c.is_proof.ensures in
    equation-step k c.args.one.id (abs_thm-equation (rule-one k id l p kinds.AbsThm c.args.one.id c.requires.kind c.requires.premise))

pub abs_thm-requires-clause-told : goal.abs_thm-requires-clause-told
abs_thm-requires-clause-told c =
    let k = proof_in c.args.step in
    let id = c.args.step.id in
    let l = c.requires.step.id in
    let p = c.is_proof.ensures in
    let d = declarations_of c.args.target.now in
    let q = c.requires.told in
    let given = given_at d q.0 (own_sequent c.args.step) in
    let by = rule-one k id l p kinds.AbsThm c.args.one.id c.requires.kind c.requires.premise in (
      given,
      Represents-Grows c.under_variable.ensures.grows given k.trees c.args.step.ground.env.now (c.requires.step.stands d q.0 refl),
      c.in_ok-inner.ensures.made d q.0 refl,
      variable-told d q.0 (variable_view k.trees c.in-Variable.variable) _ _ _ by (ap (parameters_view k.trees) (sym c.in-Variable.is) ∙ c.params.ensures.is)
          (own-told k id l p d q.0 q.1),
      one-told k id l p d q.0 q.1 c.args.one.id c.requires.premise,
    )

pub returns-clause-made : goal.returns-clause-made
returns-clause-made c =
    let k = proof_in c.args.step in
    let id = c.args.step.id in
    let l = c.requires.step.id in
    let p = c.is_proof.ensures in
    let d = declarations_of c.args.target.now in
    let by = rule-one k id l p kinds.AbsThm c.args.one.id c.requires.kind c.requires.premise in
    let given = ap (parameters_view k.trees) (sym c.in-Variable.is) ∙ c.params.ensures.is in
    let js = c.args.one.symbol ∷ [] in
    let ss = sequent_at k.made c.args.one.id ∷ [] in
    IfOk-weaker c.abs_thm.result _ _
    (λ r h tables told.
    let own = given_at d tables (own_sequent c.args.step) in
    h own (Represents-Grows c.under_variable.ensures.grows own k.trees c.args.step.ground.env.now (c.requires.step.stands d tables refl))
    (c.in_ok-inner.ensures.made d tables refl)
    (variable-told d tables (variable_view k.trees c.in-Variable.variable) _ _ _ by given (own-told k id l p d tables told))
    (one-told k id l p d tables told c.args.one.id c.requires.premise)
    ∙ ap (λ g. Some (proof_tree tables (own_scope k id tables) kinds.AbsThm js ss g)) given
    ∙ ap Some (tree-kind k id l p tables (own_scope k id tables) kinds.AbsThm c.requires.kind js ss))
    c.abs_thm.ensures.made

pub returns-clause-grows : goal.returns-clause-grows
returns-clause-grows c = Grows-trans c.under_variable.ensures.grows c.abs_thm.ensures.grows

pub unreachable-requires : goal.unreachable-requires
unreachable-requires c =
    let k = proof_in c.args.step in
    let id = c.args.step.id in
    let l = c.requires.step.id in
    let p = c.is_proof.ensures in
    variable-given k.trees c.params.result.now _ _ _ (rule-one k id l p kinds.AbsThm c.args.one.id c.requires.kind c.requires.premise) c.params.ensures.is
    c.in_default.not-Variable
