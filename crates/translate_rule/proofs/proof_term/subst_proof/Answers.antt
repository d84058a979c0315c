use Rattle.std.proofs.Common.{◌∙◌, refl, sym, ap, Some, ◌∷◌, []}
use Rattle.std.proofs.lemmas.Result.{IfOk-weaker}
use Rattle.hol_spec.specs.Proofs.{sequent_at}
use Rattle.hol_spec.specs.declared.StepKind.TheVariants as kinds
use Rattle.hol_rules.specs.Views.{parameters_view}
use Rattle.holide_sig.specs.Modules.{declarations_of}
use Rattle.translate_spec.specs.Rows.{proof_tree}
use Rattle.translate_rule.specs.OwnSteps.{own_scope, own_sequent, proof_in}
use Rattle.translate_rule.specs.Steps.{given_at}
use Rattle.translate_rule.proofs.StepRules.{rule-one, own-told, tree-kind}
use Rattle.translate_rule.proofs.SubstitutionRules.{substituted-by, subst-given}
use Rattle.translate_rule.proofs.proof_term.subst_proof.Goals as goal

pub subst-requires-clause-substituted : goal.subst-requires-clause-substituted
subst-requires-clause-substituted c =
    let k = proof_in c.args.step in
    let id = c.args.step.id in
    let l = c.requires.step.id in
    let p = c.is_proof.ensures in
    rw c.get.ensures
    (substituted-by k c.in-Subst.put id c.args.one.id (rule-one k id l p kinds.Subst c.args.one.id c.requires.kind c.requires.premise)
    (ap (parameters_view k.trees) (sym c.in-Subst.is) ∙ c.params.ensures.is))

pub subst-requires-clause-told : goal.subst-requires-clause-told
subst-requires-clause-told c =
    let k = proof_in c.args.step in
    let id = c.args.step.id in
    let l = c.requires.step.id in
    let p = c.is_proof.ensures in
    let d = declarations_of c.args.target.now in
    let q = c.requires.told in
    (given_at d q.0 (own_sequent c.args.step), c.requires.step.stands d q.0 refl, own-told k id l p d q.0 q.1)

pub returns-clause-made : goal.returns-clause-made
returns-clause-made c =
    let k = proof_in c.args.step in
    let id = c.args.step.id in
    let l = c.requires.step.id in
    let p = c.is_proof.ensures in
    let d = declarations_of c.args.target.now in
    let js = c.args.one.symbol ∷ [] in
    let ss = sequent_at k.made c.args.one.id ∷ [] in
    IfOk-weaker c.subst.result _ _
    (λ r h tables told.
    h (given_at d tables (own_sequent c.args.step)) (c.requires.step.stands d tables refl) (own-told k id l p d tables told)
    ∙ ap (λ g. Some (proof_tree tables (own_scope k id tables) kinds.Subst js ss g)) (ap (parameters_view k.trees) (sym c.in-Subst.is) ∙ c.params.ensures.is)
    ∙ ap Some (tree-kind k id l p tables (own_scope k id tables) kinds.Subst c.requires.kind js ss))
    (rw c.get.ensures at c.subst.ensures.made)

pub unreachable-requires : goal.unreachable-requires
unreachable-requires c =
    let k = proof_in c.args.step in
    let id = c.args.step.id in
    let l = c.requires.step.id in
    let p = c.is_proof.ensures in
    subst-given k.trees c.params.result.now _ _ _ (rule-one k id l p kinds.Subst c.args.one.id c.requires.kind c.requires.premise) c.params.ensures.is
    c.in_default.not-Subst
