use Rattle.std.proofs.Common.{◌∙◌, ap, refl, Some, ◌∷◌, []}
use Rattle.std.proofs.lemmas.Result.{IfOk-weaker}
use Rattle.hol_spec.specs.Proofs.{sequent_at}
use Rattle.hol_spec.specs.declared.StepKind.TheVariants as kinds
use Rattle.holide_sig.specs.Modules.{declarations_of}
use Rattle.translate_spec.specs.Rows.{proof_tree}
use Rattle.translate_proof.specs.EnvironmentLaws.{Represents-Grows}
use Rattle.translate_rule.specs.OwnSteps.{own_scope, own_sequent, proof_in}
use Rattle.translate_rule.specs.Steps.{given_at}
use Rattle.translate_term.specs.GrowLaws.{Grows-trans}
use Rattle.translate_rule.proofs.StepRules.{own-told, one-told, tree-kind}
use Rattle.translate_rule.proofs.proof_term.second_law_bound_proof.Goals as goal

pub second_law-requires-clause-law : goal.second_law-requires-clause-law
second_law-requires-clause-law c = (c.requires.law.operator.names, c.requires.law.law)

pub second_law-requires-clause-told : goal.second_law-requires-clause-told
second_law-requires-clause-told c =
    let k = proof_in c.args.step in
    let id = c.args.step.id in
    let l = c.requires.step.id in
    let p = c.is_proof.ensures in
    let d = declarations_of c.args.target.now in
    let q = c.requires.told in
    let given = given_at d q.0 (own_sequent c.args.step) in (
      given,
      Represents-Grows c.under_binder.ensures.grows given k.trees c.args.step.ground.env.now (c.requires.step.stands d q.0 refl),
      c.in_ok-inner.ensures.made d q.0 refl,
      own-told k id l p d q.0 q.1,
      one-told k id l p d q.0 q.1 c.args.one.id c.requires.premise,
    )

pub returns-clause-made : goal.returns-clause-made
returns-clause-made c =
    let k = proof_in c.args.step in
    let id = c.args.step.id in
    let l = c.requires.step.id in
    let p = c.is_proof.ensures in
    let d = declarations_of c.args.target.now in
    let law = c.requires.law in
    let js = c.args.one.symbol ∷ [] in
    let ss = sequent_at k.made c.args.one.id ∷ [] in
    IfOk-weaker c.second_law.result _ _
    (λ r h tables told.
    let given = given_at d tables (own_sequent c.args.step) in
    h given law.operator.names law.law
    (Represents-Grows c.under_binder.ensures.grows given k.trees c.args.step.ground.env.now (c.requires.step.stands d tables refl))
    (c.in_ok-inner.ensures.made d tables refl) (own-told k id l p d tables told)
    (one-told k id l p d tables told c.args.one.id c.requires.premise)
    ∙ ap (λ g. Some (proof_tree tables (own_scope k id tables) kinds.SecondLaw js ss g)) law.operator.given
    ∙ ap Some (tree-kind k id l p tables (own_scope k id tables) kinds.SecondLaw c.requires.kind js ss))
    c.second_law.ensures.made

pub returns-clause-grows : goal.returns-clause-grows
returns-clause-grows c = Grows-trans c.under_binder.ensures.grows c.second_law.ensures.grows
