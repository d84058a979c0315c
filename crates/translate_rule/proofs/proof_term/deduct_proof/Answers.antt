use Rattle.std.proofs.Common.{◌∙◌, ap, refl, subst, Some, ◌∷◌, []}
use Rattle.std.proofs.lemmas.Result.{IfOk-weaker}
use Rattle.hol_spec.specs.Proofs.{sequent_at}
use Rattle.hol_spec.specs.Sequents.{Sequent}
use Rattle.hol_spec.specs.declared.StepKind.TheVariants as kinds
use Rattle.holide_sig.specs.Modules.{declarations_of}
use Rattle.translate_spec.specs.Scopes.{under_proof}
use Rattle.translate_proof.specs.Environments.{Represents}
use Rattle.translate_proof.specs.EnvironmentLaws.{Represents-Grows}
use Rattle.translate_proof.specs.Rescoped.{with_scope}
use Rattle.translate_rule.specs.OwnSteps.{own_scope, own_sequent, proof_in}
use Rattle.translate_rule.specs.Steps.{given_at}
use Rattle.translate_term.specs.GrowLaws.{Grows-trans, declarations_of-Grows}
use Rattle.translate_rule.proofs.OwnLaws.{IsReady-Grows}
use Rattle.translate_rule.proofs.StepRules.{first-told, second-told, tree-kind}
use Rattle.translate_rule.proofs.proof_term.deduct_proof.Goals as goal

pub under_proof-requires-2-clause-step : goal.under_proof-requires-2-clause-step
under_proof-requires-2-clause-step c = IsReady-Grows c.under_proof.ensures.grows c.args.step c.requires.step

pub deduct_antisym-requires-clause-told : goal.deduct_antisym-requires-clause-told
deduct_antisym-requires-clause-told c =
    let k = proof_in c.args.step in
    let id = c.args.step.id in
    let l = c.requires.step.id in
    let p = c.is_proof.ensures in
    let d = declarations_of c.args.target.now in
    let s = own_sequent c.args.step in
    let whole = Grows-trans c.under_proof.ensures.grows c.under_proof-2.ensures.grows in
    let declared = declarations_of-Grows _ _ c.under_proof.ensures.grows c.requires.step.held in
    let q = c.requires.told in
    let given = given_at d q.0 s in (
      given,
      Represents-Grows whole given k.trees c.args.step.ground.env.now (c.requires.step.stands d q.0 refl),
      subst (λ t. Represents (with_scope given (under_proof t (own_scope k id q.0))) c.under_proof-2.new.target k.trees c.in_ok-first.first)
          (ap (λ (s : Sequent). s.conclusion) c.sequent.ensures.is)
          (Represents-Grows c.under_proof-2.ensures.grows (with_scope given (under_proof _ (own_scope k id q.0))) k.trees c.in_ok-first.first
          (c.in_ok-first.ensures.made d q.0 refl)),
      subst (λ t. Represents (with_scope given (under_proof t (own_scope k id q.0))) c.under_proof-2.new.target k.trees c.in_ok-second.second)
          (ap (λ (s : Sequent). s.conclusion) c.sequent-2.ensures.is) (c.in_ok-second.ensures.made d q.0 declared),
      first-told k id l p d q.0 q.1 c.args.one.id c.args.two.id c.requires.premises,
      second-told k id l p d q.0 q.1 c.args.one.id c.args.two.id c.requires.premises,
    )

pub returns-clause-made : goal.returns-clause-made
returns-clause-made c =
    let k = proof_in c.args.step in
    let id = c.args.step.id in
    let l = c.requires.step.id in
    let p = c.is_proof.ensures in
    let d = declarations_of c.args.target.now in
    let s = own_sequent c.args.step in
    let whole = Grows-trans c.under_proof.ensures.grows c.under_proof-2.ensures.grows in
    let declared = declarations_of-Grows _ _ c.under_proof.ensures.grows c.requires.step.held in
    let js = c.args.one.symbol ∷ c.args.two.symbol ∷ [] in
    let ss = sequent_at k.made c.args.one.id ∷ sequent_at k.made c.args.two.id ∷ [] in
    IfOk-weaker c.deduct_antisym.result _ _
    (λ r h tables told.
    let given = given_at d tables s in
    h given (Represents-Grows whole given k.trees c.args.step.ground.env.now (c.requires.step.stands d tables refl))
    (subst (λ t. Represents (with_scope given (under_proof t (own_scope k id tables))) c.under_proof-2.new.target k.trees c.in_ok-first.first)
    (ap (λ (s : Sequent). s.conclusion) c.sequent.ensures.is)
    (Represents-Grows c.under_proof-2.ensures.grows (with_scope given (under_proof _ (own_scope k id tables))) k.trees c.in_ok-first.first
    (c.in_ok-first.ensures.made d tables refl)))
    (subst (λ t. Represents (with_scope given (under_proof t (own_scope k id tables))) c.under_proof-2.new.target k.trees c.in_ok-second.second)
    (ap (λ (s : Sequent). s.conclusion) c.sequent-2.ensures.is) (c.in_ok-second.ensures.made d tables declared))
    (first-told k id l p d tables told c.args.one.id c.args.two.id c.requires.premises)
    (second-told k id l p d tables told c.args.one.id c.args.two.id c.requires.premises)
    ∙ ap Some (tree-kind k id l p tables (own_scope k id tables) kinds.DeductAntisym c.requires.kind js ss))
    c.deduct_antisym.ensures.made

pub returns-clause-grows : goal.returns-clause-grows
returns-clause-grows c = Grows-trans c.under_proof.ensures.grows (Grows-trans c.under_proof-2.ensures.grows c.deduct_antisym.ensures.grows)
