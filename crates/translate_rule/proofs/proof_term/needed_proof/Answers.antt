use Rattle.std.proofs.Common.{◌∙◌, refl, sym, ap, subst, map, Some}
use Rattle.std.proofs.lemmas.Result.{IfOk-weaker}
use Rattle.hol_spec.specs.Proofs.{sequent_at}
use Rattle.hol_spec.specs.declared.StepKind.TheVariants as kinds
use Rattle.holide_sig.specs.Modules.{declarations_of}
use Rattle.translate_rule.specs.OwnSteps.{own_scope, own_sequent, own_step, proof_in}
use Rattle.translate_rule.specs.Steps.{given_at, rule_tree, TellsProof}
use Rattle.translate_rule.proofs.StepRules.{kind-count, nothing-kind, needed-all, restated-told, tree-restated}
use Rattle.translate_rule.proofs.proof_term.needed_proof.Goals as goal

pub two_premises-requires-clause-two : goal.two_premises-requires-clause-two
two_premises-requires-clause-two c =
    let k = proof_in c.args.step in
    let x = own_step c.args.step in
    kind-count k c.args.step.id c.requires.step.id c.is_proof.ensures kinds.ProveHyp
    (nothing-kind x.kind (map (sequent_at k.made) x.premises) (sym c.proves_nothing.ensures ∙ c.if-proves_nothing.true))

pub theorem-requires-clause-premise : goal.theorem-requires-clause-premise
theorem-requires-clause-premise c = c.two_premises.ensures.second.known

pub theorem-requires-clause-told : goal.theorem-requires-clause-told
theorem-requires-clause-told c =
    let k = proof_in c.args.step in
    let id = c.args.step.id in
    let l = c.requires.step.id in
    let p = c.is_proof.ensures in
    let d = declarations_of c.args.target.now in
    let q = c.requires.told in (
      given_at d q.0 (own_sequent c.args.step),
      c.requires.step.stands d q.0 refl,
      restated-told k id l p d q.0 c.two_premises.result.0.id c.two_premises.result.1.id c.two_premises.ensures.are
          (sym c.proves_nothing.ensures ∙ c.if-proves_nothing.true) q.1,
    )

pub returns-then-proves_nothing-clause-made : goal.returns-then-proves_nothing-clause-made
returns-then-proves_nothing-clause-made c =
    let k = proof_in c.args.step in
    let id = c.args.step.id in
    let l = c.requires.step.id in
    let p = c.is_proof.ensures in
    let d = declarations_of c.args.target.now in
    let none = sym c.proves_nothing.ensures ∙ c.if-proves_nothing.true in
    IfOk-weaker c.theorem.result _ _
    (λ r h tables told.
    h (given_at d tables (own_sequent c.args.step)) (c.requires.step.stands d tables refl)
    (restated-told k id l p d tables c.two_premises.result.0.id c.two_premises.result.1.id c.two_premises.ensures.are none told)
    ∙ ap Some (tree-restated k id l p tables (own_scope k id tables) c.args.symbols.now c.two_premises.result.0 c.two_premises.result.1 c.two_premises.ensures
    none))
    c.theorem.ensures.made

pub proof_term-requires-clause-told : goal.proof_term-requires-clause-told
proof_term-requires-clause-told c =
    let k = proof_in c.args.step in
    let x = own_step c.args.step in
    let q = c.requires.told in (
      q.0,
      subst (TellsProof (declarations_of c.args.target.now) q.0 k.made)
          (needed-all (map (sequent_at k.made) x.premises) x (sym c.proves_nothing.ensures ∙ c.if-proves_nothing.false)) q.1,
    )

pub returns-else-proves_nothing-clause-made : goal.returns-else-proves_nothing-clause-made
returns-else-proves_nothing-clause-made c =
    let k = proof_in c.args.step in
    let x = own_step c.args.step in
    let all = needed-all (map (sequent_at k.made) x.premises) x (sym c.proves_nothing.ensures ∙ c.if-proves_nothing.false) in
    IfOk-weaker c.proof_term.result _ _
    (λ r h tables told.
    h tables (subst (TellsProof (declarations_of c.args.target.now) tables k.made) all told)
    ∙ ap (λ y. Some (rule_tree tables (own_scope k c.args.step.id tables) c.args.symbols.now k.made y)) (sym all))
    c.proof_term.ensures.made
