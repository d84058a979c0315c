use Rattle.std.proofs.Common.{◌∙◌, refl, sym, ap, subst, Some, ◌∷◌, []}
use Rattle.std.proofs.lemmas.Result.{IfOk-weaker}
use Rattle.hol_spec.specs.Proofs.{sequent_at}
use Rattle.hol_spec.specs.declared.StepKind.TheVariants as kinds
use Rattle.hol_defs.specs.Lists.{pairs_at as pairs_view, ArePairsKnown as AreConstantPairsKnown}
use Rattle.hol_rules.specs.Views.{parameters_view, AreParametersKnown}
use Rattle.hol_spec.specs.Rules.{Parameters}
use Rattle.holide_sig.specs.Modules.{declarations_of}
use Rattle.translate_spec.specs.Rows.{proof_tree}
use Rattle.translate_rule.specs.OwnSteps.{own_scope, own_sequent, proof_in}
use Rattle.translate_rule.specs.Steps.{given_at}
use Rattle.translate_rule.proofs.ListRules.{list-defined, list-given, list-told}
use Rattle.translate_rule.proofs.StepRules.{rule-one, one-told, tree-kind}
use Rattle.translate_rule.proofs.proof_term.list_proof.Goals as goal

pub constant_list-requires-clause-pairs : goal.constant_list-requires-clause-pairs
constant_list-requires-clause-pairs c =
    let k = proof_in c.args.step in
    subst (AreConstantPairsKnown k.trees) (sym c.deref.ensures.value) (subst (AreParametersKnown k.trees) c.in-List.is c.params.ensures.known)

pub constant_list-requires-clause-list : goal.constant_list-requires-clause-list
constant_list-requires-clause-list c =
    let k = proof_in c.args.step in
    let id = c.args.step.id in
    let l = c.requires.step.id in
    let p = c.is_proof.ensures in
    list-defined (pairs_view k.trees c.deref.result.now) _ _ _ (rule-one k id l p kinds.DefineConstList c.args.one.id c.requires.kind c.requires.premise)
    (ap (λ l. Parameters.constants (pairs_view k.trees l)) c.deref.ensures.value ∙ ap (parameters_view k.trees) (sym c.in-List.is) ∙ c.params.ensures.is)

pub constant_list-requires-clause-told : goal.constant_list-requires-clause-told
constant_list-requires-clause-told c =
    let k = proof_in c.args.step in
    let id = c.args.step.id in
    let l = c.requires.step.id in
    let p = c.is_proof.ensures in
    let d = declarations_of c.args.target.now in
    let q = c.requires.told in
    let given = ap (λ l. Parameters.constants (pairs_view k.trees l)) c.deref.ensures.value ∙ ap (parameters_view k.trees) (sym c.in-List.is)
    ∙ c.params.ensures.is in (
      given_at d q.0 (own_sequent c.args.step),
      c.requires.step.stands d q.0 refl,
      list-told d q.0 (pairs_view k.trees c.deref.result.now) _ given q.1.given,
      one-told k id l p d q.0 q.1 c.args.one.id c.requires.premise,
    )

pub returns-clause-made : goal.returns-clause-made
returns-clause-made c =
    let k = proof_in c.args.step in
    let id = c.args.step.id in
    let l = c.requires.step.id in
    let p = c.is_proof.ensures in
    let d = declarations_of c.args.target.now in
    let given = ap (λ l. Parameters.constants (pairs_view k.trees l)) c.deref.ensures.value ∙ ap (parameters_view k.trees) (sym c.in-List.is)
    ∙ c.params.ensures.is in
    let js = c.args.one.symbol ∷ [] in
    let ss = sequent_at k.made c.args.one.id ∷ [] in
    IfOk-weaker c.constant_list.result _ _
    (λ r h tables told.
    h (given_at d tables (own_sequent c.args.step)) (c.requires.step.stands d tables refl)
    (list-told d tables (pairs_view k.trees c.deref.result.now) _ given told.given) (one-told k id l p d tables told c.args.one.id c.requires.premise)
    ∙ ap (λ g. Some (proof_tree tables (own_scope k id tables) kinds.DefineConstList js ss g)) given
    ∙ ap Some (tree-kind k id l p tables (own_scope k id tables) kinds.DefineConstList c.requires.kind js ss))
    c.constant_list.ensures.made

pub unreachable-requires : goal.unreachable-requires
unreachable-requires c =
    let k = proof_in c.args.step in
    let id = c.args.step.id in
    let l = c.requires.step.id in
    let p = c.is_proof.ensures in
    list-given k.trees c.params.result.now _ _ _ (rule-one k id l p kinds.DefineConstList c.args.one.id c.requires.kind c.requires.premise) c.params.ensures.is
    c.in_default.not-List
