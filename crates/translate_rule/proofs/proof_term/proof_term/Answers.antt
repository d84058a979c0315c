use Rattle.std.proofs.Common.{◌∙◌, false, true, ◌≡◌, refl, sym, ap, Some, []}
use Rattle.std.proofs.lemmas.Result.{IfOk-weaker}
use Rattle.hol_spec.specs.Sequents.{Sequent}
use Rattle.hol_spec.specs.declared.StepKind.TheVariants as kinds
use Rattle.holide_sig.specs.Modules.{declarations_of}
use Rattle.translate_spec.specs.Rows.{has_row}
use Rattle.translate_rule.specs.OwnSteps.{own_scope, own_sequent, own_step, proof_in}
use Rattle.translate_rule.specs.Steps.{given_at}
use Rattle.translate_rule.proofs.RuleLaws.{refl-equation, beta-equation, define-equation, eq_mp-equation, sym-equation, trans-first, trans-second, app_thm-own, app_thm-first, app_thm-second}
use Rattle.translate_rule.proofs.RuleLaws.{refl-tree, beta-tree, define-tree, assume-tree, app_thm-tree}
use Rattle.translate_rule.proofs.StepRules.{kind-count, rule-of, rule-one, rule-two, own-told, one-told, first-told, second-told, equation-step, tree-plain, tree-one, tree-two}
use Rattle.translate_rule.proofs.proof_term.proof_term.Goals as goal

pub unreachable-requires : goal.unreachable-requires
unreachable-requires c =
    let no : false ≡ true = ap has_row (sym c.in-Axiom.is ∙ c.kind.ensures) ∙ c.requires.kind in
    cc

pub refl-requires-clause-equation : goal.refl-requires-clause-equation
refl-requires-clause-equation c =
    let k = proof_in c.args.step in
    let id = c.args.step.id in
    let l = c.requires.step.id in
    let p = c.is_proof.ensures in
    equation-step k id (refl-equation (rule-of k id l p kinds.Refl (sym c.kind.ensures ∙ c.in-Refl.is)))

pub refl-requires-clause-told : goal.refl-requires-clause-told
refl-requires-clause-told c =
    let k = proof_in c.args.step in
    let id = c.args.step.id in
    let l = c.requires.step.id in
    let p = c.is_proof.ensures in
    let q = c.requires.told in
    let d = declarations_of c.args.target.now in
    (given_at d q.0 (own_sequent c.args.step), c.requires.step.stands d q.0 refl, own-told k id l p d q.0 q.1)

pub returns-in-Refl-clause-made : goal.returns-in-Refl-clause-made
returns-in-Refl-clause-made c =
    let k = proof_in c.args.step in
    let id = c.args.step.id in
    let l = c.requires.step.id in
    let p = c.is_proof.ensures in
    let d = declarations_of c.args.target.now in
    let e = sym c.kind.ensures ∙ c.in-Refl.is in
    IfOk-weaker c.refl.result _ _
    (λ r h tables told.
    h (given_at d tables (own_sequent c.args.step)) (c.requires.step.stands d tables refl) (own-told k id l p d tables told)
    ∙ ap Some (refl-tree tables (own_scope k id tables) [] (rule-of k id l p kinds.Refl e)
    ∙ tree-plain k id l p tables (own_scope k id tables) c.args.symbols.now kinds.Refl e refl))
    c.refl.ensures.made

pub refl-requires-in-BetaConv-clause-equation : goal.refl-requires-in-BetaConv-clause-equation
refl-requires-in-BetaConv-clause-equation c =
    let k = proof_in c.args.step in
    let id = c.args.step.id in
    let l = c.requires.step.id in
    let p = c.is_proof.ensures in
    equation-step k id (beta-equation (rule-of k id l p kinds.BetaConv (sym c.kind.ensures ∙ c.in-BetaConv.is)))

pub refl-requires-in-BetaConv-clause-told : goal.refl-requires-in-BetaConv-clause-told
refl-requires-in-BetaConv-clause-told c =
    let k = proof_in c.args.step in
    let id = c.args.step.id in
    let l = c.requires.step.id in
    let p = c.is_proof.ensures in
    let q = c.requires.told in
    let d = declarations_of c.args.target.now in
    (given_at d q.0 (own_sequent c.args.step), c.requires.step.stands d q.0 refl, own-told k id l p d q.0 q.1)

pub returns-in-BetaConv-clause-made : goal.returns-in-BetaConv-clause-made
returns-in-BetaConv-clause-made c =
    let k = proof_in c.args.step in
    let id = c.args.step.id in
    let l = c.requires.step.id in
    let p = c.is_proof.ensures in
    let d = declarations_of c.args.target.now in
    let e = sym c.kind.ensures ∙ c.in-BetaConv.is in
    IfOk-weaker c.refl-in-BetaConv.result _ _
    (λ r h tables told.
    h (given_at d tables (own_sequent c.args.step)) (c.requires.step.stands d tables refl) (own-told k id l p d tables told)
    ∙ ap Some (beta-tree tables (own_scope k id tables) [] (rule-of k id l p kinds.BetaConv e)
    ∙ tree-plain k id l p tables (own_scope k id tables) c.args.symbols.now kinds.BetaConv e refl))
    c.refl-in-BetaConv.ensures.made

pub refl-requires-in-DefineConst-clause-equation : goal.refl-requires-in-DefineConst-clause-equation
refl-requires-in-DefineConst-clause-equation c =
    let k = proof_in c.args.step in
    let id = c.args.step.id in
    let l = c.requires.step.id in
    let p = c.is_proof.ensures in
    equation-step k id (define-equation (rule-of k id l p kinds.DefineConst (sym c.kind.ensures ∙ c.in-DefineConst.is)))

pub refl-requires-in-DefineConst-clause-told : goal.refl-requires-in-DefineConst-clause-told
refl-requires-in-DefineConst-clause-told c =
    let k = proof_in c.args.step in
    let id = c.args.step.id in
    let l = c.requires.step.id in
    let p = c.is_proof.ensures in
    let q = c.requires.told in
    let d = declarations_of c.args.target.now in
    (given_at d q.0 (own_sequent c.args.step), c.requires.step.stands d q.0 refl, own-told k id l p d q.0 q.1)

pub returns-in-DefineConst-clause-made : goal.returns-in-DefineConst-clause-made
returns-in-DefineConst-clause-made c =
    let k = proof_in c.args.step in
    let id = c.args.step.id in
    let l = c.requires.step.id in
    let p = c.is_proof.ensures in
    let d = declarations_of c.args.target.now in
    let e = sym c.kind.ensures ∙ c.in-DefineConst.is in
    IfOk-weaker c.refl-in-DefineConst.result _ _
    (λ r h tables told.
    h (given_at d tables (own_sequent c.args.step)) (c.requires.step.stands d tables refl) (own-told k id l p d tables told)
    ∙ ap Some (define-tree tables (own_scope k id tables) [] (rule-of k id l p kinds.DefineConst e)
    ∙ tree-plain k id l p tables (own_scope k id tables) c.args.symbols.now kinds.DefineConst e refl))
    c.refl-in-DefineConst.ensures.made

pub returns-in-Assume-clause-made : goal.returns-in-Assume-clause-made
returns-in-Assume-clause-made c =
    let k = proof_in c.args.step in
    let id = c.args.step.id in
    let l = c.requires.step.id in
    let p = c.is_proof.ensures in
    let d = declarations_of c.args.target.now in
    let e = sym c.kind.ensures ∙ c.in-Assume.is in
    IfOk-weaker c.hypothesis.result _ _
    (λ r h tables told.
    let scope = own_scope k id tables in
    h (given_at d tables (own_sequent c.args.step)) k.trees (c.requires.step.stands d tables refl) c.sequent.ensures.known.1
    ∙ ap Some (ap (λ (t : Sequent). scope.proofs t.conclusion) c.sequent.ensures.is ∙ assume-tree tables scope [] (rule-of k id l p kinds.Assume e)
    ∙ tree-plain k id l p tables scope c.args.symbols.now kinds.Assume e refl))
    c.hypothesis.ensures.made

pub one_premise-requires-clause-one : goal.one_premise-requires-clause-one
one_premise-requires-clause-one c =
    let k = proof_in c.args.step in
    let id = c.args.step.id in
    let l = c.requires.step.id in
    let p = c.is_proof.ensures in
    kind-count k id l p kinds.AbsThm (sym c.kind.ensures ∙ c.in-AbsThm.is)

pub abs_proof-requires-clause-kind : goal.abs_proof-requires-clause-kind
abs_proof-requires-clause-kind c =
    sym c.kind.ensures ∙ c.in-AbsThm.is

pub abs_proof-requires-clause-premise : goal.abs_proof-requires-clause-premise
abs_proof-requires-clause-premise c =
    c.one_premise.ensures.is

pub abs_proof-requires-clause-one : goal.abs_proof-requires-clause-one
abs_proof-requires-clause-one c =
    c.one_premise.ensures.first.known

pub returns-in-AbsThm-clause-made : goal.returns-in-AbsThm-clause-made
returns-in-AbsThm-clause-made c =
    let k = proof_in c.args.step in
    let id = c.args.step.id in
    let l = c.requires.step.id in
    let p = c.is_proof.ensures in
    IfOk-weaker c.abs_proof.result _ _
    (λ r h tables told. h tables told ∙ ap Some
    (tree-one k id l p tables (own_scope k id tables) c.args.symbols.now (own_step c.args.step).kind refl c.one_premise.result c.one_premise.ensures))
    c.abs_proof.ensures.made

pub one_premise-requires-in-Sym-clause-one : goal.one_premise-requires-in-Sym-clause-one
one_premise-requires-in-Sym-clause-one c =
    let k = proof_in c.args.step in
    let id = c.args.step.id in
    let l = c.requires.step.id in
    let p = c.is_proof.ensures in
    kind-count k id l p kinds.Sym (sym c.kind.ensures ∙ c.in-Sym.is)

pub sym-requires-clause-one : goal.sym-requires-clause-one
sym-requires-clause-one c =
    c.one_premise-in-Sym.ensures.first.known

pub sym-requires-clause-equation : goal.sym-requires-clause-equation
sym-requires-clause-equation c =
    let k = proof_in c.args.step in
    let id = c.args.step.id in
    let l = c.requires.step.id in
    let p = c.is_proof.ensures in
    equation-step k c.one_premise-in-Sym.result.id
    (sym-equation (rule-one k id l p kinds.Sym c.one_premise-in-Sym.result.id (sym c.kind.ensures ∙ c.in-Sym.is) c.one_premise-in-Sym.ensures.is))

pub sym-requires-clause-told : goal.sym-requires-clause-told
sym-requires-clause-told c =
    let k = proof_in c.args.step in
    let id = c.args.step.id in
    let l = c.requires.step.id in
    let p = c.is_proof.ensures in
    let q = c.requires.told in
    let d = declarations_of c.args.target.now in (
      given_at d q.0 (own_sequent c.args.step),
      c.requires.step.stands d q.0 refl,
      one-told k id l p d q.0 q.1 c.one_premise-in-Sym.result.id c.one_premise-in-Sym.ensures.is,
    )

pub returns-in-Sym-clause-made : goal.returns-in-Sym-clause-made
returns-in-Sym-clause-made c =
    let k = proof_in c.args.step in
    let id = c.args.step.id in
    let l = c.requires.step.id in
    let p = c.is_proof.ensures in
    let d = declarations_of c.args.target.now in
    IfOk-weaker c.sym.result _ _
    (λ r h tables told.
    h (given_at d tables (own_sequent c.args.step)) (c.requires.step.stands d tables refl)
    (one-told k id l p d tables told c.one_premise-in-Sym.result.id c.one_premise-in-Sym.ensures.is)
    ∙ ap Some (tree-one k id l p tables (own_scope k id tables) c.args.symbols.now kinds.Sym (sym c.kind.ensures ∙ c.in-Sym.is) c.one_premise-in-Sym.result
    c.one_premise-in-Sym.ensures))
    c.sym.ensures.made

pub one_premise-requires-in-Subst-clause-one : goal.one_premise-requires-in-Subst-clause-one
one_premise-requires-in-Subst-clause-one c =
    let k = proof_in c.args.step in
    let id = c.args.step.id in
    let l = c.requires.step.id in
    let p = c.is_proof.ensures in
    kind-count k id l p kinds.Subst (sym c.kind.ensures ∙ c.in-Subst.is)

pub subst_proof-requires-clause-kind : goal.subst_proof-requires-clause-kind
subst_proof-requires-clause-kind c =
    sym c.kind.ensures ∙ c.in-Subst.is

pub subst_proof-requires-clause-premise : goal.subst_proof-requires-clause-premise
subst_proof-requires-clause-premise c =
    c.one_premise-in-Subst.ensures.is

pub subst_proof-requires-clause-one : goal.subst_proof-requires-clause-one
subst_proof-requires-clause-one c =
    c.one_premise-in-Subst.ensures.first.known

pub returns-in-Subst-clause-made : goal.returns-in-Subst-clause-made
returns-in-Subst-clause-made c =
    let k = proof_in c.args.step in
    let id = c.args.step.id in
    let l = c.requires.step.id in
    let p = c.is_proof.ensures in
    IfOk-weaker c.subst_proof.result _ _
    (λ r h tables told. h tables told ∙ ap Some
    (tree-one k id l p tables (own_scope k id tables) c.args.symbols.now (own_step c.args.step).kind refl c.one_premise-in-Subst.result
    c.one_premise-in-Subst.ensures)) c.subst_proof.ensures.made

pub one_premise-one-requires-clause-one : goal.one_premise-one-requires-clause-one
one_premise-one-requires-clause-one c =
    let k = proof_in c.args.step in
    let id = c.args.step.id in
    let l = c.requires.step.id in
    let p = c.is_proof.ensures in
    kind-count k id l p kinds.Restate (sym c.kind.ensures ∙ c.in-Restate.is)

pub theorem-requires-clause-premise : goal.theorem-requires-clause-premise
theorem-requires-clause-premise c =
    c.one_premise-one.ensures.first.known

pub theorem-requires-clause-told : goal.theorem-requires-clause-told
theorem-requires-clause-told c =
    let k = proof_in c.args.step in
    let id = c.args.step.id in
    let l = c.requires.step.id in
    let p = c.is_proof.ensures in
    let q = c.requires.told in
    let d = declarations_of c.args.target.now in (
      given_at d q.0 (own_sequent c.args.step),
      c.requires.step.stands d q.0 refl,
      one-told k id l p d q.0 q.1 c.one_premise-one.result.id c.one_premise-one.ensures.is,
    )

pub returns-in-Restate-clause-made : goal.returns-in-Restate-clause-made
returns-in-Restate-clause-made c =
    let k = proof_in c.args.step in
    let id = c.args.step.id in
    let l = c.requires.step.id in
    let p = c.is_proof.ensures in
    let d = declarations_of c.args.target.now in
    IfOk-weaker c.theorem.result _ _
    (λ r h tables told.
    h (given_at d tables (own_sequent c.args.step)) (c.requires.step.stands d tables refl)
    (one-told k id l p d tables told c.one_premise-one.result.id c.one_premise-one.ensures.is)
    ∙ ap Some (tree-one k id l p tables (own_scope k id tables) c.args.symbols.now kinds.Restate (sym c.kind.ensures ∙ c.in-Restate.is) c.one_premise-one.result
    c.one_premise-one.ensures))
    c.theorem.ensures.made

pub one_premise-requires-in-DefineConstList-clause-one : goal.one_premise-requires-in-DefineConstList-clause-one
one_premise-requires-in-DefineConstList-clause-one c =
    let k = proof_in c.args.step in
    let id = c.args.step.id in
    let l = c.requires.step.id in
    let p = c.is_proof.ensures in
    kind-count k id l p kinds.DefineConstList (sym c.kind.ensures ∙ c.in-DefineConstList.is)

pub list_proof-requires-clause-kind : goal.list_proof-requires-clause-kind
list_proof-requires-clause-kind c =
    sym c.kind.ensures ∙ c.in-DefineConstList.is

pub list_proof-requires-clause-premise : goal.list_proof-requires-clause-premise
list_proof-requires-clause-premise c =
    c.one_premise-in-DefineConstList.ensures.is

pub list_proof-requires-clause-one : goal.list_proof-requires-clause-one
list_proof-requires-clause-one c =
    c.one_premise-in-DefineConstList.ensures.first.known

pub returns-in-DefineConstList-clause-made : goal.returns-in-DefineConstList-clause-made
returns-in-DefineConstList-clause-made c =
    let k = proof_in c.args.step in
    let id = c.args.step.id in
    let l = c.requires.step.id in
    let p = c.is_proof.ensures in
    IfOk-weaker c.list_proof.result _ _
    (λ r h tables told. h tables told ∙ ap Some
    (tree-one k id l p tables (own_scope k id tables) c.args.symbols.now (own_step c.args.step).kind refl c.one_premise-in-DefineConstList.result
    c.one_premise-in-DefineConstList.ensures)) c.list_proof.ensures.made

pub one_premise-requires-in-FirstLaw-clause-one : goal.one_premise-requires-in-FirstLaw-clause-one
one_premise-requires-in-FirstLaw-clause-one c =
    let k = proof_in c.args.step in
    let id = c.args.step.id in
    let l = c.requires.step.id in
    let p = c.is_proof.ensures in
    kind-count k id l p kinds.FirstLaw (sym c.kind.ensures ∙ c.in-FirstLaw.is)

pub first_law_proof-requires-clause-kind : goal.first_law_proof-requires-clause-kind
first_law_proof-requires-clause-kind c =
    sym c.kind.ensures ∙ c.in-FirstLaw.is

pub first_law_proof-requires-clause-premise : goal.first_law_proof-requires-clause-premise
first_law_proof-requires-clause-premise c =
    c.one_premise-in-FirstLaw.ensures.is

pub first_law_proof-requires-clause-one : goal.first_law_proof-requires-clause-one
first_law_proof-requires-clause-one c =
    c.one_premise-in-FirstLaw.ensures.first.known

pub returns-in-FirstLaw-clause-made : goal.returns-in-FirstLaw-clause-made
returns-in-FirstLaw-clause-made c =
    let k = proof_in c.args.step in
    let id = c.args.step.id in
    let l = c.requires.step.id in
    let p = c.is_proof.ensures in
    IfOk-weaker c.first_law_proof.result _ _
    (λ r h tables told. h tables told ∙ ap Some
    (tree-one k id l p tables (own_scope k id tables) c.args.symbols.now (own_step c.args.step).kind refl c.one_premise-in-FirstLaw.result
    c.one_premise-in-FirstLaw.ensures)) c.first_law_proof.ensures.made

pub one_premise-requires-in-SecondLaw-clause-one : goal.one_premise-requires-in-SecondLaw-clause-one
one_premise-requires-in-SecondLaw-clause-one c =
    let k = proof_in c.args.step in
    let id = c.args.step.id in
    let l = c.requires.step.id in
    let p = c.is_proof.ensures in
    kind-count k id l p kinds.SecondLaw (sym c.kind.ensures ∙ c.in-SecondLaw.is)

pub second_law_proof-requires-clause-kind : goal.second_law_proof-requires-clause-kind
second_law_proof-requires-clause-kind c =
    sym c.kind.ensures ∙ c.in-SecondLaw.is

pub second_law_proof-requires-clause-premise : goal.second_law_proof-requires-clause-premise
second_law_proof-requires-clause-premise c =
    c.one_premise-in-SecondLaw.ensures.is

pub second_law_proof-requires-clause-one : goal.second_law_proof-requires-clause-one
second_law_proof-requires-clause-one c =
    c.one_premise-in-SecondLaw.ensures.first.known

pub returns-in-SecondLaw-clause-made : goal.returns-in-SecondLaw-clause-made
returns-in-SecondLaw-clause-made c =
    let k = proof_in c.args.step in
    let id = c.args.step.id in
    let l = c.requires.step.id in
    let p = c.is_proof.ensures in
    IfOk-weaker c.second_law_proof.result _ _
    (λ r h tables told. h tables told ∙ ap Some
    (tree-one k id l p tables (own_scope k id tables) c.args.symbols.now (own_step c.args.step).kind refl c.one_premise-in-SecondLaw.result
    c.one_premise-in-SecondLaw.ensures)) c.second_law_proof.ensures.made

pub two_premises-requires-clause-two : goal.two_premises-requires-clause-two
two_premises-requires-clause-two c =
    let k = proof_in c.args.step in
    let id = c.args.step.id in
    let l = c.requires.step.id in
    let p = c.is_proof.ensures in
    kind-count k id l p kinds.EqMp (sym c.kind.ensures ∙ c.in-EqMp.is)

pub eq_mp-requires-clause-one : goal.eq_mp-requires-clause-one
eq_mp-requires-clause-one c =
    c.two_premises.ensures.first.known

pub eq_mp-requires-clause-two : goal.eq_mp-requires-clause-two
eq_mp-requires-clause-two c =
    c.two_premises.ensures.second.known

pub eq_mp-requires-clause-equation : goal.eq_mp-requires-clause-equation
eq_mp-requires-clause-equation c =
    let k = proof_in c.args.step in
    let id = c.args.step.id in
    let l = c.requires.step.id in
    let p = c.is_proof.ensures in
    equation-step k c.two_premises.result.0.id
    (eq_mp-equation (rule-two k id l p kinds.EqMp c.two_premises.result.0.id c.two_premises.result.1.id (sym c.kind.ensures ∙ c.in-EqMp.is)
    c.two_premises.ensures.are))

pub eq_mp-requires-clause-told : goal.eq_mp-requires-clause-told
eq_mp-requires-clause-told c =
    let k = proof_in c.args.step in
    let id = c.args.step.id in
    let l = c.requires.step.id in
    let p = c.is_proof.ensures in
    let q = c.requires.told in
    let d = declarations_of c.args.target.now in (
      given_at d q.0 (own_sequent c.args.step),
      c.requires.step.stands d q.0 refl,
      first-told k id l p d q.0 q.1 c.two_premises.result.0.id c.two_premises.result.1.id c.two_premises.ensures.are,
      second-told k id l p d q.0 q.1 c.two_premises.result.0.id c.two_premises.result.1.id c.two_premises.ensures.are,
    )

pub returns-in-EqMp-clause-made : goal.returns-in-EqMp-clause-made
returns-in-EqMp-clause-made c =
    let k = proof_in c.args.step in
    let id = c.args.step.id in
    let l = c.requires.step.id in
    let p = c.is_proof.ensures in
    let d = declarations_of c.args.target.now in
    let e = sym c.kind.ensures ∙ c.in-EqMp.is in
    IfOk-weaker c.eq_mp.result _ _
    (λ r h tables told.
    h (given_at d tables (own_sequent c.args.step)) (c.requires.step.stands d tables refl)
    (first-told k id l p d tables told c.two_premises.result.0.id c.two_premises.result.1.id c.two_premises.ensures.are)
    (second-told k id l p d tables told c.two_premises.result.0.id c.two_premises.result.1.id c.two_premises.ensures.are)
    ∙ ap Some (tree-two k id l p tables (own_scope k id tables) c.args.symbols.now kinds.EqMp e c.two_premises.result.0 c.two_premises.result.1
    c.two_premises.ensures))
    c.eq_mp.ensures.made

pub two_premises-requires-in-AppThm-clause-two : goal.two_premises-requires-in-AppThm-clause-two
two_premises-requires-in-AppThm-clause-two c =
    let k = proof_in c.args.step in
    let id = c.args.step.id in
    let l = c.requires.step.id in
    let p = c.is_proof.ensures in
    kind-count k id l p kinds.AppThm (sym c.kind.ensures ∙ c.in-AppThm.is)

pub app_thm-requires-clause-one : goal.app_thm-requires-clause-one
app_thm-requires-clause-one c =
    c.two_premises-in-AppThm.ensures.first.known

pub app_thm-requires-clause-two : goal.app_thm-requires-clause-two
app_thm-requires-clause-two c =
    c.two_premises-in-AppThm.ensures.second.known

pub app_thm-requires-clause-own : goal.app_thm-requires-clause-own
app_thm-requires-clause-own c =
    let k = proof_in c.args.step in
    let id = c.args.step.id in
    let l = c.requires.step.id in
    let p = c.is_proof.ensures in
    equation-step k id
    (app_thm-own (rule-two k id l p kinds.AppThm c.two_premises-in-AppThm.result.0.id c.two_premises-in-AppThm.result.1.id
    (sym c.kind.ensures ∙ c.in-AppThm.is) c.two_premises-in-AppThm.ensures.are))

pub app_thm-requires-clause-first : goal.app_thm-requires-clause-first
app_thm-requires-clause-first c =
    let k = proof_in c.args.step in
    let id = c.args.step.id in
    let l = c.requires.step.id in
    let p = c.is_proof.ensures in
    equation-step k c.two_premises-in-AppThm.result.0.id
    (app_thm-first (rule-two k id l p kinds.AppThm c.two_premises-in-AppThm.result.0.id c.two_premises-in-AppThm.result.1.id
    (sym c.kind.ensures ∙ c.in-AppThm.is) c.two_premises-in-AppThm.ensures.are))

pub app_thm-requires-clause-second : goal.app_thm-requires-clause-second
app_thm-requires-clause-second c =
    let k = proof_in c.args.step in
    let id = c.args.step.id in
    let l = c.requires.step.id in
    let p = c.is_proof.ensures in
    equation-step k c.two_premises-in-AppThm.result.1.id
    (app_thm-second (rule-two k id l p kinds.AppThm c.two_premises-in-AppThm.result.0.id c.two_premises-in-AppThm.result.1.id
    (sym c.kind.ensures ∙ c.in-AppThm.is) c.two_premises-in-AppThm.ensures.are))

pub app_thm-requires-clause-told : goal.app_thm-requires-clause-told
app_thm-requires-clause-told c =
    let k = proof_in c.args.step in
    let id = c.args.step.id in
    let l = c.requires.step.id in
    let p = c.is_proof.ensures in
    let q = c.requires.told in
    let d = declarations_of c.args.target.now in (
      given_at d q.0 (own_sequent c.args.step),
      c.requires.step.stands d q.0 refl,
      own-told k id l p d q.0 q.1,
      first-told k id l p d q.0 q.1 c.two_premises-in-AppThm.result.0.id c.two_premises-in-AppThm.result.1.id c.two_premises-in-AppThm.ensures.are,
      second-told k id l p d q.0 q.1 c.two_premises-in-AppThm.result.0.id c.two_premises-in-AppThm.result.1.id c.two_premises-in-AppThm.ensures.are,
    )

pub returns-in-AppThm-clause-made : goal.returns-in-AppThm-clause-made
returns-in-AppThm-clause-made c =
    let k = proof_in c.args.step in
    let id = c.args.step.id in
    let l = c.requires.step.id in
    let p = c.is_proof.ensures in
    let d = declarations_of c.args.target.now in
    let e = sym c.kind.ensures ∙ c.in-AppThm.is in
    IfOk-weaker c.app_thm.result _ _
    (λ r h tables told.
    h (given_at d tables (own_sequent c.args.step)) (c.requires.step.stands d tables refl) (own-told k id l p d tables told)
    (first-told k id l p d tables told c.two_premises-in-AppThm.result.0.id c.two_premises-in-AppThm.result.1.id c.two_premises-in-AppThm.ensures.are)
    (second-told k id l p d tables told c.two_premises-in-AppThm.result.0.id c.two_premises-in-AppThm.result.1.id c.two_premises-in-AppThm.ensures.are)
    ∙ ap Some (app_thm-tree tables (own_scope k id tables) c.two_premises-in-AppThm.result.0.symbol c.two_premises-in-AppThm.result.1.symbol
    (rule-two k id l p kinds.AppThm c.two_premises-in-AppThm.result.0.id c.two_premises-in-AppThm.result.1.id e c.two_premises-in-AppThm.ensures.are)
    ∙ tree-two k id l p tables (own_scope k id tables) c.args.symbols.now kinds.AppThm e c.two_premises-in-AppThm.result.0 c.two_premises-in-AppThm.result.1
    c.two_premises-in-AppThm.ensures))
    c.app_thm.ensures.made

pub two_premises-requires-in-DeductAntisym-clause-two : goal.two_premises-requires-in-DeductAntisym-clause-two
two_premises-requires-in-DeductAntisym-clause-two c =
    let k = proof_in c.args.step in
    let id = c.args.step.id in
    let l = c.requires.step.id in
    let p = c.is_proof.ensures in
    kind-count k id l p kinds.DeductAntisym (sym c.kind.ensures ∙ c.in-DeductAntisym.is)

pub deduct_proof-requires-clause-kind : goal.deduct_proof-requires-clause-kind
deduct_proof-requires-clause-kind c =
    sym c.kind.ensures ∙ c.in-DeductAntisym.is

pub deduct_proof-requires-clause-premises : goal.deduct_proof-requires-clause-premises
deduct_proof-requires-clause-premises c =
    c.two_premises-in-DeductAntisym.ensures.are

pub deduct_proof-requires-clause-one : goal.deduct_proof-requires-clause-one
deduct_proof-requires-clause-one c =
    c.two_premises-in-DeductAntisym.ensures.first.known

pub deduct_proof-requires-clause-two : goal.deduct_proof-requires-clause-two
deduct_proof-requires-clause-two c =
    c.two_premises-in-DeductAntisym.ensures.second.known

pub returns-in-DeductAntisym-clause-made : goal.returns-in-DeductAntisym-clause-made
returns-in-DeductAntisym-clause-made c =
    let k = proof_in c.args.step in
    let id = c.args.step.id in
    let l = c.requires.step.id in
    let p = c.is_proof.ensures in
    IfOk-weaker c.deduct_proof.result _ _
    (λ r h tables told. h tables told ∙ ap Some
    (tree-two k id l p tables (own_scope k id tables) c.args.symbols.now (own_step c.args.step).kind refl c.two_premises-in-DeductAntisym.result.0
    c.two_premises-in-DeductAntisym.result.1 c.two_premises-in-DeductAntisym.ensures)) c.deduct_proof.ensures.made

pub two_premises-requires-in-Trans-clause-two : goal.two_premises-requires-in-Trans-clause-two
two_premises-requires-in-Trans-clause-two c =
    let k = proof_in c.args.step in
    let id = c.args.step.id in
    let l = c.requires.step.id in
    let p = c.is_proof.ensures in
    kind-count k id l p kinds.Trans (sym c.kind.ensures ∙ c.in-Trans.is)

pub trans-requires-clause-one : goal.trans-requires-clause-one
trans-requires-clause-one c =
    c.two_premises-in-Trans.ensures.first.known

pub trans-requires-clause-two : goal.trans-requires-clause-two
trans-requires-clause-two c =
    c.two_premises-in-Trans.ensures.second.known

pub trans-requires-clause-first : goal.trans-requires-clause-first
trans-requires-clause-first c =
    let k = proof_in c.args.step in
    let id = c.args.step.id in
    let l = c.requires.step.id in
    let p = c.is_proof.ensures in
    equation-step k c.two_premises-in-Trans.result.0.id
    (trans-first (rule-two k id l p kinds.Trans c.two_premises-in-Trans.result.0.id c.two_premises-in-Trans.result.1.id (sym c.kind.ensures ∙ c.in-Trans.is)
    c.two_premises-in-Trans.ensures.are))

pub trans-requires-clause-second : goal.trans-requires-clause-second
trans-requires-clause-second c =
    let k = proof_in c.args.step in
    let id = c.args.step.id in
    let l = c.requires.step.id in
    let p = c.is_proof.ensures in
    equation-step k c.two_premises-in-Trans.result.1.id
    (trans-second (rule-two k id l p kinds.Trans c.two_premises-in-Trans.result.0.id c.two_premises-in-Trans.result.1.id
    (sym c.kind.ensures ∙ c.in-Trans.is) c.two_premises-in-Trans.ensures.are))

pub trans-requires-clause-told : goal.trans-requires-clause-told
trans-requires-clause-told c =
    let k = proof_in c.args.step in
    let id = c.args.step.id in
    let l = c.requires.step.id in
    let p = c.is_proof.ensures in
    let q = c.requires.told in
    let d = declarations_of c.args.target.now in (
      given_at d q.0 (own_sequent c.args.step),
      c.requires.step.stands d q.0 refl,
      first-told k id l p d q.0 q.1 c.two_premises-in-Trans.result.0.id c.two_premises-in-Trans.result.1.id c.two_premises-in-Trans.ensures.are,
      second-told k id l p d q.0 q.1 c.two_premises-in-Trans.result.0.id c.two_premises-in-Trans.result.1.id c.two_premises-in-Trans.ensures.are,
    )

pub returns-in-Trans-clause-made : goal.returns-in-Trans-clause-made
returns-in-Trans-clause-made c =
    let k = proof_in c.args.step in
    let id = c.args.step.id in
    let l = c.requires.step.id in
    let p = c.is_proof.ensures in
    let d = declarations_of c.args.target.now in
    let e = sym c.kind.ensures ∙ c.in-Trans.is in
    IfOk-weaker c.trans.result _ _
    (λ r h tables told.
    h (given_at d tables (own_sequent c.args.step)) (c.requires.step.stands d tables refl)
    (first-told k id l p d tables told c.two_premises-in-Trans.result.0.id c.two_premises-in-Trans.result.1.id c.two_premises-in-Trans.ensures.are)
    (second-told k id l p d tables told c.two_premises-in-Trans.result.0.id c.two_premises-in-Trans.result.1.id c.two_premises-in-Trans.ensures.are)
    ∙ ap Some (tree-two k id l p tables (own_scope k id tables) c.args.symbols.now kinds.Trans e c.two_premises-in-Trans.result.0
    c.two_premises-in-Trans.result.1 c.two_premises-in-Trans.ensures))
    c.trans.ensures.made

pub two_premises-requires-in-ProveHyp-clause-two : goal.two_premises-requires-in-ProveHyp-clause-two
two_premises-requires-in-ProveHyp-clause-two c =
    let k = proof_in c.args.step in
    let id = c.args.step.id in
    let l = c.requires.step.id in
    let p = c.is_proof.ensures in
    kind-count k id l p kinds.ProveHyp (sym c.kind.ensures ∙ c.in-ProveHyp.is)

pub prove_hyp-requires-clause-one : goal.prove_hyp-requires-clause-one
prove_hyp-requires-clause-one c =
    c.two_premises-in-ProveHyp.ensures.first.known

pub prove_hyp-requires-clause-two : goal.prove_hyp-requires-clause-two
prove_hyp-requires-clause-two c =
    c.two_premises-in-ProveHyp.ensures.second.known

pub prove_hyp-requires-clause-told : goal.prove_hyp-requires-clause-told
prove_hyp-requires-clause-told c =
    let k = proof_in c.args.step in
    let id = c.args.step.id in
    let l = c.requires.step.id in
    let p = c.is_proof.ensures in
    let q = c.requires.told in
    let d = declarations_of c.args.target.now in (
      given_at d q.0 (own_sequent c.args.step),
      c.requires.step.stands d q.0 refl,
      first-told k id l p d q.0 q.1 c.two_premises-in-ProveHyp.result.0.id c.two_premises-in-ProveHyp.result.1.id c.two_premises-in-ProveHyp.ensures.are,
      second-told k id l p d q.0 q.1 c.two_premises-in-ProveHyp.result.0.id c.two_premises-in-ProveHyp.result.1.id c.two_premises-in-ProveHyp.ensures.are,
    )

pub returns-in-ProveHyp-clause-made : goal.returns-in-ProveHyp-clause-made
returns-in-ProveHyp-clause-made c =
    let k = proof_in c.args.step in
    let id = c.args.step.id in
    let l = c.requires.step.id in
    let p = c.is_proof.ensures in
    let d = declarations_of c.args.target.now in
    let e = sym c.kind.ensures ∙ c.in-ProveHyp.is in
    IfOk-weaker c.prove_hyp.result _ _
    (λ r h tables told.
    h (given_at d tables (own_sequent c.args.step)) (c.requires.step.stands d tables refl)
    (first-told k id l p d tables told c.two_premises-in-ProveHyp.result.0.id c.two_premises-in-ProveHyp.result.1.id c.two_premises-in-ProveHyp.ensures.are)
    (second-told k id l p d tables told c.two_premises-in-ProveHyp.result.0.id c.two_premises-in-ProveHyp.result.1.id c.two_premises-in-ProveHyp.ensures.are)
    ∙ ap Some (tree-two k id l p tables (own_scope k id tables) c.args.symbols.now kinds.ProveHyp e c.two_premises-in-ProveHyp.result.0
    c.two_premises-in-ProveHyp.result.1 c.two_premises-in-ProveHyp.ensures))
    c.prove_hyp.ensures.made
