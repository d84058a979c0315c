use Rattle.std.proofs.Common.{◌∙◌, sym, ap, subst, Some, []}
use Rattle.std.specs.List.{AllByRecursion}
use Rattle.std.proofs.lemmas.Result.{IfOk-weaker}
use Rattle.hol_spec.specs.Proofs.{sequent_at}
use Rattle.hol_spec.specs.Terms.{Variable}
use Rattle.hol_term.specs.Subterms.{HaveTypes, variables_of}
use Rattle.hol_term.specs.Tables.{terms_at, AreKnown as AreTermsOf}
use Rattle.hol_defs.specs.Lists.{pairs_at as pairs_view}
use Rattle.lp_spec.specs.Modules.{applied}
use Rattle.lp_spec.specs.Trees.{Sym}
use Rattle.lp_term.specs.Tables.{trees_at, AreKnown}
use Rattle.translate_term.specs.Told.{TellsTerm, TellsType}
use Rattle.translate_proof.specs.Constants.{scope_with, IsEquationFormula}
use Rattle.translate_proof.proofs.ConstantLaws.{definition_list-equations}
use Rattle.translate_term.specs.GrowLaws.{Grows-trans, Grows-table}
use Rattle.translate_proof.proofs.SequentLaws.{variables-told}
use Rattle.translate_proof.proofs.TheoremLaws.{Ready-start, theorem-args}
use Rattle.translate_proof.specs.StepSequents.{step-IsSequent}
use Rattle.translate_proof.specs.EnvironmentLaws.{Represents-Grows}
use Rattle.translate_proof.proofs.constants.constant_list_over.Goals as goal

pub add_constants-requires-clause-variables : goal.add_constants-requires-clause-variables
add_constants-requires-clause-variables c = subst (HaveTypes c.args.ground.proof.now.trees) (sym c.variables-variables.ensures) c.requires.params.known

pub add_constants-requires-clause-told : goal.add_constants-requires-clause-told
add_constants-requires-clause-told c =
    let trees = c.args.ground.proof.now.trees in
    let s = sequent_at c.args.ground.proof.now.made c.args.one.id in
    let given = c.requires.told.0 in
    let variables = ap (variables_of trees) c.variables-variables.ensures ∙ c.requires.params.free_vars in (
      given,
      Represents-Grows c.add_type_variables.ensures.grows given trees c.args.ground.env.now c.requires.told.1,
      c.requires.told.2,
      subst (AllByRecursion (λ (v : Variable). TellsType given.declarations given.symbols v.1)) (sym variables)
          (variables-told given.declarations given.symbols s c.requires.told.3),
    )

pub add_self_proofs-requires-clause-hyps : goal.add_self_proofs-requires-clause-hyps
add_self_proofs-requires-clause-hyps c = subst (AreTermsOf c.args.ground.proof.now.trees) (sym c.ids.ensures.numbers) c.sequent-sequent.ensures.known.0

pub add_self_proofs-requires-clause-equations : goal.add_self_proofs-requires-clause-equations
add_self_proofs-requires-clause-equations c =
    let k = c.args.ground.proof.now in
    let hyps = ap (terms_at k.trees) c.ids.ensures.numbers ∙ ap (λ s. s.hypotheses) c.sequent-sequent.ensures.is in
    subst (AllByRecursion IsEquationFormula) (sym hyps)
    (definition_list-equations (pairs_view k.trees c.args.pairs.now) (sequent_at k.made c.args.one.id)
    (step-IsSequent k.made c.is_proof.ensures c.args.one.id c.requires.one) c.requires.list)

pub add_self_proofs-requires-clause-told : goal.add_self_proofs-requires-clause-told
add_self_proofs-requires-clause-told c =
    let trees = c.args.ground.proof.now.trees in
    let given = c.requires.told.0 in
    let hyps = ap (terms_at trees) c.ids.ensures.numbers ∙ ap (λ s. s.hypotheses) c.sequent-sequent.ensures.is in (
      given,
      Represents-Grows (Grows-trans c.add_type_variables.ensures.grows c.add_constants.ensures.grows) given trees c.args.ground.env.now c.requires.told.1,
      subst (AllByRecursion (TellsTerm given.declarations given.symbols)) (sym hyps) c.requires.told.3.hypotheses,
    )

pub returns-in_err-add_constants-clause-grows : goal.returns-in_err-add_constants-clause-grows
returns-in_err-add_constants-clause-grows c = Grows-trans c.add_type_variables.ensures.grows c.add_constants.ensures.grows

pub returns-in_err-add_self_proofs-clause-grows : goal.returns-in_err-add_self_proofs-clause-grows
returns-in_err-add_self_proofs-clause-grows c = Grows-trans c.add_type_variables.ensures.grows
    (Grows-trans c.add_constants.ensures.grows c.add_self_proofs.ensures.grows)

pub call-requires : goal.call-requires
call-requires c =
    let trees = c.args.ground.proof.now.trees in
    let s = sequent_at c.args.ground.proof.now.made c.args.one.id in
    let given = c.requires.told.0 in
    let variables = ap (variables_of trees) c.variables-variables.ensures ∙ c.requires.params.free_vars in
    let hyps = ap (terms_at trees) c.ids.ensures.numbers ∙ ap (λ s. s.hypotheses) c.sequent-sequent.ensures.is in
    let first = c.in_ok-add_type_variables.ensures.ready given trees []
    (Ready-start given c.args.target.now trees c.args.ground.env.now _ c.requires.none c.requires.told.1) in
    let second = c.in_ok-add_constants.ensures.ready given _ first c.requires.told.2
    (subst (AllByRecursion (λ (v : Variable). TellsType given.declarations given.symbols v.1)) (sym variables)
    (variables-told given.declarations given.symbols s c.requires.told.3)) in
    let third = c.in_ok-add_self_proofs.ensures.ready given _ second
    (subst (AllByRecursion (TellsTerm given.declarations given.symbols)) (sym hyps) c.requires.told.3.hypotheses) in
    subst (AreKnown c.add_self_proofs.new.target.table) (sym c.deref.ensures.value) third.known

pub returns-clause-made : goal.returns-clause-made
returns-clause-made c =
    let trees = c.args.ground.proof.now.trees in
    let s = sequent_at c.args.ground.proof.now.made c.args.one.id in
    let names = c.names.ensures ∙ c.requires.params.type_vars in
    let variables = ap (variables_of trees) c.variables-variables.ensures ∙ c.requires.params.free_vars in
    let hyps = ap (terms_at trees) c.ids.ensures.numbers ∙ ap (λ s. s.hypotheses) c.sequent-sequent.ensures.is in
    IfOk-weaker c.call.result _ _
    (λ r h given stands constants told.
    let first = c.in_ok-add_type_variables.ensures.ready given trees []
    (Ready-start given c.args.target.now trees c.args.ground.env.now _ c.requires.none stands) in
    let second = c.in_ok-add_constants.ensures.ready given _ first constants
    (subst (AllByRecursion (λ (v : Variable). TellsType given.declarations given.symbols v.1)) (sym variables)
    (variables-told given.declarations given.symbols s told)) in
    let third = c.in_ok-add_self_proofs.ensures.ready given _ second
    (subst (AllByRecursion (TellsTerm given.declarations given.symbols)) (sym hyps) told.hypotheses) in
    h ∙ ap (λ l. Some (applied (Sym c.args.one.symbol) l))
    (ap (trees_at c.add_self_proofs.new.target.table) c.deref.ensures.value ∙ third.are
    ∙ theorem-args (scope_with given trees c.args.pairs.now) s c.names.result.now _ _ names variables hyps))
    c.call.ensures.made

pub returns-clause-grows : goal.returns-clause-grows
returns-clause-grows c =
    Grows-trans c.add_type_variables.ensures.grows
    (Grows-trans c.add_constants.ensures.grows (Grows-trans c.add_self_proofs.ensures.grows (Grows-table _ _ c.call.ensures.keeps)))
