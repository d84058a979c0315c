use Rattle.std.proofs.Common.{◌∙◌, sym, ap, subst, Some, []}
use Rattle.std.specs.List.{AllByRecursion}
use Rattle.std.proofs.lemmas.Result.{IfOk-weaker}
use Rattle.hol_spec.specs.Proofs.{sequent_at}
use Rattle.hol_spec.specs.Terms.{Variable}
use Rattle.hol_term.specs.Subterms.{HaveTypes, variables_of}
use Rattle.hol_term.specs.Tables.{terms_at, AreKnown as AreTermsOf}
use Rattle.lp_spec.specs.Modules.{applied}
use Rattle.lp_spec.specs.Trees.{Sym}
use Rattle.lp_term.specs.Tables.{trees_at, AreKnown}
use Rattle.translate_term.specs.Told.{TellsType}
use Rattle.translate_term.specs.GrowLaws.{Grows-trans, Grows-table}
use Rattle.translate_proof.proofs.SequentLaws.{variables-told}
use Rattle.translate_proof.proofs.TheoremLaws.{Ready-start, theorem-args}
use Rattle.translate_proof.specs.EnvironmentLaws.{Represents-Grows}
use Rattle.translate_proof.specs.ProvedHypotheses.{scope_proved}
use Rattle.translate_proof.proofs.ProvedLaws.{IsPut-Grows}
use Rattle.translate_proof.proofs.ground.Ground.theorem_over.Goals as goal

pub add_free_variables-requires-clause-told : goal.add_free_variables-requires-clause-told
add_free_variables-requires-clause-told c =
    let trees = c.args.self.proof.now.trees in
    let s = sequent_at c.args.self.proof.now.made c.args.premise.id in
    let given = c.requires.told.0 in
    let are = ap (variables_of trees) c.variables.ensures ∙ c.requires.params.free_vars in (
      given,
      Represents-Grows c.add_type_variables.ensures.grows given trees c.args.self.env.now c.requires.told.1,
      subst (AllByRecursion (λ (v : Variable). TellsType given.declarations given.symbols v.1)) (sym are)
          (variables-told given.declarations given.symbols s c.requires.told.2),
    )

pub add_free_variables-requires-clause-variables : goal.add_free_variables-requires-clause-variables
add_free_variables-requires-clause-variables c = subst (HaveTypes c.args.self.proof.now.trees) (sym c.variables.ensures) c.requires.params.known

pub returns-in_err-add_free_variables-clause-grows : goal.returns-in_err-add_free_variables-clause-grows
returns-in_err-add_free_variables-clause-grows c = Grows-trans c.add_type_variables.ensures.grows c.add_free_variables.ensures.grows

pub returns-in_err-add_hypotheses-clause-grows : goal.returns-in_err-add_hypotheses-clause-grows
returns-in_err-add_hypotheses-clause-grows c = Grows-trans c.add_type_variables.ensures.grows
    (Grows-trans c.add_free_variables.ensures.grows c.add_hypotheses.ensures.grows)

pub call-requires : goal.call-requires
call-requires c =
    let trees = c.args.self.proof.now.trees in
    let s = sequent_at c.args.self.proof.now.made c.args.premise.id in
    let given = c.requires.told.0 in
    let are = ap (variables_of trees) c.variables.ensures ∙ c.requires.params.free_vars in
    let told = subst (AllByRecursion (λ (v : Variable). TellsType given.declarations given.symbols v.1)) (sym are)
    (variables-told given.declarations given.symbols s c.requires.told.2) in
    let first = c.in_ok-add_type_variables.ensures.ready given trees []
    (Ready-start given c.args.target.now trees c.args.self.env.now _ c.requires.none c.requires.told.1) in
    let second = c.in_ok-add_free_variables.ensures.ready given _ first told in
    let put = IsPut-Grows (Grows-trans c.add_type_variables.ensures.grows c.add_free_variables.ensures.grows) trees c.args.proved c.requires.proved.0
    c.requires.proved.1 in
    let third = c.in_ok-add_hypotheses.ensures.ready given trees c.requires.proved.0 _ second
    (subst (AreTermsOf trees) (sym c.ids-hyps.ensures.numbers) c.sequent.ensures.known.0) put in
    subst (AreKnown c.add_hypotheses.new.target.table) (sym c.deref.ensures.value) third.known

pub returns-clause-made : goal.returns-clause-made
returns-clause-made c =
    let trees = c.args.self.proof.now.trees in
    let s = sequent_at c.args.self.proof.now.made c.args.premise.id in
    let names = c.names.ensures ∙ c.requires.params.type_vars in
    let variables = ap (variables_of trees) c.variables.ensures ∙ c.requires.params.free_vars in
    let hyps = ap (terms_at trees) c.ids-hyps.ensures.numbers ∙ ap (λ s. s.hypotheses) c.sequent.ensures.is in
    IfOk-weaker c.call.result _ _
    (λ r h given x stands put told.
    let all = subst (AllByRecursion (λ (v : Variable). TellsType given.declarations given.symbols v.1)) (sym variables)
    (variables-told given.declarations given.symbols s told) in
    let first = c.in_ok-add_type_variables.ensures.ready given trees [] (Ready-start given c.args.target.now trees c.args.self.env.now _ c.requires.none stands)
    in
    let second = c.in_ok-add_free_variables.ensures.ready given _ first all in
    let put_later = IsPut-Grows (Grows-trans c.add_type_variables.ensures.grows c.add_free_variables.ensures.grows) trees c.args.proved x put in
    let third = c.in_ok-add_hypotheses.ensures.ready given trees x _ second
    (subst (AreTermsOf trees) (sym c.ids-hyps.ensures.numbers) c.sequent.ensures.known.0) put_later in
    h ∙ ap (λ l. Some (applied (Sym c.args.premise.symbol) l))
    (ap (trees_at c.add_hypotheses.new.target.table) c.deref.ensures.value ∙ third.are
    ∙ theorem-args (scope_proved trees c.args.proved x given.scope) s c.names.result.now _ _ names variables hyps))
    c.call.ensures.made

pub returns-clause-grows : goal.returns-clause-grows
returns-clause-grows c =
    Grows-trans c.add_type_variables.ensures.grows
    (Grows-trans c.add_free_variables.ensures.grows (Grows-trans c.add_hypotheses.ensures.grows (Grows-table _ _ c.call.ensures.keeps)))
