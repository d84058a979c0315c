use Rattle.std.proofs.Common.{◌∙◌, sym, ap, subst, Some, []}
use Rattle.std.specs.List.{AllByRecursion}
use Rattle.std.proofs.lemmas.Result.{IfOk-weaker}
use Rattle.hol_spec.specs.Lists.{IsIn}
use Rattle.hol_spec.specs.Names.{Name}
use Rattle.hol_spec.specs.Proofs.{sequent_at}
use Rattle.hol_spec.specs.Substitution.{image}
use Rattle.hol_spec.specs.Terms.{Term, Variable}
use Rattle.hol_spec.specs.TermSubstitution.{sub}
use Rattle.hol_term.specs.Subterms.{HaveTypes, variables_of}
use Rattle.hol_term.specs.Tables.{terms_at, AreKnown as AreTermsOf}
use Rattle.lp_spec.specs.Modules.{applied}
use Rattle.lp_spec.specs.Trees.{Sym}
use Rattle.lp_term.specs.Tables.{trees_at, AreKnown}
use Rattle.translate_spec.specs.Scopes.{images}
use Rattle.translate_term.specs.Told.{TellsType}
use Rattle.translate_proof.specs.Environments.{IsTold}
use Rattle.translate_proof.specs.Images.{type_pairs, term_pairs, variable_image, HasOwnVariable}
use Rattle.translate_term.specs.GrowLaws.{Grows-trans, Grows-table}
use Rattle.translate_proof.proofs.ImageLaws.{names-told, images-are-told, variables-there, hypotheses-there}
use Rattle.translate_proof.proofs.TheoremLaws.{Ready-start, theorem-args}
use Rattle.translate_proof.specs.EnvironmentLaws.{Represents-Grows}
use Rattle.translate_proof.proofs.images.subst_onto.Goals as goal

pub add_type_images-requires-clause-told : goal.add_type_images-requires-clause-told
add_type_images-requires-clause-told c =
    let k = c.args.ground.proof.now in
    let given = c.requires.told.0 in
    let names = c.names.ensures ∙ c.requires.params.type_vars in (
      given,
      c.requires.told.1,
      subst
          (AllByRecursion (λ (n : Name). TellsType given.declarations given.symbols (image (type_pairs k.trees c.args.step.put.now) n))) (sym names)
          (names-told k c.args.step.put.now c.args.step.id c.args.step.one.id c.requires.substituted given c.requires.told.2),
    )

pub add_term_images-requires-clause-own : goal.add_term_images-requires-clause-own
add_term_images-requires-clause-own c = subst (HaveTypes c.args.ground.proof.now.trees) (sym c.variables-variables.ensures) c.requires.own_params.known

pub add_term_images-requires-clause-variables : goal.add_term_images-requires-clause-variables
add_term_images-requires-clause-variables c = subst (HaveTypes c.args.ground.proof.now.trees) (sym c.variables-general.ensures) c.requires.params.known

pub add_term_images-requires-clause-there : goal.add_term_images-requires-clause-there
add_term_images-requires-clause-there c =
    let k = c.args.ground.proof.now in
    let own = ap (variables_of k.trees) c.variables-variables.ensures ∙ c.requires.own_params.free_vars in
    let variables = ap (variables_of k.trees) c.variables-general.ensures ∙ c.requires.params.free_vars in
    subst (AllByRecursion (HasOwnVariable k.trees c.args.step.put.now _)) (sym variables)
    (variables-there k c.args.step.put.now c.args.step.id c.args.step.one.id c.requires.substituted c.variables-variables.result.now own)

pub add_term_images-requires-clause-told : goal.add_term_images-requires-clause-told
add_term_images-requires-clause-told c =
    let k = c.args.ground.proof.now in
    let given = c.requires.told.0 in
    let variables = ap (variables_of k.trees) c.variables-general.ensures ∙ c.requires.params.free_vars in (
      given,
      Represents-Grows c.add_type_images.ensures.grows given k.trees c.args.ground.env.now c.requires.told.1,
      subst (AllByRecursion (λ (v : Variable). IsTold given (variable_image k.trees c.args.step.put.now v))) (sym variables)
          (images-are-told k c.args.step.put.now c.args.step.id c.args.step.one.id c.requires.substituted given c.requires.told.2),
    )

pub add_hypothesis_images-requires-clause-own : goal.add_hypothesis_images-requires-clause-own
add_hypothesis_images-requires-clause-own c = subst (AreTermsOf c.args.ground.proof.now.trees) (sym c.ids.ensures.numbers) c.sequent-own.ensures.known.0

pub add_hypothesis_images-requires-clause-hyps : goal.add_hypothesis_images-requires-clause-hyps
add_hypothesis_images-requires-clause-hyps c = subst (AreTermsOf c.args.ground.proof.now.trees) (sym c.ids-2.ensures.numbers) c.sequent-sequent.ensures.known.0

pub add_hypothesis_images-requires-clause-there : goal.add_hypothesis_images-requires-clause-there
add_hypothesis_images-requires-clause-there c =
    let k = c.args.ground.proof.now in
    let own = ap (terms_at k.trees) c.ids.ensures.numbers ∙ ap (λ s. s.hypotheses) c.sequent-own.ensures.is in
    let hyps = ap (terms_at k.trees) c.ids-2.ensures.numbers ∙ ap (λ s. s.hypotheses) c.sequent-sequent.ensures.is in
    subst (λ l. AllByRecursion
    (λ (h : Term). IsIn (terms_at k.trees c.ids.result.now) (sub (type_pairs k.trees c.args.step.put.now) (term_pairs k.trees c.args.step.put.now) h)) l)
    (sym hyps)
    (subst (λ l. AllByRecursion (λ (h : Term). IsIn l (sub (type_pairs k.trees c.args.step.put.now) (term_pairs k.trees c.args.step.put.now) h))
    (sequent_at k.made c.args.step.one.id).hypotheses) (sym own)
    (hypotheses-there k c.args.step.put.now c.args.step.id c.args.step.one.id c.requires.substituted))

pub returns-in_err-add_term_images-clause-grows : goal.returns-in_err-add_term_images-clause-grows
returns-in_err-add_term_images-clause-grows c = Grows-trans c.add_type_images.ensures.grows c.add_term_images.ensures.grows

pub returns-in_err-add_hypothesis_images-clause-grows : goal.returns-in_err-add_hypothesis_images-clause-grows
returns-in_err-add_hypothesis_images-clause-grows c =
    Grows-trans c.add_type_images.ensures.grows (Grows-trans c.add_term_images.ensures.grows c.add_hypothesis_images.ensures.grows)

pub call-requires : goal.call-requires
call-requires c =
    let k = c.args.ground.proof.now in
    let given = c.requires.told.0 in
    let names = c.names.ensures ∙ c.requires.params.type_vars in
    let variables = ap (variables_of k.trees) c.variables-general.ensures ∙ c.requires.params.free_vars in
    let first = c.in_ok-add_type_images.ensures.ready given []
    (Ready-start given c.args.target.now k.trees c.args.ground.env.now _ c.requires.none c.requires.told.1)
    (subst (AllByRecursion (λ (n : Name). TellsType given.declarations given.symbols (image (type_pairs k.trees c.args.step.put.now) n))) (sym names)
    (names-told k c.args.step.put.now c.args.step.id c.args.step.one.id c.requires.substituted given c.requires.told.2)) in
    let second = c.in_ok-add_term_images.ensures.ready given _ first
    (subst (AllByRecursion (λ (v : Variable). IsTold given (variable_image k.trees c.args.step.put.now v))) (sym variables)
    (images-are-told k c.args.step.put.now c.args.step.id c.args.step.one.id c.requires.substituted given c.requires.told.2)) in
    subst (AreKnown c.add_hypothesis_images.new.target.table) (sym c.deref.ensures.value) (c.in_ok-add_hypothesis_images.ensures.ready given _ second).known

pub returns-clause-made : goal.returns-clause-made
returns-clause-made c =
    let k = c.args.ground.proof.now in
    let s = sequent_at k.made c.args.step.one.id in
    let names = c.names.ensures ∙ c.requires.params.type_vars in
    let variables = ap (variables_of k.trees) c.variables-general.ensures ∙ c.requires.params.free_vars in
    let hyps = ap (terms_at k.trees) c.ids-2.ensures.numbers ∙ ap (λ s. s.hypotheses) c.sequent-sequent.ensures.is in
    IfOk-weaker c.call.result _ _
    (λ r h given stands told.
    let first = c.in_ok-add_type_images.ensures.ready given [] (Ready-start given c.args.target.now k.trees c.args.ground.env.now _ c.requires.none stands)
    (subst (AllByRecursion (λ (n : Name). TellsType given.declarations given.symbols (image (type_pairs k.trees c.args.step.put.now) n))) (sym names)
    (names-told k c.args.step.put.now c.args.step.id c.args.step.one.id c.requires.substituted given told)) in
    let second = c.in_ok-add_term_images.ensures.ready given _ first
    (subst (AllByRecursion (λ (v : Variable). IsTold given (variable_image k.trees c.args.step.put.now v))) (sym variables)
    (images-are-told k c.args.step.put.now c.args.step.id c.args.step.one.id c.requires.substituted given told)) in
    let third = c.in_ok-add_hypothesis_images.ensures.ready given _ second in
    h ∙ ap (λ l. Some (applied (Sym c.args.step.one.symbol) l))
    (ap (trees_at c.add_hypothesis_images.new.target.table) c.deref.ensures.value ∙ third.are
    ∙ theorem-args (images given.symbols (type_pairs k.trees c.args.step.put.now) (term_pairs k.trees c.args.step.put.now) given.scope) s c.names.result.now _ _
    names variables hyps))
    c.call.ensures.made

pub returns-clause-grows : goal.returns-clause-grows
returns-clause-grows c =
    Grows-trans c.add_type_images.ensures.grows
    (Grows-trans c.add_term_images.ensures.grows (Grows-trans c.add_hypothesis_images.ensures.grows (Grows-table _ _ c.call.ensures.keeps)))
