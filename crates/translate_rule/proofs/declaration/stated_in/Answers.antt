use Rattle.std.proofs.Common.{◌∙◌, sym, ap, Some, None, arith}
use Rattle.holide_sig.specs.Modules.{declarations_of}
use Rattle.lp_spec.specs.Modules.{abstractions}
use Rattle.lp_spec.specs.declared.form.Form.TheVariants as form
use Rattle.lp_term.specs.TableLaws.{Holds-tree_at, Holds-within}
use Rattle.translate_spec.specs.Rows.{has_row}
use Rattle.translate_spec.specs.Scopes.{conclusion_tree, domains_of}
use Rattle.translate_term.specs.GrowLaws.{Grows-trans, Grows-table}
use Rattle.translate_rule.specs.OwnSteps.{needed_step, own_sequent, proof_in}
use Rattle.translate_rule.specs.Steps.{TellsProof}
use Rattle.translate_rule.proofs.DeclarationLaws.{content-own, content-proved, declared-proved, declared-none}
use Rattle.translate_rule.proofs.OwnLaws.{told-Grows, IsReady-Grows}
use Rattle.translate_rule.proofs.declaration.stated_in.Goals as goal

pub theorem_type-requires-clause-told : goal.theorem_type-requires-clause-told
theorem_type-requires-clause-told c =
    let q = c.requires.told in (
      q.0,
      content-own (proof_in c.args.step) c.args.step.id c.requires.step.id c.is_proof.ensures c.args.symbols.now (declarations_of c.args.target.now) q.0
          q.1,
    )

pub needed_proof-requires-clause-step : goal.needed_proof-requires-clause-step
needed_proof-requires-clause-step c = IsReady-Grows c.in_ok-ty.ensures.grows c.args.step c.requires.step

pub needed_proof-requires-clause-kind : goal.needed_proof-requires-clause-kind
needed_proof-requires-clause-kind c = sym (c.has_proof.ensures ∙ ap has_row c.kind.ensures) ∙ c.if-not-has_proof.false

pub needed_proof-requires-clause-told : goal.needed_proof-requires-clause-told
needed_proof-requires-clause-told c =
    let k = proof_in c.args.step in
    let q = c.requires.told in
    let proved = sym (c.has_proof.ensures ∙ ap has_row c.kind.ensures) ∙ c.if-not-has_proof.false in
    let told = content-proved k c.args.step.id c.requires.step.id c.is_proof.ensures c.args.symbols.now (declarations_of c.args.target.now) q.0 proved q.1 in
    (q.0, told-Grows c.in_ok-ty.ensures.grows (λ d. TellsProof d q.0 k.made (needed_step c.args.step)) c.requires.step.held told)

pub abstracted-requires-clause-ty : goal.abstracted-requires-clause-ty
abstracted-requires-clause-ty c = omega (arith, c.in_ok-ty.ensures.known, c.in_ok-inner.ensures.grows.table.longer)

pub abstracted-requires-clause-body : goal.abstracted-requires-clause-body
abstracted-requires-clause-body c =
    let k = proof_in c.args.step in
    let q = c.requires.told in
    let proved = sym (c.has_proof.ensures ∙ ap has_row c.kind.ensures) ∙ c.if-not-has_proof.false in
    let told = content-proved k c.args.step.id c.requires.step.id c.is_proof.ensures c.args.symbols.now (declarations_of c.args.target.now) q.0 proved q.1 in
    Holds-within _ c.in_ok-inner.inner.0 _
    (c.in_ok-inner.ensures.made q.0
    (told-Grows c.in_ok-ty.ensures.grows (λ d. TellsProof d q.0 k.made (needed_step c.args.step)) c.requires.step.held told))

pub returns-then-not-has_proof-clause-made : goal.returns-then-not-has_proof-clause-made
returns-then-not-has_proof-clause-made c = λ tables name told.
    let k = proof_in c.args.step in
    let id = c.args.step.id in
    let l = c.requires.step.id in
    let p = c.is_proof.ensures in
    let d = declarations_of c.args.target.now in
    let none = sym (c.has_proof.ensures ∙ ap has_row c.kind.ensures) ∙ c.if-not-has_proof.true in
    let tree = Holds-tree_at _ c.in_ok-ty.ty.0 _ (c.in_ok-ty.ensures.made tables (content-own k id l p c.args.symbols.now d tables told)) in
    (λ i. record { name = name; form = form.Symbol; ty = tree i; body = None }) ∙ declared-none k id l p c.args.symbols.now d tables name none

pub returns-then-not-has_proof-clause-known : goal.returns-then-not-has_proof-clause-known
returns-then-not-has_proof-clause-known c = record { ty = c.in_ok-ty.ensures.known; body = tt }

pub returns-clause-made : goal.returns-clause-made
returns-clause-made c = λ tables name told.
    let k = proof_in c.args.step in
    let id = c.args.step.id in
    let l = c.requires.step.id in
    let p = c.is_proof.ensures in
    let d = declarations_of c.args.target.now in
    let s = own_sequent c.args.step in
    let proved = sym (c.has_proof.ensures ∙ ap has_row c.kind.ensures) ∙ c.if-not-has_proof.false in
    let ty = c.in_ok-ty.ensures.made tables (content-own k id l p c.args.symbols.now d tables told) in
    let later = c.in_ok-inner.ensures.grows.table.stays.each c.in_ok-ty.ty.0 _ ty in
    let needs = told-Grows c.in_ok-ty.ensures.grows (λ d. TellsProof d tables k.made (needed_step c.args.step)) c.requires.step.held
    (content-proved k id l p c.args.symbols.now d tables proved told) in
    let inner = c.in_ok-inner.ensures.made tables needs in
    let tree = Holds-tree_at _ c.in_ok-ty.ty.0 _ (c.in_ok-body.ensures.keeps.stays.each c.in_ok-ty.ty.0 _ later) in
    let body =
    Holds-tree_at _ c.in_ok-body.body.0 _
    (c.in_ok-body.ensures.made (domains_of tables s) (conclusion_tree tables s) later (c.binder_count-count.ensures tables))
    ∙ ap (abstractions (domains_of tables s)) (Holds-tree_at _ c.in_ok-inner.inner.0 _ inner) in
    (λ i. record { name = name; form = form.Thm; ty = tree i; body = Some (body i) }) ∙ declared-proved k id l p c.args.symbols.now d tables name proved

pub returns-clause-known : goal.returns-clause-known
returns-clause-known c = record {
  ty = omega (arith, c.in_ok-ty.ensures.known, c.in_ok-inner.ensures.grows.table.longer, c.in_ok-body.ensures.keeps.longer);
  body =
      c.in_ok-body.ensures.known;
}

pub returns-in_err-inner-clause-grows : goal.returns-in_err-inner-clause-grows
returns-in_err-inner-clause-grows c = Grows-trans c.in_ok-ty.ensures.grows c.needed_proof.ensures.grows

pub returns-in_err-body-clause-grows : goal.returns-in_err-body-clause-grows
returns-in_err-body-clause-grows c = Grows-trans (Grows-trans c.in_ok-ty.ensures.grows c.in_ok-inner.ensures.grows) (Grows-table _ _ c.abstracted.ensures.keeps)

pub returns-clause-grows : goal.returns-clause-grows
returns-clause-grows c = Grows-trans (Grows-trans c.in_ok-ty.ensures.grows c.in_ok-inner.ensures.grows) (Grows-table _ _ c.in_ok-body.ensures.keeps)
