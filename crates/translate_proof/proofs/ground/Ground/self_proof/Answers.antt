use Rattle.std.proofs.Common.{◌∙◌, sym, ap, subst, Some}
use Rattle.std.proofs.lemmas.Result.{IfOk-weaker}
use Rattle.lp_spec.specs.Modules.{applied, refl_symbol}
use Rattle.lp_spec.specs.Trees.{Sym}
use Rattle.lp_term.specs.Tables.{trees_at, AreKnown}
use Rattle.translate_proof.proofs.ConstantLaws.{formula_type-told, formula_right-told, self_proof-is}
use Rattle.translate_term.specs.GrowLaws.{Grows-trans, Grows-table}
use Rattle.translate_proof.proofs.TheoremLaws.{Ready-start}
use Rattle.translate_proof.proofs.ground.Ground.self_proof.Goals as goal

pub add_type-requires-clause-id : goal.add_type-requires-clause-id
add_type-requires-clause-id c = (rw c.terms.ensures at c.equated-own.ensures).ty

pub add_type-requires-clause-told : goal.add_type-requires-clause-told
add_type-requires-clause-told c =
    let is = rw c.terms.ensures at c.equated-own.ensures in
    (c.requires.told.0, c.requires.told.1, formula_type-told c.args.self.proof.now.trees _ c.equated-own.result is c.requires.told.0 c.requires.told.2)

pub add_term-requires-clause-id : goal.add_term-requires-clause-id
add_term-requires-clause-id c = (rw c.terms.ensures at c.equated-own.ensures).right

pub add_term-requires-clause-told : goal.add_term-requires-clause-told
add_term-requires-clause-told c =
    let trees = c.args.self.proof.now.trees in
    let is = rw c.terms.ensures at c.equated-own.ensures in
    let given = c.requires.told.0 in
    let first = c.in_ok-add_type.ensures.ready given _
    (Ready-start given c.args.target.now trees c.args.self.env.now _ c.new-args.ensures.items c.requires.told.1)
    (formula_type-told trees _ c.equated-own.result is given c.requires.told.2) in
    (given, first.stands, formula_right-told trees _ c.equated-own.result is given c.requires.told.2)

pub returns-in_err-add_term-clause-grows : goal.returns-in_err-add_term-clause-grows
returns-in_err-add_term-clause-grows c = Grows-trans c.add_type.ensures.grows c.add_term.ensures.grows

pub call-requires : goal.call-requires
call-requires c =
    let trees = c.args.self.proof.now.trees in
    let is = rw c.terms.ensures at c.equated-own.ensures in
    let given = c.requires.told.0 in
    let first = c.in_ok-add_type.ensures.ready given _
    (Ready-start given c.args.target.now trees c.args.self.env.now _ c.new-args.ensures.items c.requires.told.1)
    (formula_type-told trees _ c.equated-own.result is given c.requires.told.2) in
    subst (AreKnown _) (sym c.deref.ensures.value)
    (c.in_ok-add_term.ensures.ready given _ first (formula_right-told trees _ c.equated-own.result is given c.requires.told.2)).known

pub returns-clause-made : goal.returns-clause-made
returns-clause-made c =
    let trees = c.args.self.proof.now.trees in
    let is = rw c.terms.ensures at c.equated-own.ensures in
    IfOk-weaker c.call.result _ _
    (λ r h given stands told.
    let first = c.in_ok-add_type.ensures.ready given _ (Ready-start given c.args.target.now trees c.args.self.env.now _ c.new-args.ensures.items stands)
    (formula_type-told trees _ c.equated-own.result is given told) in
    h ∙ ap (λ l. Some (applied (Sym refl_symbol) l))
    (ap (trees_at _) c.deref.ensures.value
    ∙ (c.in_ok-add_term.ensures.ready given _ first (formula_right-told trees _ c.equated-own.result is given told)).are)
    ∙ ap Some (sym (self_proof-is trees _ c.equated-own.result is given)))
    c.call.ensures.made

pub returns-clause-grows : goal.returns-clause-grows
returns-clause-grows c = Grows-trans c.add_type.ensures.grows (Grows-trans c.add_term.ensures.grows (Grows-table _ _ c.call.ensures.keeps))
