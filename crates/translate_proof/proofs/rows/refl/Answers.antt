use Rattle.std.proofs.Common.{◌∙◌, sym, ap, subst, Some}
use Rattle.std.proofs.lemmas.Result.{IfOk-weaker}
use Rattle.lp_spec.specs.Modules.{applied, refl_symbol}
use Rattle.lp_spec.specs.Trees.{Sym}
use Rattle.lp_term.specs.Tables.{trees_at, AreKnown}
use Rattle.translate_spec.specs.ProofTrees.{refl_tree}
use Rattle.translate_term.specs.GrowLaws.{Grows-trans, Grows-table}
use Rattle.translate_proof.specs.EnvironmentLaws.{Represents-Grows}
use Rattle.translate_proof.proofs.SequentLaws.{equated-type, equated-right, type-told, right-told}
use Rattle.translate_proof.proofs.TheoremLaws.{Ready-start}
use Rattle.translate_proof.proofs.rows.refl.Goals as goal

pub add_type-requires-clause-told : goal.add_type-requires-clause-told
add_type-requires-clause-told c =
    let k = c.args.ground.proof.now in
    let q = c.requires.told in
    (q.0, q.1, type-told k c.args.id c.sides-own.result c.sides-own.ensures q.0 q.2)

pub add_term-requires-clause-told : goal.add_term-requires-clause-told
add_term-requires-clause-told c =
    let k = c.args.ground.proof.now in
    let q = c.requires.told in (
      q.0,
      Represents-Grows c.add_type.ensures.grows q.0 k.trees c.args.ground.env.now q.1,
      right-told k c.args.id c.sides-own.result c.sides-own.ensures q.0 q.2,
    )

pub returns-in_err-add_term-clause-grows : goal.returns-in_err-add_term-clause-grows
returns-in_err-add_term-clause-grows c = Grows-trans c.add_type.ensures.grows c.add_term.ensures.grows

pub call-requires : goal.call-requires
call-requires c =
    let k = c.args.ground.proof.now in
    let q = c.requires.told in
    let none = Ready-start q.0 c.args.target.now k.trees c.args.ground.env.now _ c.new-args.ensures.items q.1 in
    let first = c.in_ok-add_type.ensures.ready q.0 _ none (type-told k c.args.id c.sides-own.result c.sides-own.ensures q.0 q.2) in
    let second = c.in_ok-add_term.ensures.ready q.0 _ first (right-told k c.args.id c.sides-own.result c.sides-own.ensures q.0 q.2) in
    subst (AreKnown _) (sym c.deref.ensures.value) second.known

pub returns-clause-made : goal.returns-clause-made
returns-clause-made c =
    let k = c.args.ground.proof.now in
    IfOk-weaker c.call.result _ _
    (λ r h given stands told_own.
    let none = Ready-start given c.args.target.now k.trees c.args.ground.env.now _ c.new-args.ensures.items stands in
    let first = c.in_ok-add_type.ensures.ready given _ none (type-told k c.args.id c.sides-own.result c.sides-own.ensures given told_own) in
    let second = c.in_ok-add_term.ensures.ready given _ first (right-told k c.args.id c.sides-own.result c.sides-own.ensures given told_own) in
    h ∙ ap (λ l. Some (applied (Sym refl_symbol) l)) (ap (trees_at _) c.deref.ensures.value ∙ second.are)
    ∙ (λ i. Some (refl_tree given.symbols given.scope (equated-type k c.args.id c.sides-own.result c.sides-own.ensures i)
    (equated-right k c.args.id c.sides-own.result c.sides-own.ensures i))))
    c.call.ensures.made

pub returns-clause-grows : goal.returns-clause-grows
returns-clause-grows c = Grows-trans c.add_type.ensures.grows (Grows-trans c.add_term.ensures.grows (Grows-table _ _ c.call.ensures.keeps))
