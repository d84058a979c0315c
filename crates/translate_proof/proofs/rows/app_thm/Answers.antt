use Rattle.std.proofs.Common.{◌∙◌, sym, ap, subst, Some}
use Rattle.std.proofs.lemmas.Result.{IfOk-weaker}
use Rattle.hol_spec.specs.Proofs.{sequent_at}
use Rattle.lp_spec.specs.Modules.{applied, app_thm_symbol}
use Rattle.lp_spec.specs.Trees.{Sym}
use Rattle.lp_term.specs.Tables.{trees_at, AreKnown}
use Rattle.translate_spec.specs.ProofTrees.{app_thm_tree}
use Rattle.translate_term.specs.GrowLaws.{Grows-trans, Grows-table}
use Rattle.translate_proof.specs.EnvironmentLaws.{Represents-Grows}
use Rattle.translate_proof.proofs.SequentLaws.{equated-type, equated-left, equated-right, type-told, left-told, right-told}
use Rattle.translate_proof.proofs.TheoremLaws.{Ready-start}
use Rattle.translate_proof.proofs.rows.app_thm.Goals as goal

pub add_type-requires-clause-told : goal.add_type-requires-clause-told
add_type-requires-clause-told c =
    let k = c.args.ground.proof.now in
    let q = c.requires.told in
    (q.0, q.1, type-told k c.args.two.id c.sides-second.result c.sides-second.ensures q.0 q.4)

pub add_type-requires-2-clause-told : goal.add_type-requires-2-clause-told
add_type-requires-2-clause-told c =
    let k = c.args.ground.proof.now in
    let q = c.requires.told in
    (q.0, Represents-Grows c.add_type.ensures.grows q.0 k.trees c.args.ground.env.now q.1, type-told k c.args.id c.sides-own.result c.sides-own.ensures q.0 q.2)

pub returns-in_err-add_type-2-clause-grows : goal.returns-in_err-add_type-2-clause-grows
returns-in_err-add_type-2-clause-grows c = Grows-trans c.add_type.ensures.grows c.add_type-2.ensures.grows

pub add_term-requires-clause-told : goal.add_term-requires-clause-told
add_term-requires-clause-told c =
    let k = c.args.ground.proof.now in
    let q = c.requires.told in (
      q.0,
      Represents-Grows (Grows-trans c.add_type.ensures.grows c.add_type-2.ensures.grows) q.0 k.trees c.args.ground.env.now q.1,
      left-told k c.args.one.id c.sides-first.result c.sides-first.ensures q.0 q.3,
    )

pub returns-in_err-add_term-clause-grows : goal.returns-in_err-add_term-clause-grows
returns-in_err-add_term-clause-grows c = Grows-trans c.add_type.ensures.grows (Grows-trans c.add_type-2.ensures.grows c.add_term.ensures.grows)

pub add_term-requires-2-clause-told : goal.add_term-requires-2-clause-told
add_term-requires-2-clause-told c =
    let k = c.args.ground.proof.now in
    let q = c.requires.told in (
      q.0,
      Represents-Grows (Grows-trans c.add_type.ensures.grows (Grows-trans c.add_type-2.ensures.grows c.add_term.ensures.grows)) q.0 k.trees
          c.args.ground.env.now q.1,
      right-told k c.args.one.id c.sides-first.result c.sides-first.ensures q.0 q.3,
    )

pub returns-in_err-add_term-2-clause-grows : goal.returns-in_err-add_term-2-clause-grows
returns-in_err-add_term-2-clause-grows c = Grows-trans c.add_type.ensures.grows
    (Grows-trans c.add_type-2.ensures.grows (Grows-trans c.add_term.ensures.grows c.add_term-2.ensures.grows))

pub add_term-requires-3-clause-told : goal.add_term-requires-3-clause-told
add_term-requires-3-clause-told c =
    let k = c.args.ground.proof.now in
    let q = c.requires.told in (
      q.0,
      Represents-Grows
          (Grows-trans c.add_type.ensures.grows (Grows-trans c.add_type-2.ensures.grows (Grows-trans c.add_term.ensures.grows c.add_term-2.ensures.grows))) q.0
          k.trees c.args.ground.env.now q.1,
      left-told k c.args.two.id c.sides-second.result c.sides-second.ensures q.0 q.4,
    )

pub returns-in_err-add_term-3-clause-grows : goal.returns-in_err-add_term-3-clause-grows
returns-in_err-add_term-3-clause-grows c = Grows-trans c.add_type.ensures.grows
    (Grows-trans c.add_type-2.ensures.grows (Grows-trans c.add_term.ensures.grows (Grows-trans c.add_term-2.ensures.grows c.add_term-3.ensures.grows)))

pub add_term-requires-4-clause-told : goal.add_term-requires-4-clause-told
add_term-requires-4-clause-told c =
    let k = c.args.ground.proof.now in
    let q = c.requires.told in (
      q.0,
      Represents-Grows
          (Grows-trans c.add_type.ensures.grows
          (Grows-trans c.add_type-2.ensures.grows (Grows-trans c.add_term.ensures.grows (Grows-trans c.add_term-2.ensures.grows c.add_term-3.ensures.grows))))
          q.0 k.trees c.args.ground.env.now q.1,
      right-told k c.args.two.id c.sides-second.result c.sides-second.ensures q.0 q.4,
    )

pub returns-in_err-add_term-4-clause-grows : goal.returns-in_err-add_term-4-clause-grows
returns-in_err-add_term-4-clause-grows c = Grows-trans c.add_type.ensures.grows
    (Grows-trans c.add_type-2.ensures.grows
    (Grows-trans c.add_term.ensures.grows (Grows-trans c.add_term-2.ensures.grows (Grows-trans c.add_term-3.ensures.grows c.add_term-4.ensures.grows))))

pub add_theorem-requires-clause-told : goal.add_theorem-requires-clause-told
add_theorem-requires-clause-told c =
    let k = c.args.ground.proof.now in
    let q = c.requires.told in (
      q.0,
      Represents-Grows
          (Grows-trans c.add_type.ensures.grows
          (Grows-trans c.add_type-2.ensures.grows
          (Grows-trans c.add_term.ensures.grows
          (Grows-trans c.add_term-2.ensures.grows (Grows-trans c.add_term-3.ensures.grows c.add_term-4.ensures.grows))))) q.0 k.trees c.args.ground.env.now
          q.1,
      q.3,
    )

pub returns-in_err-add_theorem-clause-grows : goal.returns-in_err-add_theorem-clause-grows
returns-in_err-add_theorem-clause-grows c = Grows-trans c.add_type.ensures.grows
    (Grows-trans c.add_type-2.ensures.grows
    (Grows-trans c.add_term.ensures.grows
    (Grows-trans c.add_term-2.ensures.grows (Grows-trans c.add_term-3.ensures.grows (Grows-trans c.add_term-4.ensures.grows c.add_theorem.ensures.grows)))))

pub add_theorem-requires-2-clause-told : goal.add_theorem-requires-2-clause-told
add_theorem-requires-2-clause-told c =
    let k = c.args.ground.proof.now in
    let q = c.requires.told in (
      q.0,
      Represents-Grows
          (Grows-trans c.add_type.ensures.grows
          (Grows-trans c.add_type-2.ensures.grows
          (Grows-trans c.add_term.ensures.grows
          (Grows-trans c.add_term-2.ensures.grows
          (Grows-trans c.add_term-3.ensures.grows (Grows-trans c.add_term-4.ensures.grows c.add_theorem.ensures.grows)))))) q.0 k.trees
          c.args.ground.env.now q.1,
      q.4,
    )

pub returns-in_err-add_theorem-2-clause-grows : goal.returns-in_err-add_theorem-2-clause-grows
returns-in_err-add_theorem-2-clause-grows c = Grows-trans c.add_type.ensures.grows
    (Grows-trans c.add_type-2.ensures.grows
    (Grows-trans c.add_term.ensures.grows
    (Grows-trans c.add_term-2.ensures.grows
    (Grows-trans c.add_term-3.ensures.grows
    (Grows-trans c.add_term-4.ensures.grows (Grows-trans c.add_theorem.ensures.grows c.add_theorem-2.ensures.grows))))))

pub call-requires : goal.call-requires
call-requires c =
    let k = c.args.ground.proof.now in
    let q = c.requires.told in
    let none = Ready-start q.0 c.args.target.now k.trees c.args.ground.env.now _ c.new-args.ensures.items q.1 in
    let first = c.in_ok-add_type.ensures.ready q.0 _ none (type-told k c.args.two.id c.sides-second.result c.sides-second.ensures q.0 q.4) in
    let second = c.in_ok-add_type-2.ensures.ready q.0 _ first (type-told k c.args.id c.sides-own.result c.sides-own.ensures q.0 q.2) in
    let third = c.in_ok-add_term.ensures.ready q.0 _ second (left-told k c.args.one.id c.sides-first.result c.sides-first.ensures q.0 q.3) in
    let fourth = c.in_ok-add_term-2.ensures.ready q.0 _ third (right-told k c.args.one.id c.sides-first.result c.sides-first.ensures q.0 q.3) in
    let fifth = c.in_ok-add_term-3.ensures.ready q.0 _ fourth (left-told k c.args.two.id c.sides-second.result c.sides-second.ensures q.0 q.4) in
    let sixth = c.in_ok-add_term-4.ensures.ready q.0 _ fifth (right-told k c.args.two.id c.sides-second.result c.sides-second.ensures q.0 q.4) in
    let seventh = c.in_ok-add_theorem.ensures.ready q.0 _ sixth q.3 in
    let eighth = c.in_ok-add_theorem-2.ensures.ready q.0 _ seventh q.4 in
    subst (AreKnown _) (sym c.deref.ensures.value) eighth.known

pub returns-clause-made : goal.returns-clause-made
returns-clause-made c =
    let k = c.args.ground.proof.now in
    IfOk-weaker c.call.result _ _
    (λ r h given stands told_own told_one told_two.
    let none = Ready-start given c.args.target.now k.trees c.args.ground.env.now _ c.new-args.ensures.items stands in
    let first = c.in_ok-add_type.ensures.ready given _ none (type-told k c.args.two.id c.sides-second.result c.sides-second.ensures given told_two) in
    let second = c.in_ok-add_type-2.ensures.ready given _ first (type-told k c.args.id c.sides-own.result c.sides-own.ensures given told_own) in
    let third = c.in_ok-add_term.ensures.ready given _ second (left-told k c.args.one.id c.sides-first.result c.sides-first.ensures given told_one) in
    let fourth = c.in_ok-add_term-2.ensures.ready given _ third (right-told k c.args.one.id c.sides-first.result c.sides-first.ensures given told_one) in
    let fifth = c.in_ok-add_term-3.ensures.ready given _ fourth (left-told k c.args.two.id c.sides-second.result c.sides-second.ensures given told_two) in
    let sixth = c.in_ok-add_term-4.ensures.ready given _ fifth (right-told k c.args.two.id c.sides-second.result c.sides-second.ensures given told_two) in
    let seventh = c.in_ok-add_theorem.ensures.ready given _ sixth told_one in
    let eighth = c.in_ok-add_theorem-2.ensures.ready given _ seventh told_two in
    h ∙ ap (λ l. Some (applied (Sym app_thm_symbol) l)) (ap (trees_at _) c.deref.ensures.value ∙ eighth.are)
    ∙ (λ i. Some (app_thm_tree given.symbols given.scope (equated-type k c.args.two.id c.sides-second.result c.sides-second.ensures i)
    (equated-type k c.args.id c.sides-own.result c.sides-own.ensures i) (equated-left k c.args.one.id c.sides-first.result c.sides-first.ensures i)
    (equated-right k c.args.one.id c.sides-first.result c.sides-first.ensures i)
    (equated-left k c.args.two.id c.sides-second.result c.sides-second.ensures i)
    (equated-right k c.args.two.id c.sides-second.result c.sides-second.ensures i) (c.args.one.symbol, sequent_at k.made c.args.one.id)
    (c.args.two.symbol, sequent_at k.made c.args.two.id))))
    c.call.ensures.made

pub returns-clause-grows : goal.returns-clause-grows
returns-clause-grows c = Grows-trans c.add_type.ensures.grows
    (Grows-trans c.add_type-2.ensures.grows
    (Grows-trans c.add_term.ensures.grows
    (Grows-trans c.add_term-2.ensures.grows
    (Grows-trans c.add_term-3.ensures.grows
    (Grows-trans c.add_term-4.ensures.grows
    (Grows-trans c.add_theorem.ensures.grows (Grows-trans c.add_theorem-2.ensures.grows (Grows-table _ _ c.call.ensures.keeps))))))))
