use Rattle.std.proofs.Common.{◌∙◌, sym, ap, subst, Some}
use Rattle.std.proofs.lemmas.Result.{IfOk-weaker}
use Rattle.hol_spec.specs.Proofs.{sequent_at}
use Rattle.lp_spec.specs.Modules.{applied}
use Rattle.lp_spec.specs.Trees.{Sym}
use Rattle.lp_term.specs.Tables.{trees_at, AreKnown}
use Rattle.translate_term.specs.GrowLaws.{Grows-trans, Grows-table}
use Rattle.translate_proof.proofs.PartLaws.{held-predicate, held-witness, whole-told, predicate-told, witness-told, part-made}
use Rattle.translate_proof.proofs.TheoremLaws.{Ready-start}
use Rattle.translate_proof.proofs.parts.part_call.Goals as goal

pub add_theorem-requires-clause-kept : goal.add_theorem-requires-clause-kept
add_theorem-requires-clause-kept c = c.new-kept.ensures.kept c.args.proof.now

pub add_type-requires-clause-told : goal.add_type-requires-clause-told
add_type-requires-clause-told c =
    let k = c.args.proof.now in
    let held = c.applied-held in
    (c.requires.told.0, c.requires.told.1, whole-told k c.args.one.id held.result held.ensures c.requires.told.0 c.requires.told.2)

pub add_term-requires-clause-told : goal.add_term-requires-clause-told
add_term-requires-clause-told c =
    let k = c.args.proof.now in
    let held = c.applied-held in
    let given = c.requires.told.0 in
    let first = Ready-start given c.args.target.now k.trees c.args.env.now _ c.new-args.ensures.items c.requires.told.1 in
    let second = c.in_ok-add_type.ensures.ready given _ first (whole-told k c.args.one.id held.result held.ensures given c.requires.told.2) in
    (given, second.stands, predicate-told k c.args.one.id held.result held.ensures given c.requires.told.3)

pub add_term-requires-2-clause-told : goal.add_term-requires-2-clause-told
add_term-requires-2-clause-told c =
    let k = c.args.proof.now in
    let held = c.applied-held in
    let given = c.requires.told.0 in
    let first = Ready-start given c.args.target.now k.trees c.args.env.now _ c.new-args.ensures.items c.requires.told.1 in
    let second = c.in_ok-add_type.ensures.ready given _ first (whole-told k c.args.one.id held.result held.ensures given c.requires.told.2) in
    let third = c.in_ok-add_term.ensures.ready given _ second (predicate-told k c.args.one.id held.result held.ensures given c.requires.told.3) in
    (given, third.stands, witness-told k c.args.one.id held.result held.ensures given c.requires.told.3)

pub add_theorem-requires-clause-told : goal.add_theorem-requires-clause-told
add_theorem-requires-clause-told c =
    let k = c.args.proof.now in
    let held = c.applied-held in
    let given = c.requires.told.0 in
    let first = Ready-start given c.args.target.now k.trees c.args.env.now _ c.new-args.ensures.items c.requires.told.1 in
    let second = c.in_ok-add_type.ensures.ready given _ first (whole-told k c.args.one.id held.result held.ensures given c.requires.told.2) in
    let third = c.in_ok-add_term.ensures.ready given _ second (predicate-told k c.args.one.id held.result held.ensures given c.requires.told.3) in
    let fourth = c.in_ok-add_term-2.ensures.ready given _ third (witness-told k c.args.one.id held.result held.ensures given c.requires.told.3) in
    (given, fourth.stands, c.requires.told.3)

pub call-requires : goal.call-requires
call-requires c =
    let k = c.args.proof.now in
    let held = c.applied-held in
    let given = c.requires.told.0 in
    let first = Ready-start given c.args.target.now k.trees c.args.env.now _ c.new-args.ensures.items c.requires.told.1 in
    let second = c.in_ok-add_type.ensures.ready given _ first (whole-told k c.args.one.id held.result held.ensures given c.requires.told.2) in
    let third = c.in_ok-add_term.ensures.ready given _ second (predicate-told k c.args.one.id held.result held.ensures given c.requires.told.3) in
    let fourth = c.in_ok-add_term-2.ensures.ready given _ third (witness-told k c.args.one.id held.result held.ensures given c.requires.told.3) in
    subst (AreKnown _) (sym c.deref.ensures.value) (c.in_ok-add_theorem.ensures.ready given _ fourth c.requires.told.3).known

pub returns-clause-made : goal.returns-clause-made
returns-clause-made c =
    let k = c.args.proof.now in
    let held = c.applied-held in
    IfOk-weaker c.call.result _ _
    (λ r h given stands whole told.
    let first = Ready-start given c.args.target.now k.trees c.args.env.now _ c.new-args.ensures.items stands in
    let second = c.in_ok-add_type.ensures.ready given _ first (whole-told k c.args.one.id held.result held.ensures given whole) in
    let third = c.in_ok-add_term.ensures.ready given _ second (predicate-told k c.args.one.id held.result held.ensures given told) in
    let fourth = c.in_ok-add_term-2.ensures.ready given _ third (witness-told k c.args.one.id held.result held.ensures given told) in
    let last = c.in_ok-add_theorem.ensures.ready given _ fourth told in
    h ∙ ap (λ l. Some (applied (Sym c.args.symbol) l)) (ap (trees_at _) c.deref.ensures.value ∙ last.are)
    ∙ ap Some (part-made given.symbols given.scope c.args.symbol _ _ _ _ (c.args.one.symbol, sequent_at k.made c.args.one.id) held.ensures.whole
    (held-predicate k c.args.one.id held.result held.ensures) (held-witness k c.args.one.id held.result held.ensures)))
    c.call.ensures.made

pub returns-in_err-add_term-clause-grows : goal.returns-in_err-add_term-clause-grows
returns-in_err-add_term-clause-grows c = Grows-trans c.add_type.ensures.grows c.add_term.ensures.grows

pub returns-in_err-add_term-2-clause-grows : goal.returns-in_err-add_term-2-clause-grows
returns-in_err-add_term-2-clause-grows c = Grows-trans c.add_type.ensures.grows (Grows-trans c.add_term.ensures.grows c.add_term-2.ensures.grows)

pub returns-in_err-add_theorem-clause-grows : goal.returns-in_err-add_theorem-clause-grows
returns-in_err-add_theorem-clause-grows c = Grows-trans c.add_type.ensures.grows
    (Grows-trans c.add_term.ensures.grows (Grows-trans c.add_term-2.ensures.grows c.add_theorem.ensures.grows))

pub returns-clause-grows : goal.returns-clause-grows
returns-clause-grows c = Grows-trans c.add_type.ensures.grows
    (Grows-trans c.add_term.ensures.grows
    (Grows-trans c.add_term-2.ensures.grows (Grows-trans c.add_theorem.ensures.grows (Grows-table _ _ c.call.ensures.keeps))))
