use Rattle.std.proofs.Common.{◌∙◌, sym, ap, subst, Some}
use Rattle.std.proofs.lemmas.Result.{IfOk-weaker}
use Rattle.lp_spec.specs.Modules.{applied}
use Rattle.lp_spec.specs.Trees.{Sym}
use Rattle.lp_term.specs.Tables.{trees_at, AreKnown}
use Rattle.translate_spec.specs.ProofTrees.{sym_symbol}
use Rattle.translate_term.specs.GrowLaws.{Grows-refl, Grows-trans, Grows-table}
use Rattle.translate_proof.specs.EnvironmentLaws.{Represents-Grows}
use Rattle.translate_proof.proofs.FreeLaws.{free-left, variable-told, second_free-made}
use Rattle.translate_proof.proofs.LawEquations.{second-defining, second-equation, second_free-told}
use Rattle.translate_proof.proofs.SequentLaws.{type-told, left-told, right-told}
use Rattle.translate_proof.proofs.StandTrees.{Ready-more}
use Rattle.translate_proof.proofs.TheoremLaws.{Ready-start}
use Rattle.translate_proof.proofs.parts.second_law_free.Goals as goal

pub sides-own-requires-clause-equation : goal.sides-own-requires-clause-equation
sides-own-requires-clause-equation c = record
    { ty = _; left = _; right = _; is = second-equation c.args.ground.proof.now c.args.id c.args.one.id c.requires.law.0 c.requires.law.1 }

pub argument-variable-requires-clause-id : goal.argument-variable-requires-clause-id
argument-variable-requires-clause-id c = c.sides-own.ensures.left

pub argument-variable-requires-clause-application : goal.argument-variable-requires-clause-application
argument-variable-requires-clause-application c =
    (_, _, free-left c.args.ground.proof.now c.args.id c.args.one.id c.requires.law.0 c.requires.law.1 c.sides-own.result c.sides-own.ensures)

pub part_at-requires-clause-id : goal.part_at-requires-clause-id
part_at-requires-clause-id c = c.argument-variable.ensures.known

pub part_at-requires-clause-defines : goal.part_at-requires-clause-defines
part_at-requires-clause-defines c = second-defining c.args.ground.proof.now c.args.id c.args.one.id c.requires.law.0 c.requires.law.1

pub part_at-requires-clause-told : goal.part_at-requires-clause-told
part_at-requires-clause-told c =
    let k = c.args.ground.proof.now in
    let own = c.sides-own in
    let q = c.requires.told in
    let variable = variable-told k c.args.id c.args.one.id c.requires.law.0 c.requires.law.1 own.result own.ensures c.argument-variable.result
    c.argument-variable.ensures.is q.0 q.3 in
    (q.0, q.1, q.2, second_free-told k c.args.id c.args.one.id c.requires.law.0 q.0 q.3 c.requires.law.1, q.4, variable)

pub add_type-requires-clause-told : goal.add_type-requires-clause-told
add_type-requires-clause-told c =
    let k = c.args.ground.proof.now in
    let own = c.sides-own in
    let q = c.requires.told in
    let stands = Represents-Grows c.part_at.ensures.grows q.0 k.trees c.args.ground.env.now q.1 in
    let start = Ready-start q.0 c.part_at.new.target k.trees c.args.ground.env.now _ c.new-args.ensures.items stands in
    (q.0, start.stands, type-told k c.args.id own.result own.ensures q.0 q.3)

pub add_term-requires-clause-told : goal.add_term-requires-clause-told
add_term-requires-clause-told c =
    let k = c.args.ground.proof.now in
    let own = c.sides-own in
    let q = c.requires.told in
    let stands = Represents-Grows c.part_at.ensures.grows q.0 k.trees c.args.ground.env.now q.1 in
    let start = Ready-start q.0 c.part_at.new.target k.trees c.args.ground.env.now _ c.new-args.ensures.items stands in
    let first = c.in_ok-add_type.ensures.ready q.0 _ start (type-told k c.args.id own.result own.ensures q.0 q.3) in
    (q.0, first.stands, right-told k c.args.id own.result own.ensures q.0 q.3)

pub add_term-requires-2-clause-told : goal.add_term-requires-2-clause-told
add_term-requires-2-clause-told c =
    let k = c.args.ground.proof.now in
    let own = c.sides-own in
    let q = c.requires.told in
    let stands = Represents-Grows c.part_at.ensures.grows q.0 k.trees c.args.ground.env.now q.1 in
    let start = Ready-start q.0 c.part_at.new.target k.trees c.args.ground.env.now _ c.new-args.ensures.items stands in
    let first = c.in_ok-add_type.ensures.ready q.0 _ start (type-told k c.args.id own.result own.ensures q.0 q.3) in
    let second = c.in_ok-add_term.ensures.ready q.0 _ first (right-told k c.args.id own.result own.ensures q.0 q.3) in
    (q.0, second.stands, left-told k c.args.id own.result own.ensures q.0 q.3)

pub call-requires : goal.call-requires
call-requires c =
    let k = c.args.ground.proof.now in
    let own = c.sides-own in
    let q = c.requires.told in
    let stands = Represents-Grows c.part_at.ensures.grows q.0 k.trees c.args.ground.env.now q.1 in
    let start = Ready-start q.0 c.part_at.new.target k.trees c.args.ground.env.now _ c.new-args.ensures.items stands in
    let first = c.in_ok-add_type.ensures.ready q.0 _ start (type-told k c.args.id own.result own.ensures q.0 q.3) in
    let second = c.in_ok-add_term.ensures.ready q.0 _ first (right-told k c.args.id own.result own.ensures q.0 q.3) in
    let third = c.in_ok-add_term-2.ensures.ready q.0 _ second (left-told k c.args.id own.result own.ensures q.0 q.3) in
    let later = Grows-trans c.add_type.ensures.grows (Grows-trans c.add_term.ensures.grows c.add_term-2.ensures.grows) in
    let variable = variable-told k c.args.id c.args.one.id c.requires.law.0 c.requires.law.1 own.result own.ensures c.argument-variable.result
    c.argument-variable.ensures.is q.0 q.3 in
    let part = c.in_ok-part.ensures.made q.0 q.1 q.2 (second_free-told k c.args.id c.args.one.id c.requires.law.0 q.0 q.3 c.requires.law.1) q.4 variable in
    let last = Ready-more (Grows-refl c.add_term-2.new.target) q.0 k.trees c.args.ground.env.now _ _ _ c.in_ok-part.part _
    (later.table.stays.each c.in_ok-part.part.0 _ part) c.in_ok-push.ensures.items third in
    subst (AreKnown _) (sym c.deref.ensures.value) last.known

pub returns-clause-made : goal.returns-clause-made
returns-clause-made c =
    let k = c.args.ground.proof.now in
    let own = c.sides-own in
    IfOk-weaker c.call.result _ _
    (λ r h given names is stands outer told one.
    let here = Represents-Grows c.part_at.ensures.grows given k.trees c.args.ground.env.now stands in
    let start = Ready-start given c.part_at.new.target k.trees c.args.ground.env.now _ c.new-args.ensures.items here in
    let first = c.in_ok-add_type.ensures.ready given _ start (type-told k c.args.id own.result own.ensures given told) in
    let second = c.in_ok-add_term.ensures.ready given _ first (right-told k c.args.id own.result own.ensures given told) in
    let third = c.in_ok-add_term-2.ensures.ready given _ second (left-told k c.args.id own.result own.ensures given told) in
    let later = Grows-trans c.add_type.ensures.grows (Grows-trans c.add_term.ensures.grows c.add_term-2.ensures.grows) in
    let variable = variable-told k c.args.id c.args.one.id names is own.result own.ensures c.argument-variable.result c.argument-variable.ensures.is given told
    in
    let part = c.in_ok-part.ensures.made given stands outer (second_free-told k c.args.id c.args.one.id names given told is) one variable in
    let last = Ready-more (Grows-refl c.add_term-2.new.target) given k.trees c.args.ground.env.now _ _ _ c.in_ok-part.part _
    (later.table.stays.each c.in_ok-part.part.0 _ part) c.in_ok-push.ensures.items third in
    h ∙ ap (λ l. Some (applied (Sym sym_symbol) l)) (ap (trees_at _) c.deref.ensures.value ∙ last.are)
    ∙ ap Some (second_free-made k c.args.id c.args.one.id names is own.result own.ensures c.argument-variable.result c.argument-variable.ensures.is
    given.symbols given.scope c.args.one.symbol))
    c.call.ensures.made

pub returns-in_err-add_type-clause-grows : goal.returns-in_err-add_type-clause-grows
returns-in_err-add_type-clause-grows c = Grows-trans c.part_at.ensures.grows c.add_type.ensures.grows

pub returns-in_err-add_term-clause-grows : goal.returns-in_err-add_term-clause-grows
returns-in_err-add_term-clause-grows c = Grows-trans c.part_at.ensures.grows (Grows-trans c.add_type.ensures.grows c.add_term.ensures.grows)

pub returns-in_err-add_term-2-clause-grows : goal.returns-in_err-add_term-2-clause-grows
returns-in_err-add_term-2-clause-grows c = Grows-trans c.part_at.ensures.grows
    (Grows-trans c.add_type.ensures.grows (Grows-trans c.add_term.ensures.grows c.add_term-2.ensures.grows))

pub returns-in_err-push-clause-grows : goal.returns-in_err-push-clause-grows
returns-in_err-push-clause-grows c = Grows-trans c.part_at.ensures.grows
    (Grows-trans c.add_type.ensures.grows (Grows-trans c.add_term.ensures.grows c.add_term-2.ensures.grows))

pub returns-clause-grows : goal.returns-clause-grows
returns-clause-grows c =
    Grows-trans c.part_at.ensures.grows
    (Grows-trans c.add_type.ensures.grows
    (Grows-trans c.add_term.ensures.grows (Grows-trans c.add_term-2.ensures.grows (Grows-table _ _ c.call.ensures.keeps))))
