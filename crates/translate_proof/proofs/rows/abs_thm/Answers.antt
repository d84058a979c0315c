use Rattle.std.proofs.Common.{◌∙◌, sym, ap, subst, Some, arith}
use Rattle.std.proofs.lemmas.Result.{IfOk-weaker}
use Rattle.hol_spec.specs.Proofs.{sequent_at}
use Rattle.hol_rules.specs.Views.{variable_view}
use Rattle.lp_spec.specs.Modules.{applied, fun_ext_symbol}
use Rattle.lp_spec.specs.Trees.{Sym}
use Rattle.lp_term.specs.Tables.{trees_at, AreKnown}
use Rattle.lp_term.specs.TableLaws.{Holds-tree_at, Holds-within}
use Rattle.translate_proof.specs.RuleRows.{under_variable}
use Rattle.translate_proof.proofs.BinderRows.{fun_ext-made}
use Rattle.translate_term.specs.GrowLaws.{Grows-refl, Grows-trans, Grows-table}
use Rattle.translate_proof.proofs.SequentLaws.{equated-type, equated-left, equated-right, type-told, left-told, right-told}
use Rattle.translate_proof.proofs.StandLaws.{Ready-other}
use Rattle.translate_proof.proofs.StandTrees.{Ready-more}
use Rattle.translate_proof.proofs.TheoremLaws.{Ready-start}
use Rattle.translate_proof.specs.EnvironmentLaws.{Represents-Grows}
use Rattle.translate_proof.proofs.rows.abs_thm.Goals as goal

pub ty-requires-clause-told : goal.ty-requires-clause-told
ty-requires-clause-told c = let q = c.requires.told in (q.0, q.1, q.3)

pub add_type-requires-clause-told : goal.add_type-requires-clause-told
add_type-requires-clause-told c =
    let k = c.args.ground.proof.now in
    let q = c.requires.told in (
      q.0,
      Represents-Grows c.ty.ensures.grows q.0 k.trees c.args.ground.env.now q.1,
      type-told k c.args.one.id c.sides-first.result c.sides-first.ensures q.0 q.4,
    )

pub add_function-requires-clause-domain : goal.add_function-requires-clause-domain
add_function-requires-clause-domain c =
    let q = c.requires.told in
    let first = Holds-within _ c.in_ok-domain.domain.0 _ (c.in_ok-domain.ensures.made q.0 q.1 q.3) in
    omega (arith, first, c.add_type.ensures.grows.table.longer)

pub add_function-requires-clause-told : goal.add_function-requires-clause-told
add_function-requires-clause-told c =
    let k = c.args.ground.proof.now in
    let v = c.args.variable.now in
    let q = c.requires.told in
    let under = under_variable k v q.0 in (
      under,
      Represents-Grows (Grows-trans c.ty.ensures.grows c.add_type.ensures.grows) under k.trees c.args.inner.now q.2,
      left-told k c.args.one.id c.sides-first.result c.sides-first.ensures under q.4,
    )

pub add_function-requires-2-clause-domain : goal.add_function-requires-2-clause-domain
add_function-requires-2-clause-domain c =
    let q = c.requires.told in
    let first = Holds-within _ c.in_ok-domain.domain.0 _ (c.in_ok-domain.ensures.made q.0 q.1 q.3) in
    omega (arith, first, c.add_type.ensures.grows.table.longer, c.add_function.ensures.grows.table.longer)

pub add_function-requires-2-clause-told : goal.add_function-requires-2-clause-told
add_function-requires-2-clause-told c =
    let k = c.args.ground.proof.now in
    let v = c.args.variable.now in
    let q = c.requires.told in
    let under = under_variable k v q.0 in (
      under,
      Represents-Grows (Grows-trans c.ty.ensures.grows (Grows-trans c.add_type.ensures.grows c.add_function.ensures.grows)) under k.trees c.args.inner.now
          q.2,
      right-told k c.args.one.id c.sides-first.result c.sides-first.ensures under q.4,
    )

pub add_abstracted-requires-clause-index : goal.add_abstracted-requires-clause-index
add_abstracted-requires-clause-index c =
    let q = c.requires.told in
    let first = Holds-within _ c.in_ok-domain.domain.0 _ (c.in_ok-domain.ensures.made q.0 q.1 q.3) in
    omega (arith, first, c.add_type.ensures.grows.table.longer, c.add_function.ensures.grows.table.longer, c.add_function-2.ensures.grows.table.longer)

pub add_abstracted-requires-clause-told : goal.add_abstracted-requires-clause-told
add_abstracted-requires-clause-told c =
    let k = c.args.ground.proof.now in
    let v = c.args.variable.now in
    let q = c.requires.told in
    let under = under_variable k v q.0 in (
      under,
      Represents-Grows
          (Grows-trans c.ty.ensures.grows (Grows-trans c.add_type.ensures.grows (Grows-trans c.add_function.ensures.grows c.add_function-2.ensures.grows))) under
          k.trees c.args.inner.now q.2,
      q.4,
    )

pub call-requires : goal.call-requires
call-requires c =
    let k = c.args.ground.proof.now in
    let v = c.args.variable.now in
    let q = c.requires.told in
    let under = under_variable k v q.0 in
    let none = Ready-start q.0 c.args.target.now k.trees c.args.ground.env.now _ c.new-args.ensures.items q.1 in
    let domain = c.in_ok-domain.ensures.made q.0 q.1 q.3 in
    let first = Ready-more c.ty.ensures.grows q.0 k.trees c.args.ground.env.now _ _ _ c.in_ok-domain.domain _ domain c.in_ok-push.ensures.items none in
    let second = c.in_ok-add_type.ensures.ready q.0 _ first (type-told k c.args.one.id c.sides-first.result c.sides-first.ensures q.0 q.4) in
    let inner = Represents-Grows (Grows-trans c.ty.ensures.grows c.add_type.ensures.grows) under k.trees c.args.inner.now q.2 in
    let here = Ready-other (Grows-refl c.add_type.new.target) q.0 under k.trees c.args.ground.env.now c.args.inner.now _ _ second inner in
    let third = c.in_ok-add_function.ensures.ready under _ here (left-told k c.args.one.id c.sides-first.result c.sides-first.ensures under q.4) in
    let fourth = c.in_ok-add_function-2.ensures.ready under _ third (right-told k c.args.one.id c.sides-first.result c.sides-first.ensures under q.4) in
    let fifth = c.in_ok-add_abstracted.ensures.ready under _ fourth q.4 in
    subst (AreKnown _) (sym c.deref.ensures.value) fifth.known

pub returns-in_err-add_type-clause-grows : goal.returns-in_err-add_type-clause-grows
returns-in_err-add_type-clause-grows c = Grows-trans c.ty.ensures.grows c.add_type.ensures.grows

pub returns-in_err-add_function-clause-grows : goal.returns-in_err-add_function-clause-grows
returns-in_err-add_function-clause-grows c = Grows-trans c.ty.ensures.grows (Grows-trans c.add_type.ensures.grows c.add_function.ensures.grows)

pub returns-in_err-add_function-2-clause-grows : goal.returns-in_err-add_function-2-clause-grows
returns-in_err-add_function-2-clause-grows c = Grows-trans c.ty.ensures.grows
    (Grows-trans c.add_type.ensures.grows (Grows-trans c.add_function.ensures.grows c.add_function-2.ensures.grows))

pub returns-in_err-add_abstracted-clause-grows : goal.returns-in_err-add_abstracted-clause-grows
returns-in_err-add_abstracted-clause-grows c = Grows-trans c.ty.ensures.grows
    (Grows-trans c.add_type.ensures.grows
    (Grows-trans c.add_function.ensures.grows (Grows-trans c.add_function-2.ensures.grows c.add_abstracted.ensures.grows)))

pub returns-clause-grows : goal.returns-clause-grows
returns-clause-grows c = Grows-trans c.ty.ensures.grows
    (Grows-trans c.add_type.ensures.grows
    (Grows-trans c.add_function.ensures.grows
    (Grows-trans c.add_function-2.ensures.grows (Grows-trans c.add_abstracted.ensures.grows (Grows-table _ _ c.call.ensures.keeps)))))

pub returns-clause-made : goal.returns-clause-made
returns-clause-made c =
    let k = c.args.ground.proof.now in
    let v = c.args.variable.now in
    IfOk-weaker c.call.result _ _
    (λ r h given stands inside told_type told.
    let under = under_variable k v given in
    let none = Ready-start given c.args.target.now k.trees c.args.ground.env.now _ c.new-args.ensures.items stands in
    let domain = c.in_ok-domain.ensures.made given stands told_type in
    let first = Ready-more c.ty.ensures.grows given k.trees c.args.ground.env.now _ _ _ c.in_ok-domain.domain _ domain c.in_ok-push.ensures.items none in
    let second = c.in_ok-add_type.ensures.ready given _ first (type-told k c.args.one.id c.sides-first.result c.sides-first.ensures given told) in
    let inner = Represents-Grows (Grows-trans c.ty.ensures.grows c.add_type.ensures.grows) under k.trees c.args.inner.now inside in
    let here = Ready-other (Grows-refl c.add_type.new.target) given under k.trees c.args.ground.env.now c.args.inner.now _ _ second inner in
    let third = c.in_ok-add_function.ensures.ready under _ here (left-told k c.args.one.id c.sides-first.result c.sides-first.ensures under told) in
    let fourth = c.in_ok-add_function-2.ensures.ready under _ third (right-told k c.args.one.id c.sides-first.result c.sides-first.ensures under told) in
    let fifth = c.in_ok-add_abstracted.ensures.ready under _ fourth told in
    h ∙ ap (λ l. Some (applied (Sym fun_ext_symbol) l)) (ap (trees_at _) c.deref.ensures.value ∙ fifth.are)
    ∙ ap Some (fun_ext-made given.symbols given.scope (variable_view k.trees v) _ _ _ _ _ _ (c.args.one.symbol, sequent_at k.made c.args.one.id) _ _ _
    (Holds-tree_at _ c.in_ok-domain.domain.0 _ (c.add_type.ensures.grows.table.stays.each c.in_ok-domain.domain.0 _ domain))
    (Holds-tree_at _ c.in_ok-domain.domain.0 _
    ((Grows-trans c.add_type.ensures.grows c.add_function.ensures.grows).table.stays.each c.in_ok-domain.domain.0 _ domain))
    (Holds-tree_at _ c.in_ok-domain.domain.0 _
    ((Grows-trans c.add_type.ensures.grows (Grows-trans c.add_function.ensures.grows c.add_function-2.ensures.grows)).table.stays.each
    c.in_ok-domain.domain.0 _ domain))
    (equated-type k c.args.one.id c.sides-first.result c.sides-first.ensures) (equated-left k c.args.one.id c.sides-first.result c.sides-first.ensures)
    (equated-right k c.args.one.id c.sides-first.result c.sides-first.ensures)))
    c.call.ensures.made
