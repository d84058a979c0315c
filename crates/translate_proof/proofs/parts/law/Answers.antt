use Rattle.std.proofs.Common.{◌∙◌, sym, ap, subst, Some, arith}
use Rattle.std.proofs.lemmas.Result.{IfOk-weaker}
use Rattle.hol_spec.specs.Proofs.{sequent_at}
use Rattle.hol_spec.specs.Terms.{lam}
use Rattle.lp_spec.specs.Modules.{applied, fun_ext_symbol}
use Rattle.lp_spec.specs.Trees.{Sym}
use Rattle.lp_term.specs.Tables.{trees_at, AreKnown}
use Rattle.lp_term.specs.TableLaws.{Holds-tree_at, Holds-within, tree_at-Stays}
use Rattle.translate_spec.specs.Scopes.{lifted}
use Rattle.translate_proof.specs.Parts.{whole_type}
use Rattle.translate_proof.specs.Rescoped.{with_scope}
use Rattle.translate_term.specs.GrowLaws.{Grows-refl, Grows-trans, Grows-table}
use Rattle.translate_proof.proofs.PartLaws.{from-told, to-told, functions-from, functions-to, functions-left, functions-right, law-made}
use Rattle.translate_proof.proofs.SequentLaws.{left-told, right-told}
use Rattle.translate_proof.proofs.StandLaws.{Ready-other}
use Rattle.translate_proof.proofs.StandTrees.{Ready-more}
use Rattle.translate_proof.proofs.TheoremLaws.{Ready-start}
use Rattle.translate_proof.specs.EnvironmentLaws.{Represents-Grows}
use Rattle.translate_proof.proofs.parts.law.Goals as goal

pub ty-requires-clause-told : goal.ty-requires-clause-told
ty-requires-clause-told c =
    let given = c.requires.told.0 in
    let k = c.args.ground.proof.now in
    let f = c.function_sides-own in
    (given, c.requires.told.1, from-told k c.args.id f.result f.ensures given c.requires.told.3)

pub add_type-requires-clause-told : goal.add_type-requires-clause-told
add_type-requires-clause-told c =
    let given = c.requires.told.0 in
    let k = c.args.ground.proof.now in
    let f = c.function_sides-own in
    let start = Ready-start given c.args.target.now k.trees c.args.ground.env.now _ c.new-args.ensures.items c.requires.told.1 in
    let from = c.in_ok-domain.ensures.made given c.requires.told.1 (from-told k c.args.id f.result f.ensures given c.requires.told.3) in
    let first = Ready-more c.ty.ensures.grows given k.trees c.args.ground.env.now _ _ _ c.in_ok-domain.domain _ from c.in_ok-push.ensures.items start in
    (given, first.stands, to-told k c.args.id f.result f.ensures given c.requires.told.3)

pub add_term-requires-clause-told : goal.add_term-requires-clause-told
add_term-requires-clause-told c =
    let given = c.requires.told.0 in
    let k = c.args.ground.proof.now in
    let f = c.function_sides-own in
    let start = Ready-start given c.args.target.now k.trees c.args.ground.env.now _ c.new-args.ensures.items c.requires.told.1 in
    let from = c.in_ok-domain.ensures.made given c.requires.told.1 (from-told k c.args.id f.result f.ensures given c.requires.told.3) in
    let first = Ready-more c.ty.ensures.grows given k.trees c.args.ground.env.now _ _ _ c.in_ok-domain.domain _ from c.in_ok-push.ensures.items start in
    let second = c.in_ok-add_type.ensures.ready given _ first (to-told k c.args.id f.result f.ensures given c.requires.told.3) in
    (given, second.stands, left-told k c.args.id f.result.sides f.ensures.sides given c.requires.told.3)

pub add_term-requires-2-clause-told : goal.add_term-requires-2-clause-told
add_term-requires-2-clause-told c =
    let given = c.requires.told.0 in
    let k = c.args.ground.proof.now in
    let f = c.function_sides-own in
    let start = Ready-start given c.args.target.now k.trees c.args.ground.env.now _ c.new-args.ensures.items c.requires.told.1 in
    let from = c.in_ok-domain.ensures.made given c.requires.told.1 (from-told k c.args.id f.result f.ensures given c.requires.told.3) in
    let first = Ready-more c.ty.ensures.grows given k.trees c.args.ground.env.now _ _ _ c.in_ok-domain.domain _ from c.in_ok-push.ensures.items start in
    let second = c.in_ok-add_type.ensures.ready given _ first (to-told k c.args.id f.result f.ensures given c.requires.told.3) in
    let third = c.in_ok-add_term.ensures.ready given _ second (left-told k c.args.id f.result.sides f.ensures.sides given c.requires.told.3) in
    (given, third.stands, right-told k c.args.id f.result.sides f.ensures.sides given c.requires.told.3)

pub add_part-requires-clause-domain : goal.add_part-requires-clause-domain
add_part-requires-clause-domain c =
    let given = c.requires.told.0 in
    let k = c.args.ground.proof.now in
    let f = c.function_sides-own in
    let from = c.in_ok-domain.ensures.made given c.requires.told.1 (from-told k c.args.id f.result f.ensures given c.requires.told.3) in
    let grows = Grows-trans c.ty.ensures.grows (Grows-trans c.add_type.ensures.grows (Grows-trans c.add_term.ensures.grows c.add_term-2.ensures.grows)) in
    let known = Holds-within _ c.in_ok-domain.domain.0 _ from in
    omega (arith, known, c.add_type.ensures.grows.table.longer, c.add_term.ensures.grows.table.longer, c.add_term-2.ensures.grows.table.longer)

pub add_part-requires-clause-told : goal.add_part-requires-clause-told
add_part-requires-clause-told c =
    let given = c.requires.told.0 in
    let k = c.args.ground.proof.now in
    let f = c.function_sides-own in
    let start = Ready-start given c.args.target.now k.trees c.args.ground.env.now _ c.new-args.ensures.items c.requires.told.1 in
    let from = c.in_ok-domain.ensures.made given c.requires.told.1 (from-told k c.args.id f.result f.ensures given c.requires.told.3) in
    let first = Ready-more c.ty.ensures.grows given k.trees c.args.ground.env.now _ _ _ c.in_ok-domain.domain _ from c.in_ok-push.ensures.items start in
    let second = c.in_ok-add_type.ensures.ready given _ first (to-told k c.args.id f.result f.ensures given c.requires.told.3) in
    let third = c.in_ok-add_term.ensures.ready given _ second (left-told k c.args.id f.result.sides f.ensures.sides given c.requires.told.3) in
    let fourth = c.in_ok-add_term-2.ensures.ready given _ third (right-told k c.args.id f.result.sides f.ensures.sides given c.requires.told.3) in
    let inner = with_scope given (lifted given.scope) in
    let grows = Grows-trans c.ty.ensures.grows (Grows-trans c.add_type.ensures.grows (Grows-trans c.add_term.ensures.grows c.add_term-2.ensures.grows)) in
    let under = Ready-other (Grows-refl c.add_term-2.new.target) given inner k.trees c.args.ground.env.now c.args.inner.now _ _ fourth
    (Represents-Grows grows inner k.trees c.args.inner.now c.requires.told.2) in
    (inner, under.stands, c.requires.told.4, c.requires.told.5)

pub call-requires : goal.call-requires
call-requires c =
    let given = c.requires.told.0 in
    let k = c.args.ground.proof.now in
    let f = c.function_sides-own in
    let start = Ready-start given c.args.target.now k.trees c.args.ground.env.now _ c.new-args.ensures.items c.requires.told.1 in
    let from = c.in_ok-domain.ensures.made given c.requires.told.1 (from-told k c.args.id f.result f.ensures given c.requires.told.3) in
    let first = Ready-more c.ty.ensures.grows given k.trees c.args.ground.env.now _ _ _ c.in_ok-domain.domain _ from c.in_ok-push.ensures.items start in
    let second = c.in_ok-add_type.ensures.ready given _ first (to-told k c.args.id f.result f.ensures given c.requires.told.3) in
    let third = c.in_ok-add_term.ensures.ready given _ second (left-told k c.args.id f.result.sides f.ensures.sides given c.requires.told.3) in
    let fourth = c.in_ok-add_term-2.ensures.ready given _ third (right-told k c.args.id f.result.sides f.ensures.sides given c.requires.told.3) in
    let inner = with_scope given (lifted given.scope) in
    let grows = Grows-trans c.ty.ensures.grows (Grows-trans c.add_type.ensures.grows (Grows-trans c.add_term.ensures.grows c.add_term-2.ensures.grows)) in
    let under = Ready-other (Grows-refl c.add_term-2.new.target) given inner k.trees c.args.ground.env.now c.args.inner.now _ _ fourth
    (Represents-Grows grows inner k.trees c.args.inner.now c.requires.told.2) in
    let last = c.in_ok-add_part.ensures.ready inner _ under c.requires.told.4 c.requires.told.5 in
    subst (AreKnown _) (sym c.deref.ensures.value) last.known

pub returns-clause-made : goal.returns-clause-made
returns-clause-made c =
    IfOk-weaker c.call.result _ _
    (λ r h given a b t u e stands inside own whole one.
    let k = c.args.ground.proof.now in
    let f = c.function_sides-own in
    let start = Ready-start given c.args.target.now k.trees c.args.ground.env.now _ c.new-args.ensures.items stands in
    let from = c.in_ok-domain.ensures.made given stands (from-told k c.args.id f.result f.ensures given own) in
    let first = Ready-more c.ty.ensures.grows given k.trees c.args.ground.env.now _ _ _ c.in_ok-domain.domain _ from c.in_ok-push.ensures.items start in
    let second = c.in_ok-add_type.ensures.ready given _ first (to-told k c.args.id f.result f.ensures given own) in
    let third = c.in_ok-add_term.ensures.ready given _ second (left-told k c.args.id f.result.sides f.ensures.sides given own) in
    let fourth = c.in_ok-add_term-2.ensures.ready given _ third (right-told k c.args.id f.result.sides f.ensures.sides given own) in
    let inner = with_scope given (lifted given.scope) in
    let grows = Grows-trans c.ty.ensures.grows (Grows-trans c.add_type.ensures.grows (Grows-trans c.add_term.ensures.grows c.add_term-2.ensures.grows)) in
    let under = Ready-other (Grows-refl c.add_term-2.new.target) given inner k.trees c.args.ground.env.now c.args.inner.now _ _ fourth
    (Represents-Grows grows inner k.trees c.args.inner.now inside) in
    let last = c.in_ok-add_part.ensures.ready inner _ under whole one in
    let later = Grows-trans c.add_type.ensures.grows (Grows-trans c.add_term.ensures.grows c.add_term-2.ensures.grows) in
    let domain = sym (tree_at-Stays later.table.stays c.in_ok-domain.domain.0 (Holds-within _ c.in_ok-domain.domain.0 _ from))
    ∙ Holds-tree_at _ c.in_ok-domain.domain.0 _ from in
    h ∙ ap (λ l. Some (applied (Sym fun_ext_symbol) l)) (ap (trees_at _) c.deref.ensures.value ∙ last.are)
    ∙ ap Some (law-made given.symbols given.scope _ a _ b _ _ t u c.args.symbol (whole_type k c.args.one.id)
    (c.args.one.symbol, sequent_at k.made c.args.one.id) _
    (functions-from k c.args.id f.result f.ensures a b (lam a t) (lam a u) e) (functions-to k c.args.id f.result f.ensures a b (lam a t) (lam a u) e)
    (functions-left k c.args.id f.result f.ensures a b (lam a t) (lam a u) e) (functions-right k c.args.id f.result f.ensures a b (lam a t) (lam a u) e)
    domain))
    c.call.ensures.made

pub returns-in_err-add_type-clause-grows : goal.returns-in_err-add_type-clause-grows
returns-in_err-add_type-clause-grows c = Grows-trans c.ty.ensures.grows c.add_type.ensures.grows

pub returns-in_err-add_term-clause-grows : goal.returns-in_err-add_term-clause-grows
returns-in_err-add_term-clause-grows c = Grows-trans c.ty.ensures.grows (Grows-trans c.add_type.ensures.grows c.add_term.ensures.grows)

pub returns-in_err-add_term-2-clause-grows : goal.returns-in_err-add_term-2-clause-grows
returns-in_err-add_term-2-clause-grows c = Grows-trans c.ty.ensures.grows
    (Grows-trans c.add_type.ensures.grows (Grows-trans c.add_term.ensures.grows c.add_term-2.ensures.grows))

pub returns-in_err-add_part-clause-grows : goal.returns-in_err-add_part-clause-grows
returns-in_err-add_part-clause-grows c = Grows-trans c.ty.ensures.grows
    (Grows-trans c.add_type.ensures.grows (Grows-trans c.add_term.ensures.grows (Grows-trans c.add_term-2.ensures.grows c.add_part.ensures.grows)))

pub returns-clause-grows : goal.returns-clause-grows
returns-clause-grows c = Grows-trans c.ty.ensures.grows
    (Grows-trans c.add_type.ensures.grows
    (Grows-trans c.add_term.ensures.grows
    (Grows-trans c.add_term-2.ensures.grows (Grows-trans c.add_part.ensures.grows (Grows-table _ _ c.call.ensures.keeps)))))
