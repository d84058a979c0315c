use Rattle.std.proofs.Common.{◌∙◌, ap, arith}
use Rattle.std.proofs.lemmas.Result.{on_ok_weaker}
use Rattle.holide_sig.specs.ModuleLaws.{IsHeld-Keeps, declarations_of-Keeps}
use Rattle.lp_term.specs.Tables.{trees_at}
use Rattle.translate_rule.proofs.LemmaLaws.{nodes-ordered, count-at, sym-follows-at, declared-sym, trans-follows-at, declared-trans}
use Rattle.translate_rule.proofs.lemmas.declare_lemmas.Goals as goal

pub add_nodes-requires : goal.add_nodes-requires
add_nodes-requires c = nodes-ordered

pub returns-in_err-ids-clause-held : goal.returns-in_err-ids-clause-held
returns-in_err-ids-clause-held c = IsHeld-Keeps c.args.target.now _ c.add_nodes.ensures.keeps c.requires.held

pub declare-requires-clause-held : goal.declare-requires-clause-held
declare-requires-clause-held c = IsHeld-Keeps c.args.target.now _ c.add_nodes.ensures.keeps c.requires.held

pub declare-requires-clause-ty : goal.declare-requires-clause-ty
declare-requires-clause-ty c = omega (arith, count-at _ c.in_ok-ids.ids.items c.deref.result.now c.deref.ensures.value c.in_ok-ids.ensures.made)

pub declare-requires-clause-body : goal.declare-requires-clause-body
declare-requires-clause-body c = omega (arith, count-at _ c.in_ok-ids.ids.items c.deref.result.now c.deref.ensures.value c.in_ok-ids.ensures.made)

pub declare-requires-clause-follows : goal.declare-requires-clause-follows
declare-requires-clause-follows c =
    sym-follows-at _ c.in_ok-ids.ids.items c.deref.result.now c.deref.ensures.value c.in_ok-ids.ensures.made _
    (declarations_of-Keeps c.args.target.now _ c.add_nodes.ensures.keeps c.requires.held ∙ c.requires.none)

pub declare-requires-2-clause-ty : goal.declare-requires-2-clause-ty
declare-requires-2-clause-ty c = omega (arith, count-at _ c.in_ok-ids.ids.items c.deref-2.result.now c.deref-2.ensures.value c.in_ok-ids.ensures.made)

pub declare-requires-2-clause-body : goal.declare-requires-2-clause-body
declare-requires-2-clause-body c = omega (arith, count-at _ c.in_ok-ids.ids.items c.deref-2.result.now c.deref-2.ensures.value c.in_ok-ids.ensures.made)

pub declare-requires-2-clause-follows : goal.declare-requires-2-clause-follows
declare-requires-2-clause-follows c =
    trans-follows-at _ c.in_ok-ids.ids.items c.deref-2.result.now c.deref-2.ensures.value
    (ap (λ t. trees_at t c.in_ok-ids.ids.items) c.in_ok-declare.ensures.table ∙ c.in_ok-ids.ensures.made) _
    (declared-sym _ c.in_ok-ids.ids.items c.deref.result.now c.deref.ensures.value c.in_ok-ids.ensures.made _ _
    (declarations_of-Keeps c.args.target.now _ c.add_nodes.ensures.keeps c.requires.held ∙ c.requires.none) c.in_ok-declare.ensures.declared)

pub returns-clause-declared : goal.returns-clause-declared
returns-clause-declared c =
    on_ok_weaker c.declare-2.result
    (declared-trans _ c.in_ok-ids.ids.items c.deref-2.result.now c.deref-2.ensures.value
    (ap (λ t. trees_at t c.in_ok-ids.ids.items) c.in_ok-declare.ensures.table ∙ c.in_ok-ids.ensures.made) _ _
    (declared-sym _ c.in_ok-ids.ids.items c.deref.result.now c.deref.ensures.value c.in_ok-ids.ensures.made _ _
    (declarations_of-Keeps c.args.target.now _ c.add_nodes.ensures.keeps c.requires.held ∙ c.requires.none) c.in_ok-declare.ensures.declared))
    c.declare-2.ensures.declared
