use Rattle.std.proofs.Common.{refl, sym, ap, subst, ◌∙◌, length, arith, false}
use Rattle.std.proofs.lemmas.List.{get_or_read}
use Rattle.std.proofs.lemmas.Result.{on_ok_weaker}
use Rattle.hol_spec.specs.Types.{operator, types_of, variable}
use Rattle.hol_type.specs.Tables.{types_at, Holds}
use Rattle.translate_spec.specs.Reach.{operator_key}
use Rattle.translate_reach.specs.declared.walk.Task.TheVariants as task
use Rattle.translate_reach.specs.Walks.{marked}
use Rattle.translate_reach.proofs.Parts.{found-below, passed-Turned, variable-Turned, operator-Turned}
use Rattle.translate_reach.proofs.walk.Walk.visit_type.Goals as goal

pub returns-then-index : goal.returns-then-index
returns-then-index c list ix walk =
    let w = c.args.self.now in
    let known = walk.tasks.0 in
    let count = walk.types in
    passed-Turned c.args.terms.now list w w (task.Type c.args.id) walk
    (sym (get_or_read w.types.items c.args.id.0 _ (omega (arith, known, count)) c.index.ensures false) ∙ c.if-index.true)

pub returns-in-Var : goal.returns-in-Var
returns-in-Var c list ix walk =
    let name = c.in-Var.field-0.now in
    variable-Turned c.args.terms.now list c.args.self.now _ c.args.id (record { walk = walk; types = refl; terms = refl }) name
    (subst (λ ts. Holds ts c.args.id.0 (variable name)) c.types.ensures.types c.in-Var.ensures.is) refl refl

pub mark-requires : goal.mark-requires
mark-requires c =
    let r = c.requires in
    let name = c.in-Op.name.now in
    let args = c.in-Op.args.now in
    let below = found-below r.0 c.args.index.now c.args.self.now.marks.items r.1 r.2.marks (operator_key name (length args)) in
    rw c.in_ok-item-in-Op.ensures below

pub returns-in_ok-item-in-Op : goal.returns-in_ok-item-in-Op
returns-in_ok-item-in-Op c = on_ok_weaker c.push_types.result
    (λ tasks list ix walk.
    let name = c.in-Op.name.now in
    let args = c.in-Op.args.now in
    operator-Turned c.args.terms.now list c.args.self.now _ c.args.index.now ix c.args.id (record { walk = walk; types = refl; terms = refl }) name args
    (subst (λ ts. Holds ts c.args.id.0 (operator name (types_of (types_at ts args)))) c.types.ensures.types c.in-Op.ensures.is) c.in-Op.ensures.lower
    (c.mark.ensures ∙ ap (marked c.args.self.now.marks.items) c.in_ok-item-in-Op.ensures) tasks)
    c.push_types.ensures
