use Rattle.std.proofs.Common.{refl, sym, subst, ◌∙◌, arith, false}
use Rattle.std.proofs.lemmas.List.{get_or_read}
use Rattle.std.proofs.lemmas.Result.{on_ok_weaker}
use Rattle.hol_spec.specs.Types.{operator, types_of, variable}
use Rattle.hol_type.specs.Tables.{types_at, Holds}
use Rattle.article_reach.specs.declared.walk.Task.TheVariants as task
use Rattle.article_reach.proofs.Parts.{passed-Turned, marks-none, marks-operator, variable-Turned, operator-Turned}
use Rattle.article_reach.proofs.walk.Walk.visit_type.Goals as goal

pub returns-then-index : goal.returns-then-index
returns-then-index c count walk =
    let w = c.args.self.now in
    let known = walk.tasks.0 in
    let same = walk.types in
    passed-Turned c.args.terms.now count w w (task.Type c.args.id) walk
    (sym (get_or_read w.types.items c.args.id.0 _ (omega (arith, known, same)) c.index.ensures false) ∙ c.if-index.true)

pub returns-in-Var : goal.returns-in-Var
returns-in-Var c count walk =
    let trees = c.args.terms.now in
    let w = c.args.self.now in
    let name = c.in-Var.field-0.now in
    variable-Turned trees count w _ c.args.id (record { walk = walk; types = refl; terms = refl }) name
    (subst (λ ts. Holds ts c.args.id.0 (variable name)) c.types.ensures.types c.in-Var.ensures.is) (marks-none trees count w _ refl refl refl refl) refl

pub returns-in_ok-note-in-Op : goal.returns-in_ok-note-in-Op
returns-in_ok-note-in-Op c = on_ok_weaker c.push_types.result
    (λ tasks count walk.
    let trees = c.args.terms.now in
    let w = c.args.self.now in
    let name = c.in-Op.name.now in
    let args = c.in-Op.args.now in
    operator-Turned trees count w _ c.args.id (record { walk = walk; types = refl; terms = refl }) name args
    (subst (λ ts. Holds ts c.args.id.0 (operator name (types_of (types_at ts args)))) c.types.ensures.types c.in-Op.ensures.is) c.in-Op.ensures.lower
    (marks-operator trees count w _ name refl c.in_ok-note-in-Op.ensures refl refl) tasks)
    c.push_types.ensures
