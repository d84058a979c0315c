use Rattle.std.proofs.Common.{refl, sym, ap, ◌∙◌, ◌∷◌, arith, false}
use Rattle.std.proofs.lemmas.List.{get_or_read}
use Rattle.std.proofs.lemmas.Result.{on_ok_weaker}
use Rattle.translate_spec.specs.Reach.{constant_key}
use Rattle.translate_reach.specs.declared.walk.Task.TheVariants as task
use Rattle.translate_reach.specs.Walks.{marked}
use Rattle.translate_reach.proofs.Parts.{found-below, passed-Turned, bound-Turned, free-Turned, constant-Turned, application-Turned, abstraction-Turned}
use Rattle.translate_reach.proofs.walk.Walk.visit_term.Goals as goal

pub returns-then-index : goal.returns-then-index
returns-then-index c list ix walk =
    let w = c.args.self.now in
    let known = walk.tasks.0 in
    let count = walk.terms in
    passed-Turned c.args.terms.now list w w (task.Term c.args.id) walk
    (sym (get_or_read w.terms.items c.args.id.0 _ (omega (arith, known, count)) c.index.ensures false) ∙ c.if-index.true)

pub mark-requires : goal.mark-requires
mark-requires c =
    let r = c.requires in
    let name = c.in-Const.name.now in
    rw c.constant.ensures (found-below r.0 c.args.index.now c.args.self.now.marks.items r.1 r.2.marks (constant_key name))

pub returns-in-Bound : goal.returns-in-Bound
returns-in-Bound c list ix walk =
    bound-Turned c.args.terms.now list c.args.self.now _ c.args.id (record { walk = walk; types = refl; terms = refl }) c.in-Bound.field-0 c.in-Bound.ensures.is
    refl refl

pub returns-in-Free : goal.returns-in-Free
returns-in-Free c = on_ok_weaker c.push.result
    (λ tasks list ix walk.
    free-Turned c.args.terms.now list c.args.self.now _ c.args.id (record { walk = walk; types = refl; terms = refl }) c.in-Free.field-0.now c.in-Free.ty
    c.in-Free.ensures.is c.in-Free.ensures.lower refl tasks)
    c.push.ensures.pushed

pub returns-in-Const : goal.returns-in-Const
returns-in-Const c = on_ok_weaker c.push-in-Const.result
    (λ tasks list ix walk.
    constant-Turned c.args.terms.now list c.args.self.now _ c.args.id (record { walk = walk; types = refl; terms = refl }) c.args.index.now ix
    c.in-Const.name.now c.in-Const.ty c.in-Const.ensures.is c.in-Const.ensures.lower
    (c.mark.ensures ∙ ap (marked c.args.self.now.marks.items) c.constant.ensures) tasks)
    c.push-in-Const.ensures.pushed

pub returns-in_ok-push-in-App : goal.returns-in_ok-push-in-App
returns-in_ok-push-in-App c = on_ok_weaker c.push-in-App-2.result
    (λ tasks list ix walk.
    application-Turned c.args.terms.now list c.args.self.now _ c.args.id (record { walk = walk; types = refl; terms = refl }) c.in-App.f c.in-App.x
    c.in-App.ensures.is c.in-App.ensures.lower.0 c.in-App.ensures.lower.1 refl
    (tasks ∙ ap (λ l. task.Term c.in-App.f ∷ l) c.in_ok-push-in-App.ensures.pushed))
    c.push-in-App-2.ensures.pushed

pub returns-in_ok-push-in-Lam : goal.returns-in_ok-push-in-Lam
returns-in_ok-push-in-Lam c = on_ok_weaker c.push-in-Lam-2.result
    (λ tasks list ix walk.
    abstraction-Turned c.args.terms.now list c.args.self.now _ c.args.id (record { walk = walk; types = refl; terms = refl }) c.in-Lam.ty c.in-Lam.body
    c.in-Lam.ensures.is c.in-Lam.ensures.lower.0 c.in-Lam.ensures.lower.1 refl
    (tasks ∙ ap (λ l. task.Type c.in-Lam.ty ∷ l) c.in_ok-push-in-Lam.ensures.pushed))
    c.push-in-Lam-2.ensures.pushed
