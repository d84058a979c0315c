use Rattle.std.proofs.Common.{refl, sym, ap, ◌∙◌, ◌∷◌, arith, false}
use Rattle.std.proofs.lemmas.List.{get_or_read}
use Rattle.std.proofs.lemmas.Result.{on_ok_weaker}
use Rattle.article_reach.specs.declared.walk.Task.TheVariants as task
use Rattle.article_reach.proofs.Parts.{passed-Turned, marks-none, marks-constant, marks-variable, bound-Turned, free-Turned, constant-Turned, application-Turned, abstraction-Turned}
use Rattle.article_reach.proofs.walk.Walk.visit_term.Goals as goal

pub returns-then-index : goal.returns-then-index
returns-then-index c count walk =
    let w = c.args.self.now in
    let known = walk.tasks.0 in
    let same = walk.terms in
    passed-Turned c.args.terms.now count w w (task.Term c.args.id) walk
    (sym (get_or_read w.terms.items c.args.id.0 _ (omega (arith, known, same)) c.index.ensures false) ∙ c.if-index.true)

pub returns-in-Bound : goal.returns-in-Bound
returns-in-Bound c count walk =
    let trees = c.args.terms.now in
    let w = c.args.self.now in
    bound-Turned trees count w _ c.args.id (record { walk = walk; types = refl; terms = refl }) c.in-Bound.field-0 c.in-Bound.ensures.is
    (marks-none trees count w _ refl refl refl refl) refl

pub returns-in_ok-note_variable-in-Free : goal.returns-in_ok-note_variable-in-Free
returns-in_ok-note_variable-in-Free c = on_ok_weaker c.push.result
    (λ tasks count walk.
    let trees = c.args.terms.now in
    let w = c.args.self.now in
    let name = c.in-Free.name.now in
    free-Turned trees count w _ c.args.id (record { walk = walk; types = refl; terms = refl }) name c.in-Free.ty c.in-Free.ensures.is c.in-Free.ensures.lower
    (marks-variable trees count w _ name refl refl refl c.in_ok-note_variable-in-Free.ensures) tasks)
    c.push.ensures.pushed

pub returns-in_ok-note-in-Const : goal.returns-in_ok-note-in-Const
returns-in_ok-note-in-Const c = on_ok_weaker c.push-in-Const.result
    (λ tasks count walk.
    let trees = c.args.terms.now in
    let w = c.args.self.now in
    let name = c.in-Const.name.now in
    constant-Turned trees count w _ c.args.id (record { walk = walk; types = refl; terms = refl }) name c.in-Const.ty c.in-Const.ensures.is
    c.in-Const.ensures.lower
    (marks-constant trees count w _ name refl refl c.in_ok-note-in-Const.ensures refl) tasks)
    c.push-in-Const.ensures.pushed

pub returns-in_ok-push-in-App : goal.returns-in_ok-push-in-App
returns-in_ok-push-in-App c = on_ok_weaker c.push-in-App-2.result
    (λ tasks count walk.
    let trees = c.args.terms.now in
    let w = c.args.self.now in
    application-Turned trees count w _ c.args.id (record { walk = walk; types = refl; terms = refl }) c.in-App.f c.in-App.x c.in-App.ensures.is
    c.in-App.ensures.lower.0 c.in-App.ensures.lower.1
    (marks-none trees count w _ refl refl refl refl) (tasks ∙ ap (λ l. task.Term c.in-App.f ∷ l) c.in_ok-push-in-App.ensures.pushed))
    c.push-in-App-2.ensures.pushed

pub returns-in_ok-push-in-Lam : goal.returns-in_ok-push-in-Lam
returns-in_ok-push-in-Lam c = on_ok_weaker c.push-in-Lam-2.result
    (λ tasks count walk.
    let trees = c.args.terms.now in
    let w = c.args.self.now in
    abstraction-Turned trees count w _ c.args.id (record { walk = walk; types = refl; terms = refl }) c.in-Lam.ty c.in-Lam.body c.in-Lam.ensures.is
    c.in-Lam.ensures.lower.0 c.in-Lam.ensures.lower.1
    (marks-none trees count w _ refl refl refl refl) (tasks ∙ ap (λ l. task.Type c.in-Lam.ty ∷ l) c.in_ok-push-in-Lam.ensures.pushed))
    c.push-in-Lam-2.ensures.pushed
