use Rattle.std.proofs.Common.{◌≡◌, ◌∷◌, ◌∙◌, ap, subst, sym}
use Rattle.std.proofs.lemmas.Result.{on_ok_weaker}
use Rattle.article_count.specs.Used.{IsUsesWalk}
use Rattle.article_count.proofs.UsesWalks.{sum-IsUsesWalk}
use Rattle.article_count.proofs.uses.UsesWalk.sum.Goals as goal

pub returns-clause-sums : goal.returns-clause-sums
returns-clause-sums c = on_ok_weaker c.push.result
    (λ pushed root walk.
    let w = c.args.self.now in
    let x = c.take-argument.result in
    let f = c.take-function.result in
    let rest = c.take-function.new.self.sums in
    let v = record c.take-function.new.self { sums = c.push.new.self; memo = c.note.new.self } in
    let was : w.sums ≡ x ∷ f ∷ rest = c.take-argument.ensures.sums ∙ ap (λ l. x ∷ l) c.take-function.ensures.sums in
    let same = c.take-function.ensures.tasks ∙ c.take-argument.ensures.tasks in
    let memo = c.take-function.ensures.memo ∙ c.take-argument.ensures.memo in
    subst (λ l. IsUsesWalk c.args.terms.now root l v) (sym same)
    (sum-IsUsesWalk v c.args.place x f rest was (pushed ∙ ap (λ n. n ∷ rest) c.saturating_add-sum.ensures)
    (rw (← memo, ← c.saturating_add-sum.ensures) c.in_ok-note.ensures.noted) walk))
    c.push.ensures.pushed
