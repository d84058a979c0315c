use Rattle.std.proofs.Common.{◌≡◌, ◌∷◌, ◌∙◌, [], ap, refl, subst, sym, arith}
use Rattle.hol_term.specs.Tables.{term_at}
use Rattle.article_write_spec.specs.TermLengths.{uses}
use Rattle.article_count.specs.declared.uses.UsesTask.TheVariants as task
use Rattle.article_count.specs.declared.uses.UsesWalk.{UsesWalk}
use Rattle.article_count.specs.Used.{IsUsesWalk}
use Rattle.article_count.proofs.uses.uses.Goals as goal

pub loop-task-init : goal.loop-task-init
loop-task-init c =
    let trees = c.args.terms.now in
    let root = uses 0 (term_at trees c.args.id.0) in
    let w : UsesWalk = record { tasks = c.push.new.self; sums = c.new-2.result; memo = c.new-3.result } in
    let tasks : c.push.new.self ≡ task.Visit (record { id = c.args.id; depth = 0 }) ∷ [] =
    c.in_ok-push.ensures.pushed ∙ ap (λ l. task.Visit (record { id = c.args.id; depth = 0 }) ∷ l) c.new.ensures.empty in
    subst (λ l. IsUsesWalk trees root l w) (sym tasks)
    (record {
      sums = [];
      held = c.new-2.ensures.empty;
      ends = ((c.requires.id, omega (arith, c.requires.id, c.requires.loose.count)), refl);
      noted = λ p n i. absurd (c.new-3.ensures.empty p n i);
    })
