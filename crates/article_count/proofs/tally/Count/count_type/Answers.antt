use Rattle.std.proofs.Common.{◌≡◌, ◌∷◌, ℕ, [], ap, ◌∙◌, refl, subst, sym}
use Rattle.hol_term.specs.Tables.{type_at}
use Rattle.article_write_spec.specs.Lengths.{Tally}
use Rattle.article_write_spec.specs.TermLengths.{count_type}
use Rattle.article_count.specs.declared.types.TypeTask.TheVariants as task
use Rattle.article_count.specs.Counts.{IsTally}
use Rattle.article_count.specs.TypeTasks.{IsTypeWalk}
use Rattle.article_count.proofs.tally.Count.count_type.Goals as goal

pub loop-task-init : goal.loop-task-init
loop-task-init c =
    let trees = c.args.terms.now in
    let tasks : c.push.new.self ≡ task.Visit c.args.id ∷ [] = c.in_ok-push.ensures.pushed ∙ ap (λ l. task.Visit c.args.id ∷ l) c.new-tasks.ensures.empty in
    let comes = λ (steps : ℕ) (m : Tally) (h : IsTally trees steps c.args.self.now m).
    subst (λ l. IsTypeWalk trees steps l c.args.self.now (count_type (type_at trees c.args.id.0) m)) (sym tasks)
    (record { now = m; tally = h; ready = (c.requires.id, tt {0}); ends = refl }) in
    let n = c.requires.count in
    record { can = (n.0, count_type (type_at trees c.args.id.0) n.1, comes n.0 n.1 n.2); comes = comes }

pub returns : goal.returns
returns c steps m h =
    let trees = c.args.terms.now in
    let walk = c.loop-task.invariant.comes steps m h in
    let done = subst (λ l. IsTypeWalk trees steps l c.loop-task.self (count_type (type_at trees c.args.id.0) m)) c.in_default.ensures.popped walk in
    subst (IsTally trees steps c.loop-task.self) done.ends done.tally
