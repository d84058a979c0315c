use Rattle.std.proofs.Common.{◌≡◌, ◌∷◌, ◌∙◌, ℕ, [], ap, refl, subst, sym, arith}
use Rattle.hol_term.specs.Tables.{term_at}
use Rattle.article_write_spec.specs.Lengths.{Tally}
use Rattle.article_write_spec.specs.TermLengths.{count_under}
use Rattle.article_count.specs.declared.terms.TermTask.TheVariants as task
use Rattle.article_count.specs.TermTasks.{IsTermTally, IsTermWalk}
use Rattle.article_count.proofs.terms.TermCount.count_term.Goals as goal

pub loop-task-init : goal.loop-task-init
loop-task-init c =
    let trees = c.args.terms.now in
    let root = task.Visit (record { id = c.args.id; depth = 0 }) in
    let tasks : c.push.new.self ≡ root ∷ [] = c.in_ok-push.ensures.pushed ∙ ap (λ l. root ∷ l) c.new.ensures.empty in
    let comes = λ (steps q : ℕ) (m : Tally) (h : IsTermTally trees steps q c.args.self.now m).
    subst (λ l. IsTermWalk trees steps q l c.args.self.now c.new-2.result (count_under q 0 (term_at trees c.args.id.0) m)) (sym tasks)
    (record {
      now = m;
      tally = h;
      numbers = [];
      held = c.new-2.ensures.empty;
      ready =
          ((c.requires.id, omega (arith, c.requires.id, h.loose.count)), tt {0});
      ends = refl;
    }) in
    let n = c.requires.count in
    record { can = (n.0, n.1, count_under n.1 0 (term_at trees c.args.id.0) n.2, comes n.0 n.1 n.2 n.3); comes = comes }

pub returns : goal.returns
returns c steps q m h =
    let trees = c.args.terms.now in
    let walk = c.loop-task.invariant.comes steps q m h in
    let done = subst (λ l. IsTermWalk trees steps q l c.loop-task.self c.loop-task.walk.lengths (count_under q 0 (term_at trees c.args.id.0) m))
    c.in_default.ensures.popped walk in
    subst (IsTermTally trees steps q c.loop-task.self) done.ends done.tally
