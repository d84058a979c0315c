use Rattle.std.proofs.Common.{ℕ}
use Rattle.hol_term.specs.Tables.{term_at}
use Rattle.article_write_spec.specs.Lengths.{Tally}
use Rattle.article_write_spec.specs.TermLengths.{count_under}
use Rattle.article_count.specs.TermTasks.{terms_work, CanWalkTerms, IsTermTally, IsTermWalk}
use Rattle.article_count.proofs.terms.TermCount.count_term.Given as goal

-- what is left comes to the tally with the term
abbrev pub invariant-loop-task : goal.invariant-loop-task
invariant-loop-task l = record {
  can : CanWalkTerms l.terms l.walk.tasks l.self l.walk.lengths;
  comes : (steps q : ℕ) (m : Tally) → IsTermTally l.terms steps q l.fn.self m
      → IsTermWalk l.terms steps q l.walk.tasks l.self l.walk.lengths (count_under q 0 (term_at l.terms l.fn.id.0) m);
}

abbrev pub decreases-loop-task : goal.decreases-loop-task
decreases-loop-task l = terms_work l.terms l.walk.tasks
