use Rattle.hol_term.specs.Tables.{term_at}
use Rattle.article_write_spec.specs.TermLengths.{uses}
use Rattle.article_count.specs.Used.{IsUsesWalk, uses_work}
use Rattle.article_count.proofs.uses.uses.Given as goal

-- what is left comes to the uses of the whole term
abbrev pub invariant-loop-task : goal.invariant-loop-task
invariant-loop-task l = IsUsesWalk l.terms (uses 0 (term_at l.terms l.fn.id.0)) l.walk.tasks l.walk

abbrev pub decreases-loop-task : goal.decreases-loop-task
decreases-loop-task l = uses_work l.terms l.walk.tasks
