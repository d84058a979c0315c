use Rattle.std.proofs.Common.{ℕ}
use Rattle.hol_term.specs.Tables.{type_at}
use Rattle.article_write_spec.specs.Lengths.{Tally}
use Rattle.article_write_spec.specs.TermLengths.{count_type}
use Rattle.article_count.specs.Counts.{IsTally}
use Rattle.article_count.specs.TypeTasks.{types_work, CanWalkTypes, IsTypeWalk}
use Rattle.article_count.proofs.tally.Count.count_type.Given as goal

-- what is left comes to the tally with the type
abbrev pub invariant-loop-task : goal.invariant-loop-task
invariant-loop-task l = record {
  can : CanWalkTypes l.terms l.tasks l.self;
  comes : (steps : ℕ) (m : Tally) → IsTally l.terms steps l.fn.self m → IsTypeWalk l.terms steps l.tasks l.self (count_type (type_at l.terms l.fn.id.0) m);
}

abbrev pub decreases-loop-task : goal.decreases-loop-task
decreases-loop-task l = types_work l.terms l.tasks
