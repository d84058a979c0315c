use Rattle.std.proofs.Common.{ℕ, []}
use Rattle.article_reach.specs.Walks.{work, IsWalk, Wants}
use Rattle.article_reach.proofs.walk.Walk.run.Given as goal

abbrev pub invariant-loop-task : goal.invariant-loop-task
invariant-loop-task l = (count : ℕ) → IsWalk l.terms count l.fn.self → IsWalk l.terms count l.self × Wants l.terms [] l.fn.self l.self

abbrev pub decreases-loop-task : goal.decreases-loop-task
decreases-loop-task l = work l.terms l.self.tasks
