use Rattle.std.proofs.Common.{◌≡◌, ◌≤◌, length}
use Rattle.article_count.specs.TypeTasks.{with_visits}
use Rattle.article_count.proofs.types.push_types.Given as goal

abbrev pub invariant-loop-rest : goal.invariant-loop-rest
invariant-loop-rest l = (with_visits l.rest l.tasks ≡ with_visits l.fn.ids l.fn.tasks) × (length l.rest ≤ length l.fn.ids)

abbrev pub decreases-loop-rest : goal.decreases-loop-rest
decreases-loop-rest l = length l.rest
