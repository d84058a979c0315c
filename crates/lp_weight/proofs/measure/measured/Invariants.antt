use Rattle.lp_weight.specs.Measures.{place_occurrences, IsWalk, work}
use Rattle.lp_weight.proofs.measure.measured.Given as goal

abbrev pub invariant-loop-task : goal.invariant-loop-task
invariant-loop-task l = IsWalk (place_occurrences l.base) l.base.table (place_occurrences l.base l.fn.place) l.walk.tasks l.walk.amounts l.walk.memo

abbrev pub decreases-loop-task : goal.decreases-loop-task
decreases-loop-task l = work l.base.table l.walk.tasks
