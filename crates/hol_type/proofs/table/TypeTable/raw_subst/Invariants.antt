use Rattle.hol_type.specs.Tables.{pairs_at, Keeps}
use Rattle.hol_type.specs.Walks.{IsWalk, work}
use Rattle.hol_type.proofs.table.TypeTable.raw_subst.Given as goal

abbrev pub invariant-loop-task : goal.invariant-loop-task
invariant-loop-task l = Keeps l.fn.self l.self × IsWalk (pairs_at l.fn.self l.pairs) l.fn.root l.self l.pairs l.walk.tasks l.walk.made

abbrev pub decreases-loop-task : goal.decreases-loop-task
decreases-loop-task l = work l.self l.walk.tasks
