use Rattle.lp_term.specs.Tables.{trees_at, Keeps}
use Rattle.lp_term.specs.Walks.{IsWalk, wanted, work}
use Rattle.lp_term.proofs.LpTable.walk_on.Given as goal

abbrev pub invariant-loop-task : goal.invariant-loop-task
invariant-loop-task l =
    Keeps l.fn.self l.self × IsWalk (trees_at l.fn.self l.args) (wanted (trees_at l.fn.self l.args) l.fn.self l.fn.root) l.self l.args l.walk.tasks l.walk.made
    l.walk.memo

abbrev pub decreases-loop-task : goal.decreases-loop-task
decreases-loop-task l = work l.self l.args l.walk.tasks
