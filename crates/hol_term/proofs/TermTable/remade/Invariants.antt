use Rattle.hol_term.specs.Tables.{terms_at}
use Rattle.hol_term.specs.Walks.{IsWalk, wanted, work}
use Rattle.hol_term.proofs.TermTable.remade.Given as goal

abbrev pub invariant-loop-task : goal.invariant-loop-task
invariant-loop-task l = IsWalk l.fn.self (wanted (terms_at l.fn.self l.args) l.fn.self l.fn.root) l.self l.args l.walk.tasks l.walk.made l.walk.memo

abbrev pub decreases-loop-task : goal.decreases-loop-task
decreases-loop-task l = work l.fn.self l.args l.walk.tasks
