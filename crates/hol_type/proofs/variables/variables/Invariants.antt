use Rattle.hol_spec.specs.Types.{type_variables}
use Rattle.hol_type.specs.Tables.{tree_at}
use Rattle.hol_type.specs.Walks.{IsSearch, work}
use Rattle.hol_type.proofs.variables.variables.Given as goal

abbrev pub invariant-loop-task : goal.invariant-loop-task
invariant-loop-task l = IsSearch (type_variables (tree_at l.table l.fn.root.0)) l.fn.root l.table l.search.tasks l.search.found.items l.search.seen

abbrev pub decreases-loop-task : goal.decreases-loop-task
decreases-loop-task l = work l.table l.search.tasks
