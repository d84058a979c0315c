use Rattle.translate_term.specs.Tasks.{work}
use Rattle.translate_term.specs.Walks.{Grows, Given, IsTypeStart, IsTypeWalk, size_at}
use Rattle.translate_term.proofs.types.walked.Given as goal

abbrev pub invariant-loop-task : goal.invariant-loop-task
invariant-loop-task l =
    Grows l.fn.target l.target
    × ((given : Given) → IsTypeStart given l.fn.root l.fn.target l.source.table.now l.source.scope.now l.fn.memo
    → IsTypeWalk given l.fn.root l.target l.source.table.now l.source.scope.now l.tasks l.memo)

abbrev pub decreases-loop-task : goal.decreases-loop-task
decreases-loop-task l = work (size_at l.source.table.now) l.tasks
