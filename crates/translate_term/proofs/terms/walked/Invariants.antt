use Rattle.translate_term.specs.declared.tasks.Task.TheVariants.{Visit}
use Rattle.translate_term.specs.Sources.{with_task, works_left, IsOver}
use Rattle.translate_term.specs.Walks.{Grows, Given}
use Rattle.translate_term.proofs.terms.walked.Given as goal

abbrev pub invariant-loop-task : goal.invariant-loop-task
invariant-loop-task l =
    Grows l.fn.target l.target
    × ((given : Given) → IsOver given l.fn.root l.source l.fn.target (with_task (Visit l.fn.root) l.fn.walk) → IsOver given l.fn.root l.source l.target l.walk)

abbrev pub decreases-loop-task : goal.decreases-loop-task
decreases-loop-task l = works_left l.source l.walk
