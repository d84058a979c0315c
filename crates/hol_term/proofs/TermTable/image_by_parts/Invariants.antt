use Rattle.hol_term.specs.Substituting.{image_at, IsSubstituting, steps}
use Rattle.hol_term.proofs.TermTable.image_by_parts.Given as goal

abbrev pub invariant-loop-task : goal.invariant-loop-task
invariant-loop-task l = IsSubstituting l.fn.self (image_at l.fn.self l.putting.types.now l.putting.terms.now l.fn.id) l.self l.putting.types.now
    l.putting.terms.now l.walk.tasks l.walk.made l.walk.images

abbrev pub decreases-loop-task : goal.decreases-loop-task
decreases-loop-task l = steps l.fn.self l.walk.tasks
