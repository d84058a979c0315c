use Rattle.std.proofs.Common.{List, []}
use Rattle.translate_spec.specs.Items.{Item}
use Rattle.translate_reach.specs.Indexes.{IsIndex}
use Rattle.translate_reach.specs.Walks.{work, IsWalk, Wants}
use Rattle.translate_reach.proofs.walk.Walk.run.Given as goal

abbrev pub invariant-loop-task : goal.invariant-loop-task
invariant-loop-task l = (list : List Item) → IsIndex list l.index → IsWalk l.terms list l.fn.self → IsWalk l.terms list l.self × Wants l.terms list [] l.fn.self
    l.self

abbrev pub decreases-loop-task : goal.decreases-loop-task
decreases-loop-task l = work l.terms l.self.tasks
