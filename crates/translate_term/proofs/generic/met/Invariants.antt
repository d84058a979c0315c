use Rattle.std.specs.Prelude.{◌∷◌, ℕ}
use Rattle.lp_spec.specs.Trees.{Tree}
use Rattle.translate_term.specs.Patterns.{IsMatching, work}
use Rattle.translate_term.proofs.generic.met.Given as goal

abbrev pub invariant-loop-next : goal.invariant-loop-next
invariant-loop-next l = (want : ℕ → Tree) (root : Tree) → IsMatching want root l.trees (l.fn.task ∷ l.fn.tasks) l.fn.found → IsMatching want root l.trees
    l.tasks l.found

abbrev pub decreases-loop-next : goal.decreases-loop-next
decreases-loop-next l = work l.trees l.tasks
