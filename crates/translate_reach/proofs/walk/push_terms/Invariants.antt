use Rattle.std.proofs.Common.{◌≡◌, ◌≤◌, length}
use Rattle.translate_reach.specs.Walks.{with_terms}
use Rattle.translate_reach.proofs.walk.push_terms.Given as goal

abbrev pub invariant-loop-rest : goal.invariant-loop-rest
invariant-loop-rest l = (with_terms l.rest l.tasks ≡ with_terms l.fn.ids l.fn.tasks) × (length l.rest ≤ length l.fn.ids)

abbrev pub decreases-loop-rest : goal.decreases-loop-rest
decreases-loop-rest l = length l.rest
