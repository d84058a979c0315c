use Rattle.std.proofs.Common.{◌≡◌, ◌≤◌, ◌∷◌, length}
use Rattle.hol_type.specs.declared.visits.Task.TheVariants.{Join}
use Rattle.hol_type.specs.Walks.{visits}
use Rattle.hol_type.proofs.visits.set_out.Given as goal

abbrev pub invariant-loop-rest : goal.invariant-loop-rest
invariant-loop-rest l = (visits l.rest l.tasks ≡ visits l.fn.args (Join l.fn.id ∷ l.fn.tasks)) × (length l.rest ≤ length l.fn.args)

abbrev pub decreases-loop-rest : goal.decreases-loop-rest
decreases-loop-rest l = length l.rest
