use Rattle.std.proofs.Common.{◌≡◌, ◌≤◌, ◌∷◌, length}
use Rattle.translate_term.specs.declared.tasks.Task.TheVariants.{Join}
use Rattle.translate_term.specs.Tasks.{visits}
use Rattle.translate_term.proofs.tasks.set_out.Given as goal

abbrev pub invariant-loop-rest : goal.invariant-loop-rest
invariant-loop-rest l = (visits l.rest l.tasks ≡ visits l.fn.args (Join l.fn.id ∷ l.fn.tasks)) × (length l.rest ≤ length l.fn.args)

abbrev pub decreases-loop-rest : goal.decreases-loop-rest
decreases-loop-rest l = length l.rest
