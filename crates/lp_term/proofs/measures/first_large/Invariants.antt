use Rattle.std.proofs.Common.{◌≤◌, length}
use Rattle.std.specs.Prelude.{◌-◌}
use Rattle.lp_term.proofs.measures.first_large.Given as goal

abbrev pub invariant-loop-entry : goal.invariant-loop-entry
invariant-loop-entry l = l.fn.from ≤ l.at

abbrev pub decreases-loop-entry : goal.decreases-loop-entry
decreases-loop-entry l = length l.fn.entries - l.at
