use Rattle.std.proofs.Common.{◌≡◌}
use Rattle.std.specs.Prelude.{drop}
use Rattle.std.specs.Map.{lookup}
use Rattle.hol_term.specs.PutIndexes.{same_variable}
use Rattle.hol_term.proofs.pairs.put_for.Given as goal

-- what is left of the pairs tells what all tell
abbrev pub invariant-loop-of : goal.invariant-loop-of
invariant-loop-of l = lookup (same_variable l.variable) (drop l.of-index l.pairs) ≡ lookup (same_variable l.variable) l.pairs
