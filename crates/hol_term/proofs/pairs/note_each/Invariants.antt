use Rattle.std.proofs.Common.{◌≡◌, ◌≤◌, ◌++◌, length}
use Rattle.std.specs.Map.{lookup}
use Rattle.hol_term.specs.declared.Variable.{Variable}
use Rattle.hol_term.specs.PutIndexes.{same_variable}
use Rattle.hol_term.proofs.pairs.note_each.Given as goal

-- the pairs that are left, and then those that were noted, tell what all tell
abbrev pub invariant-loop-rest : goal.invariant-loop-rest
invariant-loop-rest l = (length l.rest ≤ length l.pairs) × ((v : Variable) → lookup (same_variable v) (l.rest ++ l.firsts) ≡ lookup (same_variable v) l.pairs)

abbrev pub decreases-loop-rest : goal.decreases-loop-rest
decreases-loop-rest l = length l.rest
