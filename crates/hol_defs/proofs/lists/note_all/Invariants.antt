use Rattle.std.proofs.Common.{◌≡◌}
use Rattle.std.specs.Map.{lookup}
use Rattle.hol_term.specs.declared.Variable.{Variable}
use Rattle.hol_defs.specs.Lists.{same_variable, term_of}
use Rattle.hol_defs.proofs.lists.note_all.Given as goal

abbrev pub invariant-loop-equation : goal.invariant-loop-equation
invariant-loop-equation l = (v : Variable) → lookup (same_variable v) l.found ≡ term_of l.yielded v
