use Rattle.std.specs.Prelude.{take}
use Rattle.hol_defs.proofs.OperatorLaws.{AreVariables}
use Rattle.hol_defs.proofs.operators.push_variables.Given as goal

abbrev pub invariant-loop-name : goal.invariant-loop-name
invariant-loop-name l = AreVariables l.fn.table l.table (take l.name-index l.names) l.ids.items
