use Rattle.std.specs.Prelude.{drop}
use Rattle.hol_type.proofs.MeasureLaws.{IsMeasuring}
use Rattle.hol_type.proofs.table.TypeTable.measures.Given as goal

abbrev pub invariant-loop-arg : goal.invariant-loop-arg
invariant-loop-arg l = IsMeasuring l.self l.args (drop l.arg-index l.args) l.size l.depth
