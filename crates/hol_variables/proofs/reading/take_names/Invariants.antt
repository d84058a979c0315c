use Rattle.std.specs.Prelude.{drop}
use Rattle.hol_variables.proofs.Taken.{AreNaming}
use Rattle.hol_variables.proofs.reading.take_names.Given as goal

abbrev pub invariant-loop-n : goal.invariant-loop-n
invariant-loop-n l = AreNaming l.types l.fn.names l.names l.numbers (drop l.n-index l.numbers)
