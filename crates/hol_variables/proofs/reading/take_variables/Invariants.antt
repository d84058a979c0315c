use Rattle.std.specs.Prelude.{drop}
use Rattle.hol_variables.proofs.Taken.{AreTaking}
use Rattle.hol_variables.proofs.reading.take_variables.Given as goal

abbrev pub invariant-loop-n : goal.invariant-loop-n
invariant-loop-n l = AreTaking l.terms l.fn.variables l.variables l.numbers (drop l.n-index l.numbers)
