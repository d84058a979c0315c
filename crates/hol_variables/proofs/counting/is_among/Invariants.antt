use Rattle.std.specs.Prelude.{drop}
use Rattle.hol_variables.specs.Variables.{variable_view}
use Rattle.hol_variables.proofs.Found.{IsSearching}
use Rattle.hol_variables.proofs.counting.is_among.Given as goal

abbrev pub invariant-loop-n : goal.invariant-loop-n
invariant-loop-n l = IsSearching l.terms (variable_view l.terms l.variable) l.numbers (drop l.n-index l.numbers)
