use Rattle.std.specs.Prelude.{drop}
use Rattle.hol_variables.specs.Variables.{variable_view}
use Rattle.hol_variables.proofs.Walked.{AreLooked}
use Rattle.hol_variables.proofs.walking.is_walked.Given as goal

abbrev pub invariant-loop-own : goal.invariant-loop-own
invariant-loop-own l = AreLooked l.terms (variable_view l.terms l.variable) l.own-items (drop l.own-index l.own-items)
