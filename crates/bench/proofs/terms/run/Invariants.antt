use Rattle.hol_term.specs.Tables.{IsTermAt}
use Rattle.bench.specs.Carried.{AreTerms}
use Rattle.bench.proofs.terms.run.Given as goal

abbrev pub invariant-loop-number : goal.invariant-loop-number
invariant-loop-number l = AreTerms l.table l.shared × IsTermAt l.table l.last.0
