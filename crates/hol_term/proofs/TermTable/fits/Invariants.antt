use Rattle.std.specs.Prelude.{drop}
use Rattle.hol_term.proofs.PutFor.{IsFitting}
use Rattle.hol_term.proofs.TermTable.fits.Given as goal

abbrev pub invariant-loop-variable : goal.invariant-loop-variable
invariant-loop-variable l = IsFitting l.self l.pairs (drop l.variable-index l.pairs)
