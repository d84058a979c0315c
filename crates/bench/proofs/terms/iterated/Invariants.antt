use Rattle.hol_term.specs.Tables.{IsTermAt}
use Rattle.bench.specs.Carried.{KeepsTerms}
use Rattle.bench.proofs.terms.iterated.Given as goal

abbrev pub invariant-loop : goal.invariant-loop
invariant-loop l = IsTermAt l.table l.f.0 × IsTermAt l.table l.id.0 × KeepsTerms l.fn.table l.table
