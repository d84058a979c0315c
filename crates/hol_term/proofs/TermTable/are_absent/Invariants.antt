use Rattle.std.specs.Prelude.{drop}
use Rattle.hol_term.specs.Masks.{AreAbsent}
use Rattle.hol_term.specs.Substitutions.{term_pairs_at, AreTermPairsKnown}
use Rattle.hol_term.specs.Tables.{term_at}
use Rattle.hol_term.proofs.TermTable.are_absent.Given as goal

-- where it is so of the pairs that are left, it is so of all
abbrev pub invariant-loop-variable : goal.invariant-loop-variable
invariant-loop-variable l =
    AreTermPairsKnown l.self (drop l.variable-index l.pairs)
    × (AreAbsent (term_pairs_at l.self (drop l.variable-index l.pairs)) (term_at l.self l.id.0)
    → AreAbsent (term_pairs_at l.self l.pairs) (term_at l.self l.id.0))
