use Rattle.hol_term.specs.Substitutions.{AreTermPairs}
use Rattle.hol_term_tests.proofs.bench.Bench.push_pairs.Given as goal

abbrev pub invariant-loop-letter : goal.invariant-loop-letter
invariant-loop-letter l = AreTermPairs l.self.table l.pairs.items
