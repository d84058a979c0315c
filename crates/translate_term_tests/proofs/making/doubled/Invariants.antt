use Rattle.translate_term_tests.specs.Plain.{HasPlainTree, KeepsPlain}
use Rattle.translate_term_tests.proofs.making.doubled.Given as goal

abbrev pub invariant-loop : goal.invariant-loop
invariant-loop l = HasPlainTree l.table l.g.0 × HasPlainTree l.table l.id.0 × KeepsPlain l.fn.table l.table
