use Rattle.translate_term_tests.proofs.wanted.+same.Given as goal

abbrev pub decreases-same : goal.decreases-same
decreases-same l = l.id.0
