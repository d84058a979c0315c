use Rattle.std.proofs.Common.{◌≡◌, map}
use Rattle.sequent.specs.Closed.{closed_term_view}
use Rattle.translate_term_tests.specs.Sequents.{parameters}
use Rattle.translate_term_tests.proofs.sequents.parameters.Given as goal

abbrev pub invariant-loop-place : goal.invariant-loop-place
invariant-loop-place l = map closed_term_view l.terms.items ≡ parameters l.place
