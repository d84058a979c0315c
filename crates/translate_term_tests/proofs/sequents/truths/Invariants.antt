use Rattle.std.proofs.Common.{◌≡◌, map}
use Rattle.std.specs.Prelude.{replicate}
use Rattle.sequent.specs.Closed.{closed_type_view}
use Rattle.translate_term_tests.specs.Sequents.{closed_bool}
use Rattle.translate_term_tests.proofs.sequents.truths.Given as goal

abbrev pub invariant-loop-place : goal.invariant-loop-place
invariant-loop-place l = map closed_type_view l.types.items ≡ replicate l.place closed_bool
