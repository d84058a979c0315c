use Rattle.translate_term_tests.proofs.SequentLaws.{parameters_next}
use Rattle.translate_term_tests.proofs.sequents.parameters.Goals as goal

pub loop-place-preserved : goal.loop-place-preserved
loop-place-preserved c = parameters_next _ _ _ _ c.in_ok-push.ensures.items c.in_ok-parameter_of.ensures c.loop-place.invariant
