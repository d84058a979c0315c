use Rattle.lp_weight.specs.Measures.{place_occurrences}
use Rattle.lp_weight.proofs.weighing.Weights.count.Goals as goal

pub measured-requires-clause-idle : goal.measured-requires-clause-idle
measured-requires-clause-idle c = c.trim.ensures (place_occurrences c.args.base.now) c.requires.weights.walk
