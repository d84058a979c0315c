use Rattle.image_bound_laws.specs.SmallRuns as law
use Rattle.image_bound_laws.proofs.runs_are_bounded.Goals as goal

pub returns : goal.returns
returns c = law.runs_are_bounded
