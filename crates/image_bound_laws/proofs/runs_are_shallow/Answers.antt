use Rattle.image_bound_laws.specs.ShallowRuns as law
use Rattle.image_bound_laws.proofs.runs_are_shallow.Goals as goal

pub returns : goal.returns
returns c = law.runs_are_shallow
