use Rattle.image_laws.specs.FaithfulRuns as law
use Rattle.image_laws.proofs.runs_are_faithful.Goals as goal

pub returns : goal.returns
returns c = law.runs_are_faithful
