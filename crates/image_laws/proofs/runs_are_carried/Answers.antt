use Rattle.image_laws.specs.AcceptedRuns as law
use Rattle.image_laws.proofs.runs_are_carried.Goals as goal

pub returns : goal.returns
returns c = law.runs_are_carried
