use Rattle.image_reach_laws.specs.StandingRuns as law
use Rattle.image_reach_laws.proofs.runs_stand.Goals as goal

pub returns : goal.returns
returns c = law.runs_stand
