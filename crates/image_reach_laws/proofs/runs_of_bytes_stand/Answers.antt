use Rattle.image_reach_laws.specs.NamedRuns as law
use Rattle.image_reach_laws.proofs.runs_of_bytes_stand.Goals as goal

pub returns : goal.returns
returns c = law.runs_of_bytes_stand
