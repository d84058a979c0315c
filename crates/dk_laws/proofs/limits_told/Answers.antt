use Rattle.dk_laws.specs.FaultLimits as law
use Rattle.dk_laws.proofs.limits_told.Goals as goal

pub returns : goal.returns
returns c = law.limits-told
