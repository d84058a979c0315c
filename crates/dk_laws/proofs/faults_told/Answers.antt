use Rattle.dk_laws.specs.FaultLaws.{faults-told}
use Rattle.dk_laws.proofs.faults_told.Goals as goal

pub returns : goal.returns
returns c = faults-told
