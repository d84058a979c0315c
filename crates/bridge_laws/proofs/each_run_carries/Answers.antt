use Rattle.bridge_laws.specs.Headlines as law
use Rattle.bridge_laws.proofs.each_run_carries.Goals as goal

pub returns : goal.returns
returns c = law.each_run_carries
