use Rattle.lp_reduction_laws.proofs.Confluence as law
use Rattle.lp_reduction_laws.proofs.confluent.Goals as goal

pub returns : goal.returns
returns c = law.confluent
