use Rattle.lp_reduction_laws.proofs.SubjectReduction as law
use Rattle.lp_reduction_laws.proofs.kept.Goals as goal

pub returns : goal.returns
returns c = law.kept
