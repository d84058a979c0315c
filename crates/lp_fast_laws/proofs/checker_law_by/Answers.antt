use Rattle.lp_fast_laws.specs.FastModules as law
use Rattle.lp_fast_laws.proofs.checker_law_by.Goals as goal

pub returns : goal.returns
returns c = law.checker_law_by
