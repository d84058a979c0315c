use Rattle.lp_check_laws.specs.CheckerLaw as law
use Rattle.lp_check_laws.proofs.checker_law.Goals as goal

pub returns : goal.returns
returns c = law.checker_law
