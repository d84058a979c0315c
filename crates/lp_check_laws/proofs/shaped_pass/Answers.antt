use Rattle.lp_check_laws.specs.ShapedPasses as law
use Rattle.lp_check_laws.proofs.shaped_pass.Goals as goal

pub returns : goal.returns
returns c = law.shaped-passes
