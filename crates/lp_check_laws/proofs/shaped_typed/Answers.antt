use Rattle.lp_check_laws.specs.ShapedPasses as law
use Rattle.lp_check_laws.proofs.shaped_typed.Goals as goal

pub returns : goal.returns
returns c = law.shaped-WellTyped
