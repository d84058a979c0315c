use Rattle.lp_fast_laws.specs.FastPrices as law
use Rattle.lp_fast_laws.proofs.one_check.Goals as goal

pub returns : goal.returns
returns c = law.one_check
