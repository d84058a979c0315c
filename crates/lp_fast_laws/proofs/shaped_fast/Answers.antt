use Rattle.lp_fast_laws.specs.FastPrices as law
use Rattle.lp_fast_laws.proofs.shaped_fast.Goals as goal

pub returns : goal.returns
returns c = law.shaped_fast
