use Rattle.lp_fast_laws.specs.FastPrices as law
use Rattle.lp_fast_laws.proofs.fast_passes.Goals as goal

pub returns : goal.returns
returns c = law.fast_passes
