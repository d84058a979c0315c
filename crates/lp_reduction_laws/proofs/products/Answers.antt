use Rattle.lp_reduction_laws.proofs.InjectiveProducts as law
use Rattle.lp_reduction_laws.proofs.products.Goals as goal

pub returns : goal.returns
returns c = law.products
