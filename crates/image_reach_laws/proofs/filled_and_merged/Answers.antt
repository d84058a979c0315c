use Rattle.image_reach_laws.specs.CountedModules as law
use Rattle.image_reach_laws.proofs.filled_and_merged.Goals as goal

pub returns : goal.returns
returns c = law.filled_and_merged
