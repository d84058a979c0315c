use Rattle.dk_laws.specs.ReadTrees as law
use Rattle.dk_laws.proofs.reads_long.Goals as goal

pub returns : goal.returns
returns c = law.reads_long
