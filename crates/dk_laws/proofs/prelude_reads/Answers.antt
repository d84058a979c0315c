use Rattle.dk_laws.specs.PreludeLaws as law
use Rattle.dk_laws.proofs.prelude_reads.Goals as goal

pub returns : goal.returns
returns c = law.prelude_reads
