use Rattle.dk_laws.specs.WrittenModules as law
use Rattle.dk_laws.proofs.written_reads.Goals as goal

pub returns : goal.returns
returns c = law.written_reads
