use Rattle.dk_laws.specs.ReadingLaws as law
use Rattle.dk_laws.proofs.one_answer.Goals as goal

pub returns : goal.returns
returns c = law.one_answer
