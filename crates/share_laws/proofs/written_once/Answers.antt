use Rattle.share_laws.specs.WrittenOnceLaws as law
use Rattle.share_laws.proofs.written_once.Goals as goal

pub returns : goal.returns
returns c = law.written_once
