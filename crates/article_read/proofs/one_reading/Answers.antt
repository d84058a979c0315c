use Rattle.article_laws.specs.ReadingLaws as laws
use Rattle.article_read.proofs.one_reading.Goals as goal

pub returns : goal.returns
returns c = laws.one_reading
