use Rattle.share_laws.specs.FoldedTexts.{folded-ReadsBack}
use Rattle.share_laws.proofs.folded_reads_back.Goals as goal

pub returns : goal.returns
returns c = folded-ReadsBack
