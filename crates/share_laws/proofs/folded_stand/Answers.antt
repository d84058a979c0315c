use Rattle.share_laws.specs.FoldedStandsLaws.{folded-FoldedStands}
use Rattle.share_laws.proofs.folded_stand.Goals as goal

pub returns : goal.returns
returns c = folded-FoldedStands
