use Rattle.article_laws.specs.RunLaws.{refusals_stay}
use Rattle.article_laws.proofs.refusals_stay.Goals as goal

pub returns : goal.returns
returns c = refusals_stay
