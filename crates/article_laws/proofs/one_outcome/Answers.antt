use Rattle.article_laws.specs.RunLaws.{one_outcome}
use Rattle.article_laws.proofs.one_outcome.Goals as goal

pub returns : goal.returns
returns c = one_outcome
