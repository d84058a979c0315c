use Rattle.bridge_laws.specs.ArticleHeadlines as law
use Rattle.bridge_laws.proofs.each_run_is_retold.Goals as goal

pub returns : goal.returns
returns c = law.each_run_is_retold
