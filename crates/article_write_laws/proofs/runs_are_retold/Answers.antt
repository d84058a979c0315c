use Rattle.article_write_laws.specs.RunsRetold.{runs_are_retold}
use Rattle.article_write_laws.proofs.runs_are_retold.Goals as goal

pub returns : goal.returns
returns c = runs_are_retold
