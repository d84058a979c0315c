use Rattle.article_write_laws.specs.CountedArticles.{lengths_are_counted}
use Rattle.article_write_laws.proofs.lengths_are_counted.Goals as goal

pub returns : goal.returns
returns c = lengths_are_counted
