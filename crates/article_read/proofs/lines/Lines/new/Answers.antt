use Rattle.article_read.specs.Reading.{IsFed-fresh}
use Rattle.article_read.proofs.lines.Lines.new.Goals as goal

pub returns-clause-fed : goal.returns-clause-fed
returns-clause-fed c = rw (c.new.ensures.items) IsFed-fresh
