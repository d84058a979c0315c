use Rattle.dk_read.proofs.Kept.{kept_on}
use Rattle.dk_read.proofs.text.Text.end_token.Goals as goal

pub returns-clause-keeps : goal.returns-clause-keeps
returns-clause-keeps c = kept_on c.wait.result c.wait.new.self.parser.module.table c.in_ok-advance.ensures.keeps c.wait.ensures.keeps
