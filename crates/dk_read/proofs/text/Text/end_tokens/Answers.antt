use Rattle.lp_term.specs.TableLaws.{Keeps-refl}
use Rattle.dk_read.proofs.text.Text.end_tokens.Goals as goal

pub returns-in-Nothing-clause-keeps : goal.returns-in-Nothing-clause-keeps
returns-in-Nothing-clause-keeps c = Keeps-refl c.args.self.now.parser.module.table
