use Rattle.lp_term.specs.TableLaws.{Keeps-refl}
use Rattle.dk_read.proofs.text.Text.wait.Goals as goal

pub returns-clause-keeps : goal.returns-clause-keeps
returns-clause-keeps c = Keeps-refl c.args.self.now.parser.module.table
