use Rattle.lp_term.specs.TableLaws.{Keeps-trans}
use Rattle.bench.proofs.writing.deeper.Goals as goal

pub returns-clause-keeps : goal.returns-clause-keeps
returns-clause-keeps c = Keeps-trans (Keeps-trans c.node.ensures.keeps c.node-2.ensures.keeps) (Keeps-trans c.node-3.ensures.keeps c.node-4.ensures.keeps)
