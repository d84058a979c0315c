use Rattle.std.proofs.Common.{ap}
use Rattle.lp_term.specs.TableLaws.{Keeps-trans}
use Rattle.holide_sig.specs.declared.module.Module.{Module}
use Rattle.dk_read.proofs.Kept.{kept_on, kept_same}
use Rattle.dk_read.proofs.parser.Parser.close.Goals as goal

pub returns-in-Some-clause-keeps : goal.returns-in-Some-clause-keeps
returns-in-Some-clause-keeps c =
    kept_on c.argue.result c.argue.new.self.module.table
    (Keeps-trans c.in_ok-tree.ensures.keeps (kept_same (ap (λ (m : Module). m.table) c.last_enclosing.ensures.same.0))) c.argue.ensures.keeps
