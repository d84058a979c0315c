use Rattle.std.proofs.Common.{sym, subst}
use Rattle.std.specs.Prelude.{IfOk}
use Rattle.lp_term.specs.Tables.{Keeps}
use Rattle.dk_read.specs.declared.text.Text.{Text}
use Rattle.dk_read.specs.States.{IsReading}
use Rattle.dk_read.specs.Sharing.{with_table}
use Rattle.dk_read.specs.Shared.{reading_over}
use Rattle.dk_read.proofs.Answered.{module_read, text_accepted}
use Rattle.dk_read.proofs.Sharings.{ended_shared}
use Rattle.dk_read.proofs.sharing.SharingReader.finish.Goals as goal

pub end-requires-clause-reading : goal.end-requires-clause-reading
end-requires-clause-reading c = subst (λ (t : Text). IsReading t.parser) (sym c.exchange.ensures.text) c.requires.going

pub returns-clause-ends : goal.returns-clause-ends
returns-clause-ends c = ended_shared (with_table c.args.self.text c.args.table) c.exchange.new.self c.end.result c.exchange.ensures.text c.end.ensures.ends

pub returns-clause-reads : goal.returns-clause-reads
returns-clause-reads c = module_read (reading_over c.args.self c.args.table) c.end.result
    (ended_shared (with_table c.args.self.text c.args.table) c.exchange.new.self c.end.result c.exchange.ensures.text c.end.ensures.ends)

pub returns-clause-accepts : goal.returns-clause-accepts
returns-clause-accepts c = text_accepted (reading_over c.args.self c.args.table) c.end.result
    (ended_shared (with_table c.args.self.text c.args.table) c.exchange.new.self c.end.result c.exchange.ensures.text c.end.ensures.ends)

pub returns-clause-keeps : goal.returns-clause-keeps
returns-clause-keeps c = subst (λ (t : Text). IfOk c.end.result (λ m. Keeps t.parser.module.table m.table)) c.exchange.ensures.text c.end.ensures.keeps
