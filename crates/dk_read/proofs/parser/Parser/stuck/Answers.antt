use Rattle.dk_read.proofs.Meanings.{stuck_after}
use Rattle.dk_read.proofs.parser.Parser.stuck.Goals as goal

pub returns-in-Err : goal.returns-in-Err
returns-in-Err c = stuck_after c.args.self.now c.meaning.new.self c.in-AfterFirst.first c.args.place c.in-AfterFirst.name c.in-Err.stop c.in-AfterFirst.is
    c.in-Err.ensures.means
