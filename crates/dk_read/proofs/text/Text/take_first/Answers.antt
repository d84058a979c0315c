use Rattle.dk_read.proofs.Runs.{first_stops}
use Rattle.dk_read.proofs.text.Text.take_first.Goals as goal

pub returns-in-Err : goal.returns-in-Err
returns-in-Err c = record { takes = first_stops c.args.self.now c.take.new.self c.args.piece.now c.in-Err.stop c.requires.some c.in-Err.ensures.takes }
