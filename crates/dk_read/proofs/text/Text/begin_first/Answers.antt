use Rattle.dk_read.proofs.Runs.{begin_stops}
use Rattle.dk_read.proofs.text.Text.begin_first.Goals as goal

pub returns-in-Err : goal.returns-in-Err
returns-in-Err c = record {
  takes =
      begin_stops c.args.self.now c.begin.new.self c.args.piece.now c.in-Err.stop c.requires.pending c.requires.some c.in-Err.ensures.takes;
}
