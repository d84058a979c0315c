use Rattle.dk_read.proofs.Ended.{stays_so}
use Rattle.dk_read.proofs.stage.Stage.read.Goals as goal

pub returns-in-Stopped-clause-comes : goal.returns-in-Stopped-clause-comes
returns-in-Stopped-clause-comes c = stays_so c.args.self.now _ c.args.piece.now c.in-Stopped.is
