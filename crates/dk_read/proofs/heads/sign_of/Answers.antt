use Rattle.dk_read.proofs.Signs.{signs_piece}
use Rattle.dk_read.proofs.heads.sign_of.Goals as goal

pub returns : goal.returns
returns c = record { signs = signs_piece c.args.piece.now c.if-piece-lt2.false c.sign_by.result c.sign_by.ensures.signs }
