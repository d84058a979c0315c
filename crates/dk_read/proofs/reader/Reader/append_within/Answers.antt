use Rattle.std.proofs.Common.{sym, subst, length, arith}
use Rattle.dk_read.specs.Readers.{HasRoom, place_of}
use Rattle.dk_read.proofs.reader.Reader.append_within.Goals as goal

pub read-requires-clause-room : goal.read-requires-clause-room
read-requires-clause-room c = subst (λ l. HasRoom l (place_of c.args.self.now.progress) (length c.args.piece.now)) (sym c.requires.limit)
    (omega (arith, c.if-piece-room.true, c.saturating_sub-room.ensures, c.place.ensures))
