use Rattle.dk_read.proofs.Answered.{piece_judged, piece_unlimited}
use Rattle.dk_read.proofs.reader.Reader.feed.Goals as goal

pub returns-clause-judges : goal.returns-clause-judges
returns-clause-judges c = piece_judged c.args.self.now c.take.new.self c.args.piece.now c.take.result c.take.ensures.limit c.take.ensures.feeds
    c.take.ensures.answer

pub returns-clause-free : goal.returns-clause-free
returns-clause-free c = piece_unlimited c.args.self.now c.args.piece.now c.take.result
    (piece_judged c.args.self.now c.take.new.self c.args.piece.now c.take.result c.take.ensures.limit c.take.ensures.feeds c.take.ensures.answer)
