use Rattle.std.proofs.Common.{take}
use Rattle.std.specs.List.{flat_map}
use Rattle.article_read.specs.Reading.{Feeds, fresh}
use Rattle.article_read.proofs.lines.read_all.Given as goal

abbrev pub invariant-loop-piece : goal.invariant-loop-piece
invariant-loop-piece l = Feeds fresh (flat_map (λ piece. piece.items) (take l.piece-index l.pieces)) l.fn.out.items l.out.items l.lines
