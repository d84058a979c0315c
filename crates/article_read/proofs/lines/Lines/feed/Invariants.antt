use Rattle.std.proofs.Common.{length}
use Rattle.article_read.proofs.Fed.{HasFed}
use Rattle.article_read.proofs.lines.Lines.feed.Given as goal

abbrev pub invariant-loop-line : goal.invariant-loop-line
invariant-loop-line l = HasFed l.fn.self l.self l.fn.piece l.rest l.fn.out.items l.out.items

abbrev pub decreases-loop-line : goal.decreases-loop-line
decreases-loop-line l = length l.rest
