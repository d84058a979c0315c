use Rattle.std.proofs.Common.{length}
use Rattle.share.proofs.CountLaws.{IsPassing}
use Rattle.share.proofs.places.hand_down.Given as goal

abbrev pub invariant-loop-left : goal.invariant-loop-left
invariant-loop-left l = IsPassing l.table (length l.fn.counts) l.left l.fn.counts l.counts

abbrev pub decreases-loop-left : goal.decreases-loop-left
decreases-loop-left l = l.left
