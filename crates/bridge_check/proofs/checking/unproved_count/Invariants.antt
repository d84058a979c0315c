use Rattle.std.proofs.Common.{◌≡◌}
use Rattle.bridge_check.proofs.Counts.{unproved_before}
use Rattle.bridge_check.proofs.checking.unproved_count.Given as goal

abbrev pub invariant-loop-i : goal.invariant-loop-i
invariant-loop-i l = l.count ≡ unproved_before l.i l.source
