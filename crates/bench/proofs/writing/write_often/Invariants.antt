use Rattle.std.proofs.Common.{◌≡◌}
use Rattle.bench.proofs.writing.write_often.Given as goal

abbrev pub invariant-loop : goal.invariant-loop
invariant-loop g l = l.path.room ≡ l.fn.path.room
