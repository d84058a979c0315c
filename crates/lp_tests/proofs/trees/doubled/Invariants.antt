use Rattle.std.proofs.Common.{◌<◌, ◌≤◌, length}
use Rattle.lp_tests.proofs.trees.doubled.Given as goal

abbrev pub invariant-loop : goal.invariant-loop
invariant-loop l = (l.id.0 < length l.table) × (length l.fn.table ≤ length l.table)
