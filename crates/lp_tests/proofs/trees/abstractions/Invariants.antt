use Rattle.std.proofs.Common.{◌<◌, ◌≤◌, length}
use Rattle.lp_tests.proofs.trees.abstractions.Given as goal

abbrev pub invariant-loop : goal.invariant-loop
invariant-loop l = (l.sort.0 < length l.table) × (l.id.0 < length l.table) × (length l.fn.table ≤ length l.table)
