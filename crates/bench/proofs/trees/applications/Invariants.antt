use Rattle.std.proofs.Common.{◌<◌, length}
use Rattle.bench.proofs.trees.applications.Given as goal

abbrev pub invariant-loop : goal.invariant-loop
invariant-loop l = (l.sort.0 < length l.table) × (l.id.0 < length l.table)
