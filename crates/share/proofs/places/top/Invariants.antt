use Rattle.std.proofs.Common.{◌≤◌, length}
use Rattle.share.proofs.CountLaws.{FirstBelow}
use Rattle.share.proofs.places.top.Given as goal

abbrev pub invariant-loop-i : goal.invariant-loop-i
invariant-loop-i l = record {
  within : l.top ≤ length l.source.table;
  below : FirstBelow l.i l.top l.source.decls;
}
