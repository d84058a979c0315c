use Rattle.std.proofs.Common.{◌≡◌, length}
use Rattle.share.proofs.CountLaws.{CountedTo}
use Rattle.share.proofs.places.count_places.Given as goal

abbrev pub invariant-loop-i : goal.invariant-loop-i
invariant-loop-i l = record {
  length : length l.counts ≡ length l.fn.counts;
  counted : CountedTo l.source.table l.source.decls l.first l.i l.counts;
}
