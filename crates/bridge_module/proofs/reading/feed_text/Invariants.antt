use Rattle.std.proofs.Common.{◌≡◌, ◌≤◌}
use Rattle.bridge_module.proofs.Readings.{IsReading, room}
use Rattle.bridge_module.proofs.reading.feed_text.Given as goal

abbrev pub invariant-loop-count : goal.invariant-loop-count
invariant-loop-count g l = record {
  count : g.H.Shelf.faults l.fn.shelf ≤ g.H.Shelf.faults l.shelf;
  told : g.H.Shelf.told l.shelf ≡ g.H.Shelf.told l.fn.shelf;
  begun : g.H.Shelf.begun l.shelf ≡ g.H.Shelf.begun l.fn.shelf;
  read : IsReading (g.H.Shelf.left l.fn.shelf) (g.H.Shelf.left l.shelf) l.reader;
}

abbrev pub decreases-loop-count : goal.decreases-loop-count
decreases-loop-count g l = room l.reader
