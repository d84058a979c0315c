use Rattle.std.proofs.Common.{◌≡◌, ◌≤◌, ◌+◌, ◌-◌, length}
use Rattle.article_spec.specs.Lines.{max_article}
use Rattle.bridge_reading.proofs.Readings.{IsRead}
use Rattle.bridge_reading.proofs.reading.read_lines.Given as goal

abbrev pub invariant-loop-count : goal.invariant-loop-count
invariant-loop-count g l = record {
  count : g.H.Shelf.faults l.fn.shelf ≤ g.H.Shelf.faults l.shelf;
  told : g.H.Shelf.told l.shelf ≡ g.H.Shelf.told l.fn.shelf;
  begun : g.H.Shelf.begun l.shelf ≡ g.H.Shelf.begun l.fn.shelf;
  within : l.lines.offset + length l.lines.rest ≤ max_article;
  read : IsRead (g.H.Shelf.left l.fn.shelf) (g.H.Shelf.left l.shelf) l.fn.machine l.machine l.lines;
}

abbrev pub decreases-loop-count : goal.decreases-loop-count
decreases-loop-count g l = max_article - (l.lines.offset + length l.lines.rest)
