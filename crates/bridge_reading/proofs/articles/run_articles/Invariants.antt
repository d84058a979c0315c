use Rattle.std.proofs.Common.{◌≡◌, ◌≤◌, take}
use Rattle.bridge_base.specs.Outside.{Begins}
use Rattle.bridge_spec.specs.Calls.{names_in}
use Rattle.bridge_reading.proofs.PassedArticles.{HavePassed}
use Rattle.bridge_reading.proofs.articles.run_articles.Given as goal

abbrev pub invariant-loop-file : goal.invariant-loop-file
invariant-loop-file g l = record {
  count : g.H.Shelf.faults l.fn.shelf ≤ g.H.Shelf.faults l.shelf;
  told : g.H.Shelf.told l.shelf ≡ g.H.Shelf.told l.fn.shelf;
  number : l.article ≡ l.file-index;
  begun : Begins (g.H.Shelf.begun l.fn.shelf) (take l.file-index (names_in l.files)) (g.H.Shelf.begun l.shelf);
  passed : HavePassed (g.H.Shelf.told l.fn.shelf) (take l.file-index (names_in l.files)) l.machine;
}
