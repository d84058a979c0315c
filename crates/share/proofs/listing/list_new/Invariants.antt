use Rattle.std.proofs.Common.{◌≡◌, ◌++◌, List, length, drop}
use Rattle.lp_spec.specs.Trees.{Tree}
use Rattle.lp_term.specs.Tables.{trees_at, Keeps}
use Rattle.holide_sig.specs.Modules.{declarations_of}
use Rattle.share.specs.Counts.{Agrees}
use Rattle.share.specs.Listings.{counted, entries_in, shared_in, IsListing}
use Rattle.share.proofs.listing.list_new.Given as goal

abbrev pub invariant-loop-i : goal.invariant-loop-i
invariant-loop-i l = record {
  decls : l.source.decls ≡ l.fn.source.decls;
  keeps : Keeps l.fn.source.table l.source.table;
  listing : IsListing l.source (length l.counts) l.listing;
  more : (all : List Tree) → Agrees l.fn.source.table l.counts (counted all)
      → entries_in (declarations_of l.fn.source) l.source.table l.listing.entries.items
      ++ shared_in (declarations_of l.fn.source) all (trees_at l.fn.source.table (drop l.i l.order))
      ≡ entries_in (declarations_of l.fn.source) l.fn.source.table l.fn.listing.entries.items
      ++ shared_in (declarations_of l.fn.source) all (trees_at l.fn.source.table (drop l.from l.order));
}
