use Rattle.std.proofs.Common.{◌≡◌, ℕ, ◌≤◌, List, length, map, take}
use Rattle.lp_spec.specs.Trees.{Tree}
use Rattle.lp_spec.specs.Modules.{Declaration}
use Rattle.share_spec.specs.Folded.{kept}
use Rattle.share.specs.Listings.{entries_in, AreListed}
use Rattle.share.proofs.listing.list_kept.Given as goal

abbrev pub invariant-loop-i : goal.invariant-loop-i
invariant-loop-i l = record {
  listed : (m : List Declaration) (trees : List Tree) → l.i ≤ length m → entries_in m trees l.entries.items ≡ map kept (take l.i m);
  known : (n bodies types : ℕ) → l.i ≤ n → AreListed n bodies types l.entries.items;
}
