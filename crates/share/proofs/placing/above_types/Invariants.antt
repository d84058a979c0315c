use Rattle.std.proofs.Common.{◌≤◌, ℕ, length, take}
use Rattle.share.specs.Listings.{AreListed}
use Rattle.share.proofs.placing.above_types.Given as goal

abbrev pub invariant-loop-i : goal.invariant-loop-i
invariant-loop-i l = record {
  more : l.top ≤ l.above;
  within : l.above ≤ length l.table;
  listed : (count bodies types : ℕ) → AreListed count bodies types l.entries → AreListed count bodies l.above (take l.i l.entries);
}
