use Rattle.std.proofs.Common.{◌-◌}
use Rattle.compose.specs.Listed.{IsBetween}
use Rattle.compose.proofs.listing.search.Given as goal

-- the set comes behind what is below, and before what is above
abbrev pub invariant-loop-low : goal.invariant-loop-low
invariant-loop-low l = record {
  between : IsBetween l.held l.list l.hyps l.low l.high;
}

abbrev pub decreases-loop-low : goal.decreases-loop-low
decreases-loop-low l = l.high - l.low
