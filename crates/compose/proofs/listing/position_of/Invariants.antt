use Rattle.std.proofs.Common.{◌≡◌, ◌<◌, ℕ}
use Rattle.compose.specs.Listed.{place_at}
use Rattle.compose.proofs.listing.position_of.Given as goal

-- it doesn't stand before here
abbrev pub invariant-loop-i : goal.invariant-loop-i
invariant-loop-i l = record {
  none : (j : ℕ) → j < l.i → place_at l.list j ≡ l.place → ⊥;
}
