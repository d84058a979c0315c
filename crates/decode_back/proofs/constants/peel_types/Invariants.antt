use Rattle.std.proofs.Common.{◌≡◌, ◌+◌, ◌<◌, ◌≤◌, ℕ, length}
use Rattle.lp_spec.specs.Trees.{Tree}
use Rattle.lp_term.specs.Tables.{tree_at}
use Rattle.decode_spec.specs.Decode.{peel_types}
use Rattle.decode_back.proofs.PeelLemmas.{after}
use Rattle.decode_back.proofs.constants.peel_types.Given as goal

abbrev pub invariant-loop-domain : goal.invariant-loop-domain
invariant-loop-domain l = record {
  known : l.rest.0 < length l.table;
  few : l.count + l.rest.0 ≤ l.fn.id.0;
  goes : ◌≡◌ {A = ℕ × Tree} (peel_types (tree_at l.table l.fn.id.0)) (after l.count (peel_types (tree_at l.table l.rest.0)));
}

abbrev pub decreases-loop-domain : goal.decreases-loop-domain
decreases-loop-domain l = l.rest.0
