use Rattle.std.proofs.Common.{◌≡◌, ◌<◌, List, length}
use Rattle.lp_spec.specs.Trees.{Tree}
use Rattle.lp_term.specs.Tables as lp
use Rattle.lp_term.specs.Tables.{tree_at, trees_at}
use Rattle.decode_spec.specs.Decode.{peel}
use Rattle.decode_back.proofs.PeelLemmas.{behind_parts}
use Rattle.decode_back.proofs.products.peel.Given as goal

abbrev pub invariant-loop-domain : goal.invariant-loop-domain
invariant-loop-domain l = record {
  known : l.rest.0 < length l.table;
  parts : lp.AreKnown l.table l.parts.items;
  goes : ◌≡◌ {A = List Tree × Tree} (peel l.symbol (tree_at l.table l.fn.id.0))
      (behind_parts (trees_at l.table l.parts.items) (peel l.symbol (tree_at l.table l.rest.0)));
}

abbrev pub decreases-loop-domain : goal.decreases-loop-domain
decreases-loop-domain l = l.rest.0
