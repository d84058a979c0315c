use Rattle.std.proofs.Common.{◌≡◌, ◌<◌, length}
use Rattle.lp_spec.specs.Modules.{applied}
use Rattle.lp_term.specs.Tables.{tree_at, trees_at, AreKnown}
use Rattle.decode_back.proofs.terms.spine.Given as goal

abbrev pub invariant-loop-function : goal.invariant-loop-function
invariant-loop-function l = record {
  known : l.head.0 < length l.table;
  args : AreKnown l.table l.args;
  spine : applied (tree_at l.table l.head.0) (trees_at l.table l.args) ≡ applied (tree_at l.table l.fn.id.0) (trees_at l.table l.fn.args);
}

abbrev pub decreases-loop-function : goal.decreases-loop-function
decreases-loop-function l = l.head.0
