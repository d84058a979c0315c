use Rattle.std.proofs.Common.{◌≡◌, ◌<◌, length}
use Rattle.lp_term.specs.Tables.{tree_at}
use Rattle.share.specs.Typings.{entry}
use Rattle.share.proofs.typing.entry.Given as goal

abbrev pub invariant-loop-ty : goal.invariant-loop-ty
invariant-loop-ty l = record {
  known : l.rest.0 < length l.table;
  entry : entry (tree_at l.table l.rest.0) l.left ≡ entry (tree_at l.table l.fn.context.0) l.fn.variable;
}

abbrev pub decreases-loop-ty : goal.decreases-loop-ty
decreases-loop-ty l = l.rest.0
