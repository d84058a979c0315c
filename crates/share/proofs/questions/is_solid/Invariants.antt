use Rattle.std.proofs.Common.{◌≡◌, ◌<◌, length}
use Rattle.lp_term.specs.Tables.{tree_at}
use Rattle.share_spec.specs.Abbreviations.{is_solid}
use Rattle.share.proofs.questions.is_solid.Given as goal

abbrev pub invariant-loop-values : goal.invariant-loop-values
invariant-loop-values l = record {
  known : l.rest.0 < length l.table;
  same : is_solid (tree_at l.table l.rest.0) ≡ is_solid (tree_at l.table l.fn.id.0);
}

abbrev pub decreases-loop-values : goal.decreases-loop-values
decreases-loop-values l = l.rest.0
