use Rattle.std.proofs.Common.{◌<◌, length}
use Rattle.lp_spec.specs.Modules.{signature}
use Rattle.lp_spec.specs.ModuleOrder.{IsOver}
use Rattle.lp_term.specs.Tables.{tree_at, Keeps}
use Rattle.bench.proofs.writing.nest.Given as goal

abbrev pub invariant-loop : goal.invariant-loop
invariant-loop l = record {
  known : l.tree.0 < length l.table;
  over : IsOver (length signature) (tree_at l.table l.tree.0);
  keeps : Keeps l.fn.table l.table;
}
