use Rattle.std.proofs.Common.{◌≡◌}
use Rattle.std.specs.Prelude.{nat_eq}
use Rattle.indexmap.specs.IndexMap.{get}
use Rattle.lp_term.specs.Tables.{Keeps}
use Rattle.share.specs.Asking.{IsAsking}
use Rattle.share.proofs.questions.ask.Given as goal

abbrev pub invariant-loop-step : goal.invariant-loop-step
invariant-loop-step l = record {
  decls : l.source.decls ≡ l.fn.source.decls;
  keeps : Keeps l.fn.source.table l.source.table;
  asking : IsAsking l.source (get nat_eq l.answers) l.waiting;
}
