use Rattle.lp_term.specs.Tables.{tree_at}
use Rattle.hol_term.specs.Tables.{Keeps}
use Rattle.holide_sig.specs.Modules.{declarations_of}
use Rattle.decode_spec.specs.Decode.{type_of_tree}
use Rattle.decode_back.specs.Walks.{at_place}
use Rattle.decode_back.specs.TypeTasks.{IsTypeWalk, type_work}
use Rattle.decode_back.proofs.types.decode_type.Given as goal

abbrev pub invariant-loop-task : goal.invariant-loop-task
invariant-loop-task l = record {
  keeps : Keeps l.fn.table l.table;
  walk : IsTypeWalk (declarations_of l.source) (at_place l.place) l.source.table l.level
      (type_of_tree (declarations_of l.source) (at_place l.place) (tree_at l.source.table l.fn.id.0)) l.table l.walk.tasks l.walk.made;
}

abbrev pub decreases-loop-task : goal.decreases-loop-task
decreases-loop-task l = type_work l.source.table l.walk.tasks
