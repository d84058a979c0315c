use Rattle.std.proofs.Common.{◌≤◌, List}
use Rattle.hol_spec.specs.ClosedForm.{ClosedType}
use Rattle.lp_term.specs.Tables.{tree_at}
use Rattle.hol_term.specs.Tables.{Keeps}
use Rattle.holide_sig.specs.Modules.{declarations_of}
use Rattle.decode_spec.specs.Decode.{term_from}
use Rattle.decode_back.specs.Walks.{at_place}
use Rattle.decode_back.specs.TermWalks.{AreVariables}
use Rattle.decode_back.specs.TermTasks.{under, IsTermShape, IsTermWalk, term_work}
use Rattle.decode_back.proofs.terms.decode_term.Given as goal

abbrev pub invariant-loop-task : goal.invariant-loop-task
invariant-loop-task l = record {
  keeps : Keeps l.fn.table l.table;
  budget : l.walk.budget ≤ l.fn.budget;
  shaped : IsTermShape l.source.base.now.table l.table l.walk.tasks l.walk.made;
  walk : (types : List ClosedType) → AreVariables l.fn.table l.source.variables.now types
      → IsTermWalk (declarations_of l.source.base.now) l.source.base.now.table (under l.source.place) types
      (record {
        told = term_from (declarations_of l.source.base.now) (tree_at l.source.base.now.table l.fn.id.0) (at_place l.source.place);
        size =
            l.fn.budget;
        depth = l.level;
      }) l.table l.walk.budget l.walk.tasks
      l.walk.made;
}

abbrev pub decreases-loop-task : goal.decreases-loop-task
decreases-loop-task l = term_work l.source.base.now.table l.walk.tasks
