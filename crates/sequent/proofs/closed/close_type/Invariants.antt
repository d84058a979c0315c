use Rattle.hol_spec.specs.ClosedForm.{close_type}
use Rattle.hol_type.specs.Tables.{tree_at}
use Rattle.sequent.specs.Closing.{IsTypeWalk, type_work}
use Rattle.sequent.proofs.closed.close_type.Given as goal

abbrev pub invariant-loop-next : goal.invariant-loop-next
invariant-loop-next l = IsTypeWalk l.types l.names (close_type l.names (tree_at l.types l.fn.id.0)) l.tasks l.nodes.items

abbrev pub decreases-loop-next : goal.decreases-loop-next
decreases-loop-next l = type_work l.types l.tasks
