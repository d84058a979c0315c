use Rattle.hol_spec.specs.ClosedForm.{close_term}
use Rattle.hol_term.specs.Subterms.{variables_of}
use Rattle.hol_term.specs.Tables.{term_at}
use Rattle.sequent.specs.Closing.{IsWalk, work}
use Rattle.sequent.proofs.closed.close_term.Given as goal

abbrev pub invariant-loop-next : goal.invariant-loop-next
invariant-loop-next l =
    IsWalk l.table l.params.type_vars (variables_of l.table l.params.free_vars)
    (close_term l.params.type_vars (variables_of l.table l.params.free_vars) (term_at l.table l.fn.id.0)) l.tasks l.nodes.items

abbrev pub decreases-loop-next : goal.decreases-loop-next
decreases-loop-next l = work l.table l.tasks
