use Rattle.std.proofs.Common.{◌≡◌, map, take}
use Rattle.hol_spec.specs.ClosedForm.{close_type}
use Rattle.hol_spec.specs.Terms.{Variable}
use Rattle.hol_term.specs.Subterms.{variables_of}
use Rattle.sequent.specs.Closed.{closed_type_view}
use Rattle.sequent.proofs.closed.close_variables.Given as goal

abbrev pub invariant-loop-variable : goal.invariant-loop-variable
invariant-loop-variable l = map closed_type_view l.closed.items ≡ map (λ (v : Variable). close_type l.params.type_vars v.1)
    (variables_of l.table (take l.variable-index l.variable-items))
