use Rattle.std.proofs.Common.{◌≡◌, map, take}
use Rattle.hol_spec.specs.ClosedForm.{close_term}
use Rattle.hol_term.specs.Subterms.{variables_of}
use Rattle.hol_term.specs.Tables.{terms_at}
use Rattle.sequent.specs.Closed.{closed_term_view}
use Rattle.sequent.proofs.closed.close_terms.Given as goal

abbrev pub invariant-loop-id : goal.invariant-loop-id
invariant-loop-id l = map closed_term_view l.closed.items ≡ map (close_term l.params.type_vars (variables_of l.table l.params.free_vars))
    (terms_at l.table (take l.id-index l.ids))
