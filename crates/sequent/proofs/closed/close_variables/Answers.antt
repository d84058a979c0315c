use Rattle.std.proofs.Common.{◌∙◌}
use Rattle.std.proofs.Math.Path.{ap₂}
use Rattle.hol_spec.specs.ClosedForm.{close_type}
use Rattle.hol_type.specs.Tables.{tree_at}
use Rattle.sequent.proofs.ClosedLaws.{has_type_at, closes_next}
use Rattle.sequent.proofs.closed.close_variables.Goals as goal

pub close_type-requires : goal.close_type-requires
close_type-requires c =
    rw c.types.ensures.types
    (has_type_at c.args.table.now c.variables-variable-items.result.now c.loop-variable.variable-index c.variable-item.result c.variable-item.is
    c.loop-variable-test.true (rw c.variables-variable-items.ensures c.requires))

pub loop-variable-preserved : goal.loop-variable-preserved
loop-variable-preserved c =
    closes_next c.args.params.now.type_vars c.args.table.now c.variables-variable-items.result.now c.loop-variable.variable-index c.variable-item.result _ _ _
    c.variable-item.is c.loop-variable-test.true c.in_ok-push.ensures.items
    (c.in_ok-close_type.ensures ∙ ap₂ (λ names types. close_type names (tree_at types c.variable-item.result.ty.0)) c.names-names.ensures c.types.ensures.types)
    c.loop-variable.invariant
