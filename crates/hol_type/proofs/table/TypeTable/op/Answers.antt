use Rattle.std.proofs.Common.{subst, sym}
use Rattle.hol_type.specs.Refusals.{RefusesType}
use Rattle.hol_spec.specs.Types.{operator, types_of}
use Rattle.hol_type.specs.Tables.{types_at}
use Rattle.hol_type.specs.TableLaws.{AreKnown-below}
use Rattle.hol_type.proofs.Faults.{if_err}
use Rattle.hol_type.proofs.table.TypeTable.op.Goals as goal

pub add-requires-clause-parts : goal.add-requires-clause-parts
add-requires-clause-parts c = rw c.in_ok-from_slice.ensures.items (AreKnown-below _ _ c.requires)

pub add-requires-clause-measured : goal.add-requires-clause-measured
add-requires-clause-measured c = rw c.in_ok-from_slice.ensures.items (c.measures-measures.ensures _)

pub returns-clause-within : goal.returns-clause-within
returns-clause-within c = c.in_ok-check_limits.ensures.within _ (c.measures-measures.ensures _)

pub returns-in_err-check_limits-clause-refusal : goal.returns-in_err-check_limits-clause-refusal
returns-in_err-check_limits-clause-refusal c = if_err c.from_residual.result
    (λ e is. subst (λ f. RefusesType f (operator c.args.name.now (types_of (types_at c.args.self.now c.args.args.now)))) (sym is)
    (c.in_err-check_limits.ensures.refusal _ (c.measures-measures.ensures c.args.name.now))) c.from_residual.ensures.1
