use Rattle.std.proofs.Common.{subst, ◌∙◌}
use Rattle.hol_spec.specs.Proofs.{symbols_of}
use Rattle.hol_spec.specs.Types.{operator, types_of}
use Rattle.hol_type.specs.Refusals.{RefusesType}
use Rattle.hol_type.specs.Tables.{types_at}
use Rattle.hol_term.specs.TableLaws.{Keeps-refl}
use Rattle.stack_machine.proofs.Fitting.{no_operator, operator_unmade, operator_unused, operator_within, types_count}
use Rattle.stack_machine.proofs.Passing.{always, handed_on}
use Rattle.stack_machine.proofs.Stores.{none_taken}
use Rattle.stack_machine.proofs.making.own_operator.Goals as goal

pub ty_op-requires : goal.ty_op-requires
ty_op-requires c = rw c.use_op.ensures.trees c.requires.args

pub returns-in_err-use_op-clause-refused : goal.returns-in_err-use_op-clause-refused
returns-in_err-use_op-clause-refused c =
    let old = c.args.proof.now in
    let count = types_count old.trees.types c.args.args.now in
    handed_on _ _ _ c.from_residual.ensures.1
    (operator_unused (symbols_of old.made) c.args.name.now (types_at old.trees.types c.args.args.now) _ (rw count at c.in_err-use_op.ensures.refusal))

pub returns-in_err-use_op-clause-unchanged : goal.returns-in_err-use_op-clause-unchanged
returns-in_err-use_op-clause-unchanged c = always _ c.in_err-use_op.ensures.unchanged

pub returns-in_err-use_op-clause-keeps : goal.returns-in_err-use_op-clause-keeps
returns-in_err-use_op-clause-keeps c = rw c.use_op.ensures.trees (Keeps-refl _)

pub returns-in_err-ty-clause-refused : goal.returns-in_err-ty-clause-refused
returns-in_err-ty-clause-refused c =
    let old = c.args.proof.now in
    let count = types_count old.trees.types c.args.args.now in
    handed_on _ _ _ c.from_residual-in_err-ty.ensures.1
    (operator_unmade (symbols_of old.made) c.args.name.now (types_at old.trees.types c.args.args.now) _ (rw count at c.in_ok-use_op.ensures.fits)
    (subst (λ ts. RefusesType c.in_err-ty.field-0.0 (operator c.args.name.now (types_of (types_at ts.types c.args.args.now)))) c.use_op.ensures.trees
    c.in_err-ty.ensures.refusal))

pub returns-in_err-ty-clause-unchanged : goal.returns-in_err-ty-clause-unchanged
returns-in_err-ty-clause-unchanged c =
    always _ (c.ty_op.ensures.grows.made ∙ c.in_ok-use_op.ensures.takes
    ∙ none_taken c.args.proof.now.made _ (no_operator (symbols_of c.args.proof.now.made) c.args.name.now _ c.requires.own))

pub returns-in_err-ty-clause-keeps : goal.returns-in_err-ty-clause-keeps
returns-in_err-ty-clause-keeps c = rw c.use_op.ensures.trees at c.ty_op.ensures.grows.trees

pub returns-clause-known : goal.returns-clause-known
returns-clause-known c = c.in_ok-ty.ensures.known

pub returns-clause-made : goal.returns-clause-made
returns-clause-made c = rw c.use_op.ensures.trees at c.in_ok-ty.ensures.made

pub returns-clause-fits : goal.returns-clause-fits
returns-clause-fits c =
    let old = c.args.proof.now in
    let count = types_count old.trees.types c.args.args.now in
    operator_within (symbols_of old.made) c.args.name.now (types_at old.trees.types c.args.args.now) (rw count at c.in_ok-use_op.ensures.fits)
    (rw c.use_op.ensures.trees at c.in_ok-ty.ensures.within)

pub returns-clause-takes : goal.returns-clause-takes
returns-clause-takes c =
    let count = types_count c.args.proof.now.trees.types c.args.args.now in
    c.ty_op.ensures.grows.made ∙ (rw count at c.in_ok-use_op.ensures.takes)

pub returns-clause-keeps : goal.returns-clause-keeps
returns-clause-keeps c = rw c.use_op.ensures.trees at c.ty_op.ensures.grows.trees
