use Rattle.std.proofs.Common.{◌∙◌}
use Rattle.hol_spec.specs.Proofs.{symbols_of}
use Rattle.hol_type.specs.Tables.{types_at}
use Rattle.stack_machine.proofs.Fitting.{operator_unmade, operator_unused, operator_within, types_count}
use Rattle.stack_machine.proofs.Passing.{always, handed_on}
use Rattle.stack_machine.proofs.making.input_operator.Goals as goal

pub returns-in_err-ty-clause-refused : goal.returns-in_err-ty-clause-refused
returns-in_err-ty-clause-refused c =
    let old = c.args.proof.now in
    handed_on _ _ _ c.from_residual.ensures.1
    (operator_unmade (symbols_of old.made) c.args.name.now (types_at old.trees.types c.args.args.now) _ (rw c.requires.input tt) c.in_err-ty.ensures.refusal)

pub returns-in_err-ty-clause-unchanged : goal.returns-in_err-ty-clause-unchanged
returns-in_err-ty-clause-unchanged c = always _ c.ty_op.ensures.grows.made

pub returns-in_err-ty-clause-keeps : goal.returns-in_err-ty-clause-keeps
returns-in_err-ty-clause-keeps c = c.ty_op.ensures.grows.trees

pub returns-in_err-use_op-clause-refused : goal.returns-in_err-use_op-clause-refused
returns-in_err-use_op-clause-refused c =
    let old = c.args.proof.now in
    let count = types_count old.trees.types c.args.args.now in
    handed_on _ _ _ c.from_residual-in_err-use_op.ensures.1
    (operator_unused (symbols_of old.made) c.args.name.now (types_at old.trees.types c.args.args.now) _
    (rw (count, c.ty_op.ensures.grows.made) at c.in_err-use_op.ensures.refusal))

pub returns-in_err-use_op-clause-unchanged : goal.returns-in_err-use_op-clause-unchanged
returns-in_err-use_op-clause-unchanged c = always _ (c.in_err-use_op.ensures.unchanged ∙ c.ty_op.ensures.grows.made)

pub returns-in_err-use_op-clause-keeps : goal.returns-in_err-use_op-clause-keeps
returns-in_err-use_op-clause-keeps c = rw c.use_op.ensures.trees c.ty_op.ensures.grows.trees

pub returns-clause-known : goal.returns-clause-known
returns-clause-known c = rw c.use_op.ensures.trees c.in_ok-ty.ensures.known

pub returns-clause-made : goal.returns-clause-made
returns-clause-made c = rw c.use_op.ensures.trees c.in_ok-ty.ensures.made

pub returns-clause-fits : goal.returns-clause-fits
returns-clause-fits c =
    let old = c.args.proof.now in
    operator_within (symbols_of old.made) c.args.name.now (types_at old.trees.types c.args.args.now) (rw c.requires.input tt) c.in_ok-ty.ensures.within

pub returns-clause-takes : goal.returns-clause-takes
returns-clause-takes c =
    let count = types_count c.args.proof.now.trees.types c.args.args.now in
    rw (count, c.ty_op.ensures.grows.made) at c.in_ok-use_op.ensures.takes

pub returns-clause-keeps : goal.returns-clause-keeps
returns-clause-keeps c = rw c.use_op.ensures.trees c.ty_op.ensures.grows.trees
