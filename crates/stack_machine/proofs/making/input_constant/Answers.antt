use Rattle.std.proofs.Common.{refl, sym, subst, ◌∙◌}
use Rattle.hol_spec.specs.Proofs.{symbols_of}
use Rattle.hol_spec.specs.Terms.{IsTerm}
use Rattle.hol_type.specs.TableLaws.{tree_at-Stays}
use Rattle.hol_term.specs.Tables.{type_at}
use Rattle.stack_machine.proofs.Fitting.{constant_unmade, constant_unused, constant_within}
use Rattle.stack_machine.proofs.Passing.{always, handed_on}
use Rattle.stack_machine.proofs.making.input_constant.Goals as goal

pub returns-in_err-term-clause-refused : goal.returns-in_err-term-clause-refused
returns-in_err-term-clause-refused c =
    let old = c.args.proof.now in
    handed_on _ _ _ c.from_residual.ensures.1
    (constant_unmade (symbols_of old.made) c.args.name.now (type_at old.trees c.args.ty.0) _ (rw c.requires.input tt) c.in_err-term.ensures.refusal)

pub returns-in_err-term-clause-unchanged : goal.returns-in_err-term-clause-unchanged
returns-in_err-term-clause-unchanged c = always _ c.constant.ensures.grows.made

pub returns-in_err-term-clause-keeps : goal.returns-in_err-term-clause-keeps
returns-in_err-term-clause-keeps c = c.constant.ensures.grows.trees

pub returns-in_err-use_const-clause-refused : goal.returns-in_err-use_const-clause-refused
returns-in_err-use_const-clause-refused c =
    let old = c.args.proof.now in
    let stays = tree_at-Stays c.constant.ensures.grows.trees.types.stays c.args.ty.0 c.requires.ty in
    handed_on _ _ _ c.from_residual-in_err-use_const.ensures.1
    (constant_unused (symbols_of old.made) c.args.name.now (type_at old.trees c.args.ty.0) _
    (rw (← stays, c.constant.ensures.grows.made) at c.in_err-use_const.ensures.refusal))

pub returns-in_err-use_const-clause-unchanged : goal.returns-in_err-use_const-clause-unchanged
returns-in_err-use_const-clause-unchanged c = always _ (c.in_err-use_const.ensures.unchanged ∙ c.constant.ensures.grows.made)

pub returns-in_err-use_const-clause-keeps : goal.returns-in_err-use_const-clause-keeps
returns-in_err-use_const-clause-keeps c = rw c.use_const.ensures.trees c.constant.ensures.grows.trees

pub returns-clause-known : goal.returns-clause-known
returns-clause-known c = rw c.use_const.ensures.trees c.in_ok-term.ensures.made.known

pub returns-clause-typed : goal.returns-clause-typed
returns-clause-typed c = rw c.use_const.ensures.trees (subst IsTerm (sym c.in_ok-term.ensures.made.is) refl)

pub returns-clause-made : goal.returns-clause-made
returns-clause-made c = rw c.use_const.ensures.trees c.in_ok-term.ensures.made.is

pub returns-clause-fits : goal.returns-clause-fits
returns-clause-fits c =
    let old = c.args.proof.now in
    constant_within (symbols_of old.made) c.args.name.now (type_at old.trees c.args.ty.0) (rw c.requires.input tt) c.in_ok-term.ensures.within

pub returns-clause-takes : goal.returns-clause-takes
returns-clause-takes c = rw c.constant.ensures.grows.made at c.in_ok-use_const.ensures.takes

pub returns-clause-keeps : goal.returns-clause-keeps
returns-clause-keeps c = rw c.use_const.ensures.trees c.constant.ensures.grows.trees
