use Rattle.std.proofs.Common.{ap, refl, [], ◌∷◌}
use Rattle.hol_term.specs.Tables.{type_at}
use Rattle.article_spec.specs.State as state
use Rattle.stack_machine.specs.Stored.{name_at, taken_symbols}
use Rattle.stack_machine.specs.declared.object.Object.TheVariants as object
use Rattle.stack_machine.proofs.Obeyed.{first_fails, next_fails, constant_fails, next, constant_passes, stopped, failed, placed}
use Rattle.stack_machine.proofs.commands.constant_term.Goals as goal

pub returns-in_err-ty : goal.returns-in_err-ty
returns-in_err-ty c = stopped _ _ c.from_residual.ensures.1 c.requires (λ s. first_fails _ _ _ (c.in_err-ty.ensures c.args.store.now).refused)

pub returns-in_err-name : goal.returns-in_err-name
returns-in_err-name c = stopped _ _ c.from_residual-in_err-name.ensures.1 c.requires
    (λ s. next_fails _ _ _ _ (c.in_ok-ty.ensures c.args.store.now).taken (first_fails _ _ _ (c.in_err-name.ensures c.args.store.now).refused))

pub constant_term-requires-clause-name : goal.constant_term-requires-clause-name
constant_term-requires-clause-name c = (c.in_ok-name.ensures c.args.store.now).known c.requires

pub constant_term-requires-clause-ty : goal.constant_term-requires-clause-ty
constant_term-requires-clause-ty c = (c.in_ok-ty.ensures c.args.store.now).known c.requires

pub returns-in_err-term : goal.returns-in_err-term
returns-in_err-term c = failed _ _ c.from_residual-in_err-term.ensures.1 c.requires c.constant_term.ensures.grows c.in_err-term.ensures.unchanged
    (λ s. next_fails _ _ _ _ (c.in_ok-ty.ensures c.args.store.now).taken
    (next_fails _ _ _ _ (c.in_ok-name.ensures c.args.store.now).taken
    (constant_fails _ (taken_symbols c.args.store.now) (name_at c.args.store.now c.in_ok-name.name.0) (type_at c.args.store.now.trees c.in_ok-ty.ty.0) _
    c.in_err-term.ensures.refused)))

pub put-requires-clause-there : goal.put-requires-clause-there
put-requires-clause-there c = (c.in_ok-name.ensures c.args.store.now).there

pub returns : goal.returns
returns c = placed 2 (object.Term c.in_ok-term.term ∷ []) (state.Object.term _ ∷ []) _ c.requires c.constant_term.ensures.grows c.put.ensures
    (c.in_ok-term.ensures.known, tt) (ap (λ x. state.Object.term x ∷ []) c.in_ok-term.ensures.made) c.in_ok-term.ensures.takes
    (λ s. next _ _ _ _ (c.in_ok-ty.ensures c.args.store.now).taken
    (next _ _ _ _ (c.in_ok-name.ensures c.args.store.now).taken
    (constant_passes _ (taken_symbols c.args.store.now) (name_at c.args.store.now c.in_ok-name.name.0) (type_at c.args.store.now.trees c.in_ok-ty.ty.0) _
    c.in_ok-term.ensures.fits refl)))
