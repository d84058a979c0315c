use Rattle.std.proofs.Common.{◌≡◌, ap, subst, refl, length, [], ◌∷◌}
use Rattle.hol_spec.specs.Symbols.{new_operator}
use Rattle.hol_type.specs.Tables.{types_at}
use Rattle.stack_machine.specs.Making.{taking}
use Rattle.article_spec.specs.State as state
use Rattle.stack_machine.specs.Stored.{name_at, taken_symbols}
use Rattle.stack_machine.specs.declared.object.Object.TheVariants as object
use Rattle.stack_machine.proofs.Obeyed.{first_fails, next_fails, operator_fails, next, operator_passes, stopped, failed, placed}
use Rattle.stack_machine.proofs.commands.operator_type.Goals as goal

pub returns-in_err-args : goal.returns-in_err-args
returns-in_err-args c = stopped _ _ c.from_residual.ensures.1 c.requires (λ s. first_fails _ _ _ c.in_err-args.ensures.refused)

pub returns-in_err-name : goal.returns-in_err-name
returns-in_err-name c = stopped _ _ c.from_residual-in_err-name.ensures.1 c.requires
    (λ s. next_fails _ _ _ _ c.in_ok-args.ensures.taken (first_fails _ _ _ (c.in_err-name.ensures c.args.store.now).refused))

pub operator_type-requires-clause-name : goal.operator_type-requires-clause-name
operator_type-requires-clause-name c = (c.in_ok-name.ensures c.args.store.now).known c.requires

pub operator_type-requires-clause-args : goal.operator_type-requires-clause-args
operator_type-requires-clause-args c = rw c.deref.ensures.value (c.in_ok-args.ensures.known c.requires)

pub returns-in_err-ty : goal.returns-in_err-ty
returns-in_err-ty c = failed _ _ c.from_residual-in_err-ty.ensures.1 c.requires c.operator_type.ensures.grows c.in_err-ty.ensures.unchanged
    (λ s. next_fails _ _ _ _ c.in_ok-args.ensures.taken
    (next_fails _ _ _ _ (c.in_ok-name.ensures c.args.store.now).taken
    (operator_fails _ (taken_symbols c.args.store.now) (name_at c.args.store.now c.in_ok-name.name.0)
    (types_at c.args.store.now.trees.types c.in_ok-args.args.items) _ (rw (← c.deref.ensures.value) c.in_err-ty.ensures.refused))))

pub put-requires-clause-there : goal.put-requires-clause-there
put-requires-clause-there c = (c.in_ok-name.ensures c.args.store.now).there

pub returns : goal.returns
returns c = placed 2 (object.Type c.in_ok-ty.ty ∷ []) (state.Object.type _ ∷ []) _ c.requires c.operator_type.ensures.grows c.put.ensures
    (c.in_ok-ty.ensures.known, tt) (ap (λ x. state.Object.type x ∷ []) (rw (← c.deref.ensures.value) c.in_ok-ty.ensures.made))
    (subst (λ ids. c.operator_type.new.self.run ≡ taking c.args.store.now.run
    (new_operator (taken_symbols c.args.store.now) (name_at c.args.store.now c.in_ok-name.name.0) (length (types_at c.args.store.now.trees.types ids))))
    c.deref.ensures.value c.in_ok-ty.ensures.takes)
    (λ s. next _ _ _ _ c.in_ok-args.ensures.taken
    (next _ _ _ _ (c.in_ok-name.ensures c.args.store.now).taken
    (operator_passes _ (taken_symbols c.args.store.now) (name_at c.args.store.now c.in_ok-name.name.0)
    (types_at c.args.store.now.trees.types c.in_ok-args.args.items) _ (rw (← c.deref.ensures.value) c.in_ok-ty.ensures.fits) refl)))
