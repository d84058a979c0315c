use Rattle.std.proofs.Common.{refl, [], ◌∷◌}
use Rattle.article_spec.specs.State as state
use Rattle.stack_machine.specs.declared.object.Object.TheVariants as object
use Rattle.stack_machine.specs.StoredLaws.{Grows-refl}
use Rattle.stack_machine.proofs.Obeyed.{first_fails, next_fails, next, stopped, placed}
use Rattle.stack_machine.proofs.commands.variable.Goals as goal

pub returns-in_err-ty : goal.returns-in_err-ty
returns-in_err-ty c = stopped _ _ c.from_residual.ensures.1 c.requires (λ s. first_fails _ _ _ (c.in_err-ty.ensures c.args.store.now).refused)

pub returns-in_err-name : goal.returns-in_err-name
returns-in_err-name c = stopped _ _ c.from_residual-in_err-name.ensures.1 c.requires
    (λ s. next_fails _ _ _ _ (c.in_ok-ty.ensures c.args.store.now).taken (first_fails _ _ _ (c.in_err-name.ensures c.args.store.now).refused))

pub put-requires-clause-there : goal.put-requires-clause-there
put-requires-clause-there c = (c.in_ok-name.ensures c.args.store.now).there

pub returns : goal.returns
returns c = placed 2 (object.Variable c.in_ok-name.name c.in_ok-ty.ty ∷ []) (state.Object.variable _ ∷ []) _ c.requires (Grows-refl _) c.put.ensures
    (((c.in_ok-name.ensures c.args.store.now).known c.requires, (c.in_ok-ty.ensures c.args.store.now).known c.requires), tt) refl refl
    (λ s. next _ _ _ _ (c.in_ok-ty.ensures c.args.store.now).taken (next _ _ _ _ (c.in_ok-name.ensures c.args.store.now).taken (refl)))
