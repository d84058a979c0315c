use Rattle.std.proofs.Common.{ap, refl, [], ◌∷◌}
use Rattle.article_spec.specs.State as state
use Rattle.stack_machine.specs.declared.object.Object.TheVariants as object
use Rattle.stack_machine.proofs.Obeyed.{memory_fails, first_fails, next, stopped, failed, placed}
use Rattle.stack_machine.proofs.commands.type_variable.Goals as goal

pub returns-in_err-name : goal.returns-in_err-name
returns-in_err-name c = stopped _ _ c.from_residual.ensures.1 c.requires (λ s. first_fails _ _ _ (c.in_err-name.ensures c.args.store.now).refused)

pub type_variable-requires : goal.type_variable-requires
type_variable-requires c = (c.in_ok-name.ensures c.args.store.now).known c.requires

pub returns-in_err-ty : goal.returns-in_err-ty
returns-in_err-ty c = failed _ _ c.from_residual-in_err-ty.ensures.1 c.requires c.type_variable.ensures.grows c.type_variable.ensures.run
    (λ s. memory_fails _ _ c.in_err-ty.ensures.refused)

pub put-requires-clause-there : goal.put-requires-clause-there
put-requires-clause-there c = (c.in_ok-name.ensures c.args.store.now).there

pub returns : goal.returns
returns c = placed 1 (object.Type c.in_ok-ty.ty ∷ []) (state.Object.type _ ∷ []) _ c.requires c.type_variable.ensures.grows c.put.ensures
    (c.in_ok-ty.ensures.known, tt) (ap (λ x. state.Object.type x ∷ []) c.in_ok-ty.ensures.made) c.type_variable.ensures.run
    (λ s. next _ _ _ _ (c.in_ok-name.ensures c.args.store.now).taken (refl))
