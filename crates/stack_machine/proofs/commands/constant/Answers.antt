use Rattle.std.proofs.Common.{refl, [], ◌∷◌}
use Rattle.article_spec.specs.State as state
use Rattle.stack_machine.specs.declared.object.Object.TheVariants as object
use Rattle.stack_machine.specs.StoredLaws.{Grows-refl}
use Rattle.stack_machine.proofs.Obeyed.{first_fails, next, stopped, placed}
use Rattle.stack_machine.proofs.commands.constant.Goals as goal

pub returns-in_err-name : goal.returns-in_err-name
returns-in_err-name c = stopped _ _ c.from_residual.ensures.1 c.requires (λ s. first_fails _ _ _ (c.in_err-name.ensures c.args.store.now).refused)

pub put-requires-clause-there : goal.put-requires-clause-there
put-requires-clause-there c = (c.in_ok-name.ensures c.args.store.now).there

pub returns : goal.returns
returns c = placed 1 (object.Constant c.in_ok-name.name ∷ []) (state.Object.constant _ ∷ []) _ c.requires (Grows-refl _) c.put.ensures
    ((c.in_ok-name.ensures c.args.store.now).known c.requires, tt) refl refl
    (λ s. next _ _ _ _ (c.in_ok-name.ensures c.args.store.now).taken (refl))
