use Rattle.std.proofs.Common.{ap, refl, [], ◌∷◌}
use Rattle.article_spec.specs.State as state
use Rattle.stack_machine.specs.declared.object.Object.TheVariants as object
use Rattle.stack_machine.proofs.Obeyed.{first_fails, next_fails, condition_fails, next, met, stopped, failed, placed}
use Rattle.stack_machine.proofs.commands.abstraction_term.Goals as goal

pub returns-in_err-body : goal.returns-in_err-body
returns-in_err-body c = stopped _ _ c.from_residual.ensures.1 c.requires (λ s. first_fails _ _ _ (c.in_err-body.ensures c.args.store.now).refused)

pub returns-in_err-name : goal.returns-in_err-name
returns-in_err-name c = stopped _ _ c.from_residual-in_err-name.ensures.1 c.requires
    (λ s. next_fails _ _ _ _ (c.in_ok-body.ensures c.args.store.now).taken (first_fails _ _ _ (c.in_err-name.ensures c.args.store.now).refused))

pub abstraction-requires-clause-name : goal.abstraction-requires-clause-name
abstraction-requires-clause-name c = ((c.in_ok-name.ensures c.args.store.now).known c.requires).0

pub abstraction-requires-clause-ty : goal.abstraction-requires-clause-ty
abstraction-requires-clause-ty c = ((c.in_ok-name.ensures c.args.store.now).known c.requires).1

pub abstraction-requires-clause-body : goal.abstraction-requires-clause-body
abstraction-requires-clause-body c = (c.in_ok-body.ensures c.args.store.now).known c.requires

pub returns-in_err-term : goal.returns-in_err-term
returns-in_err-term c = failed _ _ c.from_residual-in_err-term.ensures.1 c.requires c.abstraction.ensures.grows c.abstraction.ensures.run
    (λ s. next_fails _ _ _ _ (c.in_ok-body.ensures c.args.store.now).taken
    (next_fails _ _ _ _ (c.in_ok-name.ensures c.args.store.now).taken (condition_fails _ _ _ c.in_err-term.ensures.refused)))

pub put-requires-clause-there : goal.put-requires-clause-there
put-requires-clause-there c = (c.in_ok-name.ensures c.args.store.now).there

pub returns : goal.returns
returns c = placed 2 (object.Term c.in_ok-term.term ∷ []) (state.Object.term _ ∷ []) _ c.requires c.abstraction.ensures.grows c.put.ensures
    (c.in_ok-term.ensures.known, tt) (ap (λ x. state.Object.term x ∷ []) c.in_ok-term.ensures.made) c.abstraction.ensures.run
    (λ s. next _ _ _ _ (c.in_ok-body.ensures c.args.store.now).taken
    (next _ _ _ _ (c.in_ok-name.ensures c.args.store.now).taken (met _ _ _ c.in_ok-term.ensures.fits refl)))
