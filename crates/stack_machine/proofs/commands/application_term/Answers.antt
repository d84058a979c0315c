use Rattle.std.proofs.Common.{ap, refl, [], ◌∷◌}
use Rattle.hol_spec.specs.Terms.{app}
use Rattle.hol_term.specs.Tables.{term_at}
use Rattle.article_spec.specs.State as state
use Rattle.stack_machine.specs.declared.object.Object.TheVariants as object
use Rattle.stack_machine.proofs.Obeyed.{first_fails, next_fails, application_fails, next, application_passes, stopped, failed, placed}
use Rattle.stack_machine.proofs.commands.application_term.Goals as goal

pub returns-in_err-argument : goal.returns-in_err-argument
returns-in_err-argument c = stopped _ _ c.from_residual.ensures.1 c.requires (λ s. first_fails _ _ _ (c.in_err-argument.ensures c.args.store.now).refused)

pub returns-in_err-function : goal.returns-in_err-function
returns-in_err-function c = stopped _ _ c.from_residual-in_err-function.ensures.1 c.requires
    (λ s. next_fails _ _ _ _ (c.in_ok-argument.ensures c.args.store.now).taken (first_fails _ _ _ (c.in_err-function.ensures c.args.store.now).refused))

pub application-requires-clause-function : goal.application-requires-clause-function
application-requires-clause-function c = (c.in_ok-function.ensures c.args.store.now).known c.requires

pub application-requires-clause-argument : goal.application-requires-clause-argument
application-requires-clause-argument c = (c.in_ok-argument.ensures c.args.store.now).known c.requires

pub returns-in_err-term : goal.returns-in_err-term
returns-in_err-term c = failed _ _ c.from_residual-in_err-term.ensures.1 c.requires c.application.ensures.grows c.application.ensures.run
    (λ s. next_fails _ _ _ _ (c.in_ok-argument.ensures c.args.store.now).taken
    (next_fails _ _ _ _ (c.in_ok-function.ensures c.args.store.now).taken
    (application_fails _ (app (term_at c.args.store.now.trees c.in_ok-function.function.0) (term_at c.args.store.now.trees c.in_ok-argument.argument.0)) _
    c.in_err-term.ensures.refused)))

pub put-requires-clause-there : goal.put-requires-clause-there
put-requires-clause-there c = (c.in_ok-function.ensures c.args.store.now).there

pub returns : goal.returns
returns c = placed 2 (object.Term c.in_ok-term.term ∷ []) (state.Object.term _ ∷ []) _ c.requires c.application.ensures.grows c.put.ensures
    (c.in_ok-term.ensures.known, tt) (ap (λ x. state.Object.term x ∷ []) c.in_ok-term.ensures.made) c.application.ensures.run
    (λ s. next _ _ _ _ (c.in_ok-argument.ensures c.args.store.now).taken
    (next _ _ _ _ (c.in_ok-function.ensures c.args.store.now).taken
    (application_passes _ (app (term_at c.args.store.now.trees c.in_ok-function.function.0) (term_at c.args.store.now.trees c.in_ok-argument.argument.0))
    _ c.in_ok-term.ensures.fits refl)))
