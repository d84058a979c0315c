use Rattle.hol_term.specs.Tables.{type_at}
use Rattle.article_spec.specs.RuleSteps.{abs_thm_step}
use Rattle.stack_machine.specs.Shown.{shown}
use Rattle.stack_machine.proofs.Obeyed.{first_fails, next_fails, stopped}
use Rattle.stack_machine.proofs.Inferred.{Concludes-IsStore, rule-obeys, step-there, type-there}
use Rattle.stack_machine.proofs.RuleWords.{obey-AbsThm}
use Rattle.stack_machine.proofs.inference.abs_thm.Goals as goal

pub returns-in_err-one : goal.returns-in_err-one
returns-in_err-one c = stopped _ _ c.from_residual.ensures.1 c.requires (λ s. first_fails _ _ _ (c.in_err-one.ensures c.args.store.now).refused)

pub returns-in_err-name : goal.returns-in_err-name
returns-in_err-name c = stopped _ _ c.from_residual-in_err-name.ensures.1 c.requires
    (λ s. next_fails _ _ _ _ (c.in_ok-one.ensures c.args.store.now).taken (first_fails _ _ _ (c.in_err-name.ensures c.args.store.now).refused))

pub variable-requires : goal.variable-requires
variable-requires c = record { name = ((c.in_ok-name.ensures c.args.store.now).known c.requires).0 }

pub returns-in_err-variable : goal.returns-in_err-variable
returns-in_err-variable c = stopped _ _ c.from_residual-in_err-variable.ensures.1 c.requires (λ s. tt)

pub abs_thm-step-requires-clause-variable : goal.abs_thm-step-requires-clause-variable
abs_thm-step-requires-clause-variable c = rw c.in_ok-variable.ensures.ty
    (type-there c.store.invariant c.store.view_is ((c.in_ok-name.ensures c.args.store.now).known c.requires).1)

pub abs_thm-step-requires-clause-one : goal.abs_thm-step-requires-clause-one
abs_thm-step-requires-clause-one c = step-there c.store.invariant c.store.view_is ((c.in_ok-one.ensures c.args.store.now).known c.requires)

pub conclude-requires-clause-there : goal.conclude-requires-clause-there
conclude-requires-clause-there c = (c.in_ok-name.ensures c.args.store.now).there

pub invariant_of-store : goal.invariant_of-store
invariant_of-store c = Concludes-IsStore c.abs_thm-step.ensures c.store.invariant

pub returns : goal.returns
returns c = rule-obeys c.store.invariant c.store.view_is 2
    (λ m. abs_thm_step m.run.made (c.in_ok-variable.variable.name, type_at m.trees c.in_ok-variable.variable.ty.0) c.in_ok-one.one) c.abs_thm-step.ensures
    c.conclude.ensures c.requires
    (λ s. rw (c.in_ok-variable.ensures.name, c.in_ok-variable.ensures.ty)
    (obey-AbsThm (shown c.args.store.now c.args.stack.now s) _ _ _ _ (c.in_ok-one.ensures c.args.store.now).taken
    (c.in_ok-name.ensures c.args.store.now).taken))
