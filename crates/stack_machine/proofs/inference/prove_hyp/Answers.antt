use Rattle.article_spec.specs.RuleSteps.{prove_hyp_step}
use Rattle.stack_machine.specs.Shown.{shown}
use Rattle.stack_machine.proofs.Obeyed.{first_fails, next_fails, stopped}
use Rattle.stack_machine.proofs.Inferred.{Concludes-IsStore, rule-obeys, step-there}
use Rattle.stack_machine.proofs.RuleWords.{obey-ProveHyp}
use Rattle.stack_machine.proofs.inference.prove_hyp.Goals as goal

pub returns-in_err-two : goal.returns-in_err-two
returns-in_err-two c = stopped _ _ c.from_residual.ensures.1 c.requires (λ s. first_fails _ _ _ (c.in_err-two.ensures c.args.store.now).refused)

pub returns-in_err-one : goal.returns-in_err-one
returns-in_err-one c = stopped _ _ c.from_residual-in_err-one.ensures.1 c.requires
    (λ s. next_fails _ _ _ _ (c.in_ok-two.ensures c.args.store.now).taken (first_fails _ _ _ (c.in_err-one.ensures c.args.store.now).refused))

pub prove_hyp-step-requires-clause-one : goal.prove_hyp-step-requires-clause-one
prove_hyp-step-requires-clause-one c = step-there c.store.invariant c.store.view_is ((c.in_ok-one.ensures c.args.store.now).known c.requires)

pub prove_hyp-step-requires-clause-two : goal.prove_hyp-step-requires-clause-two
prove_hyp-step-requires-clause-two c = step-there c.store.invariant c.store.view_is ((c.in_ok-two.ensures c.args.store.now).known c.requires)

pub conclude-requires-clause-there : goal.conclude-requires-clause-there
conclude-requires-clause-there c = (c.in_ok-one.ensures c.args.store.now).there

pub invariant_of-store : goal.invariant_of-store
invariant_of-store c = Concludes-IsStore c.prove_hyp-step.ensures c.store.invariant

pub returns : goal.returns
returns c = rule-obeys c.store.invariant c.store.view_is 2 (λ m. prove_hyp_step m.run.made c.in_ok-one.one c.in_ok-two.two) c.prove_hyp-step.ensures
    c.conclude.ensures c.requires
    (λ s. obey-ProveHyp (shown c.args.store.now c.args.stack.now s) _ _ _ _ (c.in_ok-two.ensures c.args.store.now).taken
    (c.in_ok-one.ensures c.args.store.now).taken)
