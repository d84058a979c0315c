use Rattle.article_spec.specs.RuleSteps.{sym_step}
use Rattle.stack_machine.specs.Shown.{shown}
use Rattle.stack_machine.proofs.Obeyed.{first_fails, stopped}
use Rattle.stack_machine.proofs.Inferred.{Concludes-IsStore, rule-obeys, step-there}
use Rattle.stack_machine.proofs.RuleWords.{obey-Sym}
use Rattle.stack_machine.proofs.inference.sym.Goals as goal

pub returns-in_err-one : goal.returns-in_err-one
returns-in_err-one c = stopped _ _ c.from_residual.ensures.1 c.requires (λ s. first_fails _ _ _ (c.in_err-one.ensures c.args.store.now).refused)

pub sym-step-requires : goal.sym-step-requires
sym-step-requires c = step-there c.store.invariant c.store.view_is ((c.in_ok-one.ensures c.args.store.now).known c.requires)

pub conclude-requires-clause-there : goal.conclude-requires-clause-there
conclude-requires-clause-there c = (c.in_ok-one.ensures c.args.store.now).there

pub invariant_of-store : goal.invariant_of-store
invariant_of-store c = Concludes-IsStore c.sym-step.ensures c.store.invariant

pub returns : goal.returns
returns c = rule-obeys c.store.invariant c.store.view_is 1 (λ m. sym_step m.run.made c.in_ok-one.one) c.sym-step.ensures c.conclude.ensures c.requires
    (λ s. obey-Sym (shown c.args.store.now c.args.stack.now s) _ _ (c.in_ok-one.ensures c.args.store.now).taken)
