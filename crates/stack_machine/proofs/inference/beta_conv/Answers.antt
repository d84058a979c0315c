use Rattle.hol_term.specs.Tables.{term_at}
use Rattle.article_spec.specs.RuleSteps.{beta_conv_step}
use Rattle.stack_machine.specs.Shown.{shown}
use Rattle.stack_machine.proofs.Obeyed.{first_fails, stopped}
use Rattle.stack_machine.proofs.Inferred.{Concludes-IsStore, rule-obeys, term-there}
use Rattle.stack_machine.proofs.RuleWords.{obey-BetaConv}
use Rattle.stack_machine.proofs.inference.beta_conv.Goals as goal

pub returns-in_err-term : goal.returns-in_err-term
returns-in_err-term c = stopped _ _ c.from_residual.ensures.1 c.requires (λ s. first_fails _ _ _ (c.in_err-term.ensures c.args.store.now).refused)

pub beta_conv-step-requires : goal.beta_conv-step-requires
beta_conv-step-requires c = term-there c.store.invariant c.store.view_is ((c.in_ok-term.ensures c.args.store.now).known c.requires)

pub conclude-requires-clause-there : goal.conclude-requires-clause-there
conclude-requires-clause-there c = (c.in_ok-term.ensures c.args.store.now).there

pub invariant_of-store : goal.invariant_of-store
invariant_of-store c = Concludes-IsStore c.beta_conv-step.ensures c.store.invariant

pub returns : goal.returns
returns c = rule-obeys c.store.invariant c.store.view_is 1 (λ m. beta_conv_step (term_at m.trees c.in_ok-term.term.0)) c.beta_conv-step.ensures
    c.conclude.ensures c.requires
    (λ s. obey-BetaConv (shown c.args.store.now c.args.stack.now s) _ _ (c.in_ok-term.ensures c.args.store.now).taken)
