use Rattle.stack_machine.specs.Shown.{shown}
use Rattle.stack_machine.proofs.Obeyed.{first_fails, next_fails, stopped}
use Rattle.stack_machine.proofs.Inferred.{Infers-fails, Infers-obeys}
use Rattle.stack_machine.proofs.RuleWords.{obey-Axiom}
use Rattle.stack_machine.proofs.inference.axiom.Goals as goal

pub returns-in_err-concl : goal.returns-in_err-concl
returns-in_err-concl c = stopped _ _ c.from_residual.ensures.1 c.requires (λ s. first_fails _ _ _ (c.in_err-concl.ensures c.args.store.now).refused)

pub returns-in_err-hyps : goal.returns-in_err-hyps
returns-in_err-hyps c = stopped _ _ c.from_residual-in_err-hyps.ensures.1 c.requires
    (λ s. next_fails _ _ _ _ (c.in_ok-concl.ensures c.args.store.now).taken (first_fails _ _ _ c.in_err-hyps.ensures.refused))

pub assume_or_meet-requires-clause-hyps : goal.assume_or_meet-requires-clause-hyps
assume_or_meet-requires-clause-hyps c = rw c.deref.ensures.value (c.in_ok-hyps.ensures.known c.requires)

pub assume_or_meet-requires-clause-concl : goal.assume_or_meet-requires-clause-concl
assume_or_meet-requires-clause-concl c = (c.in_ok-concl.ensures c.args.store.now).known c.requires

pub returns-in_err-step : goal.returns-in_err-step
returns-in_err-step c = Infers-fails 2
    (λ s. obey-Axiom (shown c.args.store.now c.args.stack.now s) _ _ _ _ (c.in_ok-concl.ensures c.args.store.now).taken c.in_ok-hyps.ensures.taken) c.requires _
    _ c.from_residual-in_err-step.ensures.1 (rw c.deref.ensures.value at c.in_err-step.ensures)

pub put-requires-clause-there : goal.put-requires-clause-there
put-requires-clause-there c = c.in_ok-hyps.ensures.there

pub returns : goal.returns
returns c = Infers-obeys 2
    (λ s. obey-Axiom (shown c.args.store.now c.args.stack.now s) _ _ _ _ (c.in_ok-concl.ensures c.args.store.now).taken c.in_ok-hyps.ensures.taken) c.requires
    (rw c.deref.ensures.value at c.in_ok-step.ensures) c.put.ensures
