use Rattle.stack_machine.specs.Shown.{shown}
use Rattle.stack_machine.proofs.Obeyed.{first_fails, next_fails, stopped}
use Rattle.stack_machine.proofs.Inferred.{Exports-fails, Exports-obeys}
use Rattle.stack_machine.proofs.RuleWords.{obey-Thm}
use Rattle.stack_machine.proofs.inference.thm.Goals as goal

pub returns-in_err-concl : goal.returns-in_err-concl
returns-in_err-concl c = stopped _ _ c.from_residual.ensures.1 c.requires (λ s. first_fails _ _ _ (c.in_err-concl.ensures c.args.store.now).refused)

pub returns-in_err-hyps : goal.returns-in_err-hyps
returns-in_err-hyps c = stopped _ _ c.from_residual-in_err-hyps.ensures.1 c.requires
    (λ s. next_fails _ _ _ _ (c.in_ok-concl.ensures c.args.store.now).taken (first_fails _ _ _ c.in_err-hyps.ensures.refused))

pub returns-in_err-one : goal.returns-in_err-one
returns-in_err-one c = stopped _ _ c.from_residual-in_err-one.ensures.1 c.requires
    (λ s. next_fails _ _ _ _ (c.in_ok-concl.ensures c.args.store.now).taken
    (next_fails _ _ _ _ c.in_ok-hyps.ensures.taken (first_fails _ _ _ (c.in_err-one.ensures c.args.store.now).refused)))

pub export-requires-clause-one : goal.export-requires-clause-one
export-requires-clause-one c = (c.in_ok-one.ensures c.args.store.now).known c.requires

pub export-requires-clause-hyps : goal.export-requires-clause-hyps
export-requires-clause-hyps c = rw c.deref.ensures.value (c.in_ok-hyps.ensures.known c.requires)

pub export-requires-clause-concl : goal.export-requires-clause-concl
export-requires-clause-concl c = (c.in_ok-concl.ensures c.args.store.now).known c.requires

pub returns-in_err-export : goal.returns-in_err-export
returns-in_err-export c = Exports-fails 3
    (λ s. obey-Thm (shown c.args.store.now c.args.stack.now s) _ _ _ _ (c.in_ok-concl.ensures c.args.store.now).taken c.in_ok-hyps.ensures.taken _ _
    (c.in_ok-one.ensures c.args.store.now).taken) c.requires _ _ c.from_residual-in_err-export.ensures.1 (rw c.deref.ensures.value at c.in_err-export.ensures)

pub returns : goal.returns
returns c = Exports-obeys 3
    (λ s. obey-Thm (shown c.args.store.now c.args.stack.now s) _ _ _ _ (c.in_ok-concl.ensures c.args.store.now).taken c.in_ok-hyps.ensures.taken _ _
    (c.in_ok-one.ensures c.args.store.now).taken) c.requires (rw c.deref.ensures.value at c.in_ok-export.ensures) c.drop_top.ensures
