use Rattle.stack_machine.proofs.Passing.{always}
use Rattle.stack_machine.proofs.Pushed.{taken_back}
use Rattle.stack_machine.proofs.Stated.{Concludes-memory}
use Rattle.stack_machine.proofs.stating.restate_into.Goals as goal

pub returns-in_err-add-clause-concludes : goal.returns-in_err-add-clause-concludes
returns-in_err-add-clause-concludes c = Concludes-memory _ c.from_residual.ensures.1

pub returns-in_err-add-clause-unchanged : goal.returns-in_err-add-clause-unchanged
returns-in_err-add-clause-unchanged c = always _ c.in_err-add.ensures.unchanged

pub restate-requires-clause-one : goal.restate-requires-clause-one
restate-requires-clause-one c = c.requires.one

pub restate-requires-clause-hyps : goal.restate-requires-clause-hyps
restate-requires-clause-hyps c = c.requires.hyps

pub restate-requires-clause-concl : goal.restate-requires-clause-concl
restate-requires-clause-concl c = c.requires.concl

pub returns-in-Ok-clause-concludes : goal.returns-in-Ok-clause-concludes
returns-in-Ok-clause-concludes c = c.in-Ok.ensures

pub returns-in-Ok-clause-noted : goal.returns-in-Ok-clause-noted
returns-in-Ok-clause-noted c = rw c.len.ensures at c.in_ok-add.ensures.added

pub returns-in-Err-clause-concludes : goal.returns-in-Err-clause-concludes
returns-in-Err-clause-concludes c = c.in-Err.ensures

pub returns-in-Err-clause-unchanged : goal.returns-in-Err-clause-unchanged
returns-in-Err-clause-unchanged c = taken_back _ _ _ _ c.in_ok-add.ensures.added c.forget_last.ensures
