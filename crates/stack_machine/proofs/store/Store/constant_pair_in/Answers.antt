use Rattle.article_spec.specs.Operands.{as_name, as_variable}
use Rattle.stack_machine.proofs.Passing.{handed_on}
use Rattle.stack_machine.proofs.TwoObjects.{first-fails, pair-fails, pair-taken, second-fails}
use Rattle.stack_machine.proofs.store.Store.constant_pair_in.Goals as goal

pub returns-in_err-first-clause-refused : goal.returns-in_err-first-clause-refused
returns-in_err-first-clause-refused c = handed_on _ _ _ c.from_residual.ensures.1 (pair-fails as_name as_variable _ _ c.in_err-first.ensures.refused)

pub returns-in_err-id-clause-refused : goal.returns-in_err-id-clause-refused
returns-in_err-id-clause-refused c = handed_on _ _ _ c.from_residual-in_err-id.ensures.1
    (first-fails as_name as_variable _ _ _ c.in_ok-first.ensures.two _ (c.in_err-id.ensures c.args.self.now).refused)

pub returns-in_err-own-clause-refused : goal.returns-in_err-own-clause-refused
returns-in_err-own-clause-refused c = handed_on _ _ _ c.from_residual-in_err-own.ensures.1
    (second-fails as_name as_variable _ _ _ c.in_ok-first.ensures.two _ (c.in_ok-id.ensures c.args.self.now).taken _
    (c.in_err-own.ensures c.args.self.now).refused)

pub name-requires : goal.name-requires
name-requires c = (c.in_ok-id.ensures c.args.self.now).known c.in_ok-first.ensures.known.0

pub variable-requires : goal.variable-requires
variable-requires c = record { name = ((c.in_ok-own.ensures c.args.self.now).known c.in_ok-first.ensures.known.1).0 }

pub returns-clause-pair : goal.returns-clause-pair
returns-clause-pair c = rw (c.in_ok-name.ensures, c.in_ok-variable.ensures.name, c.in_ok-variable.ensures.ty)
    (pair-taken as_name as_variable _ _ _ c.in_ok-first.ensures.two _ (c.in_ok-id.ensures c.args.self.now).taken _ (c.in_ok-own.ensures c.args.self.now).taken)

pub returns-clause-known : goal.returns-clause-known
returns-clause-known c = rw c.in_ok-variable.ensures.ty ((c.in_ok-own.ensures c.args.self.now).known c.in_ok-first.ensures.known.1).1
