use Rattle.article_spec.specs.Operands.{as_name, as_type}
use Rattle.stack_machine.proofs.Passing.{handed_on}
use Rattle.stack_machine.proofs.TwoObjects.{first-fails, pair-fails, pair-taken, second-fails}
use Rattle.stack_machine.proofs.store.Store.type_pair_in.Goals as goal

pub returns-in_err-first-clause-refused : goal.returns-in_err-first-clause-refused
returns-in_err-first-clause-refused c = handed_on _ _ _ c.from_residual.ensures.1 (pair-fails as_name as_type _ _ c.in_err-first.ensures.refused)

pub returns-in_err-id-clause-refused : goal.returns-in_err-id-clause-refused
returns-in_err-id-clause-refused c = handed_on _ _ _ c.from_residual-in_err-id.ensures.1
    (first-fails as_name as_type _ _ _ c.in_ok-first.ensures.two _ (c.in_err-id.ensures c.args.self.now).refused)

pub returns-in_err-ty-clause-refused : goal.returns-in_err-ty-clause-refused
returns-in_err-ty-clause-refused c = handed_on _ _ _ c.from_residual-in_err-ty.ensures.1
    (second-fails as_name as_type _ _ _ c.in_ok-first.ensures.two _ (c.in_ok-id.ensures c.args.self.now).taken _ (c.in_err-ty.ensures c.args.self.now).refused)

pub name-requires : goal.name-requires
name-requires c = (c.in_ok-id.ensures c.args.self.now).known c.in_ok-first.ensures.known.0

pub returns-clause-pair : goal.returns-clause-pair
returns-clause-pair c = rw c.in_ok-name.ensures
    (pair-taken as_name as_type _ _ _ c.in_ok-first.ensures.two _ (c.in_ok-id.ensures c.args.self.now).taken _ (c.in_ok-ty.ensures c.args.self.now).taken)

pub returns-clause-known : goal.returns-clause-known
returns-clause-known c = (c.in_ok-ty.ensures c.args.self.now).known c.in_ok-first.ensures.known.1
