use Rattle.article_spec.specs.Operands.{as_term, as_variable}
use Rattle.stack_machine.proofs.Passing.{handed_on}
use Rattle.stack_machine.proofs.TwoObjects.{first-fails, pair-fails, pair-taken, second-fails}
use Rattle.stack_machine.proofs.store.Store.term_pair_in.Goals as goal

pub returns-in_err-first-clause-refused : goal.returns-in_err-first-clause-refused
returns-in_err-first-clause-refused c = handed_on _ _ _ c.from_residual.ensures.1 (pair-fails as_variable as_term _ _ c.in_err-first.ensures.refused)

pub returns-in_err-name-clause-refused : goal.returns-in_err-name-clause-refused
returns-in_err-name-clause-refused c = handed_on _ _ _ c.from_residual-in_err-name.ensures.1
    (first-fails as_variable as_term _ _ _ c.in_ok-first.ensures.two _ (c.in_err-name.ensures c.args.self.now).refused)

pub returns-in_err-term-clause-refused : goal.returns-in_err-term-clause-refused
returns-in_err-term-clause-refused c = handed_on _ _ _ c.from_residual-in_err-term.ensures.1
    (second-fails as_variable as_term _ _ _ c.in_ok-first.ensures.two _ (c.in_ok-name.ensures c.args.self.now).taken _
    (c.in_err-term.ensures c.args.self.now).refused)

pub variable-requires : goal.variable-requires
variable-requires c = record { name = ((c.in_ok-name.ensures c.args.self.now).known c.in_ok-first.ensures.known.0).0 }

pub returns-clause-pair : goal.returns-clause-pair
returns-clause-pair c = rw (c.in_ok-variable.ensures.name, c.in_ok-variable.ensures.ty)
    (pair-taken as_variable as_term _ _ _ c.in_ok-first.ensures.two _ (c.in_ok-name.ensures c.args.self.now).taken _
    (c.in_ok-term.ensures c.args.self.now).taken)

pub returns-clause-known : goal.returns-clause-known
returns-clause-known c = (
  rw c.in_ok-variable.ensures.ty ((c.in_ok-name.ensures c.args.self.now).known c.in_ok-first.ensures.known.0).1,
  (c.in_ok-term.ensures c.args.self.now).known c.in_ok-first.ensures.known.1,
)
