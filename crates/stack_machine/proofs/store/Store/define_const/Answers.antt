use Rattle.stack_machine.proofs.Stated.{Infers-memory}
use Rattle.stack_machine.proofs.Defined.{Defines-IsStore, Defines-Infers}
use Rattle.stack_machine.proofs.Inferred.{term-there}
use Rattle.stack_machine.proofs.store.Store.define_const.Goals as goal

pub returns-in_err-own : goal.returns-in_err-own
returns-in_err-own c = Infers-memory _ c.from_residual.ensures.1

pub define_const-requires : goal.define_const-requires
define_const-requires c = term-there c.self.invariant c.self.view_is c.requires.term

pub invariant_of-self : goal.invariant_of-self
invariant_of-self c = Defines-IsStore c.define_const.ensures c.self.invariant

pub returns : goal.returns
returns c = rw (← c.in_ok-own.ensures, ← c.self.view_is) (Defines-Infers c.define_const.ensures c.self.invariant)
