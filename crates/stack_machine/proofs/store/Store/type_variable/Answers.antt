use Rattle.stack_machine.proofs.Stores.{IsStore-Grows, Grows-Grows, run-Grows}
use Rattle.stack_machine.proofs.store.Store.type_variable.Goals as goal

pub invariant_of-self : goal.invariant_of-self
invariant_of-self c = IsStore-Grows c.ty_var.ensures.grows c.self.invariant

pub returns-clause-grows : goal.returns-clause-grows
returns-clause-grows c = rw (← c.self.view_is) (Grows-Grows c.ty_var.ensures.grows c.self.invariant)

pub returns-clause-run : goal.returns-clause-run
returns-clause-run c = rw (← c.self.view_is) (run-Grows c.ty_var.ensures.grows c.self.invariant)

pub returns-clause-known : goal.returns-clause-known
returns-clause-known c = c.ty_var.ensures.known

pub returns-clause-made : goal.returns-clause-made
returns-clause-made c = rw (← c.self.view_is, ← c.name_in-name.ensures) c.ty_var.ensures.made

pub returns-clause-refused : goal.returns-clause-refused
returns-clause-refused c = c.ty_var.ensures.refusal
