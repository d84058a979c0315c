use Rattle.stack_machine.specs.StoredLaws.{Grows-refl}
use Rattle.stack_machine.proofs.Passing.{handed_on}
use Rattle.stack_machine.proofs.store.Store.abstraction.Goals as goal

pub returns-in_err-variable-clause-refused : goal.returns-in_err-variable-clause-refused
returns-in_err-variable-clause-refused c = handed_on _ _ _ c.from_residual.ensures.1 tt

pub returns-in_err-variable-clause-grows : goal.returns-in_err-variable-clause-grows
returns-in_err-variable-clause-grows c = Grows-refl _

pub abstraction_over-requires-clause-ty : goal.abstraction_over-requires-clause-ty
abstraction_over-requires-clause-ty c = rw c.in_ok-variable.ensures.ty c.requires.ty

pub abstraction_over-requires-clause-body : goal.abstraction_over-requires-clause-body
abstraction_over-requires-clause-body c = c.requires.body

pub returns-clause-known : goal.returns-clause-known
returns-clause-known c = c.abstraction_over.ensures.known

pub returns-clause-made : goal.returns-clause-made
returns-clause-made c = rw (c.in_ok-variable.ensures.name, c.in_ok-variable.ensures.ty) at c.abstraction_over.ensures.made

pub returns-clause-fits : goal.returns-clause-fits
returns-clause-fits c = rw (c.in_ok-variable.ensures.name, c.in_ok-variable.ensures.ty) at c.abstraction_over.ensures.fits

pub returns-clause-refused : goal.returns-clause-refused
returns-clause-refused c = rw (c.in_ok-variable.ensures.name, c.in_ok-variable.ensures.ty) at c.abstraction_over.ensures.refused

pub returns-clause-grows : goal.returns-clause-grows
returns-clause-grows c = c.abstraction_over.ensures.grows

pub returns-clause-run : goal.returns-clause-run
returns-clause-run c = c.abstraction_over.ensures.run
