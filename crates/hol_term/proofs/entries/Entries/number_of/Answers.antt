use Rattle.hol_term.proofs.entries.Entries.number_of.Goals as goal

pub returns-in-At : goal.returns-in-At
returns-in-At c = rw (← c.self.view_is) (rw c.deref.ensures.value at c.in-At.ensures)
