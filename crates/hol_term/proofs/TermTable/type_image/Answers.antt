use Rattle.std.proofs.Common.{sym}
use Rattle.hol_term.proofs.Retyped.{same_terms, retyped_table, retyped_keeps}
use Rattle.hol_term.proofs.TermTable.type_image.Goals as goal

pub invariant_of-self : goal.invariant_of-self
invariant_of-self c = retyped_table _ _ c.raw_subst.ensures.keeps _ c.self.invariant

pub returns-clause-terms : goal.returns-clause-terms
returns-clause-terms c = rw (← c.self.view_is) (sym (same_terms _ _ c.raw_subst.ensures.keeps _ c.self.invariant))

pub returns-clause-keeps : goal.returns-clause-keeps
returns-clause-keeps c = rw (← c.self.view_is) (retyped_keeps _ _ c.raw_subst.ensures.keeps _ c.self.invariant)
