use Rattle.std.proofs.Common.{◌∙◌, sym, arith}
use Rattle.hol_term.proofs.EntryLaws.{length-terms_of}
use Rattle.hol_term.proofs.Retyped.{owned}
use Rattle.hol_term.proofs.TermTable.mark.Goals as goal

pub returns-clause-terms : goal.returns-clause-terms
returns-clause-terms c = rw (← c.self.view_is) (c.len.ensures.count ∙ sym (length-terms_of c.self.inside.types c.self.inside.entries))

pub returns-clause-own : goal.returns-clause-own
returns-clause-own c = rw (← c.self.view_is) (owned c.self.inside.types c.self.inside.entries c.self.invariant)

pub returns-clause-small : goal.returns-clause-small
returns-clause-small c = rw (← c.self.view_is)
    (omega (arith, length-terms_of c.self.inside.types c.self.inside.entries, c.len.ensures.count, c.len.ensures.small))
