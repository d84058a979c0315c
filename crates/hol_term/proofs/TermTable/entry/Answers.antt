use Rattle.std.proofs.Common.{arith}
use Rattle.hol_term.specs.TableLaws.{term_in-Some}
use Rattle.hol_term.proofs.EntryLaws.{length-terms_of, terms_of-Some}
use Rattle.hol_term.proofs.TermTable.entry.Goals as goal

pub get-requires : goal.get-requires
get-requires c =
    let h = rw (← c.self.view_is) at c.requires in
    omega (arith, length-terms_of c.self.inside.types c.self.inside.entries, h)

pub returns-clause-is : goal.returns-clause-is
returns-clause-is c = rw (← c.self.view_is) (terms_of-Some _ _ _ _ (c.self.invariant.lower _ _ c.get.ensures) c.get.ensures)

pub returns-clause-measured : goal.returns-clause-measured
returns-clause-measured c =
    let h = rw (← c.self.view_is) at c.requires in
    rw (← c.self.view_is) (c.self.invariant.measured _ _ _ c.get.ensures (term_in-Some _ _ h))

pub returns-clause-small : goal.returns-clause-small
returns-clause-small c = rw (← c.self.view_is)
    (omega (arith, length-terms_of c.self.inside.types c.self.inside.entries, c.len-count.ensures.count, c.len-count.ensures.small))
