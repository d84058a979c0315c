use Rattle.std.proofs.Common.{length, refl, sym}
use Rattle.hol_type.specs.Numbered.{number_in}
use Rattle.hol_type.proofs.Numbering.{AreNumbered-more, AreNumbered-same, alike_updates, none_alike}
use Rattle.hol_type.proofs.entries.Entries.insert_full.Goals as goal

pub invariant_of-self-in-None : goal.invariant_of-self-in-None
invariant_of-self-in-None c =
    let es = c.self.inside.entries.items in
    let e = c.in_ok-number-in-None.ensures in
    let n = e.numbers in
    rw e.entries
    (AreNumbered-more es c.self.inside.numbers (number_in c.put.new.numbers) c.args.entry c.self.invariant (sym c.in-None.ensures)
    (alike_updates (number_in c.self.inside.numbers) (number_in c.put.new.numbers) n.0 c.args.entry.node (length es) n.1 n.2.0))

pub returns-in-Some-clause-inserted : goal.returns-in-Some-clause-inserted
returns-in-Some-clause-inserted c = rw (← c.self.view_is) (refl, c.self.invariant.told c.in-Some.number c.args.entry.node (sym c.in-Some.ensures))

pub returns-in_ok-number-in-None-clause-inserted : goal.returns-in_ok-number-in-None-clause-inserted
returns-in_ok-number-in-None-clause-inserted c =
    let e = c.in_ok-number-in-None.ensures in
    rw (← c.self.view_is) (
      e.entries,
      e.number,
      none_alike c.self.inside.entries.items c.self.inside.numbers c.args.entry.node c.self.invariant (sym c.in-None.ensures),
    )
