use Rattle.hol_term.proofs.Retyped.{cut_table, cut_is}
use Rattle.hol_term.proofs.TermTable.cut.Goals as goal

pub invariant_of-self : goal.invariant_of-self
invariant_of-self c =
    let h = rw (← c.self.view_is) at c.requires in
    rw (c.truncate.ensures, c.cut.ensures) (cut_table c.self.inside.types c.self.inside.entries c.self.invariant h.0 c.args.mark h.1)

pub returns : goal.returns
returns c = λ before h.
    let e = rw (← c.self.view_is) at h in
    rw (c.truncate.ensures, c.cut.ensures) (cut_is c.self.inside.types c.self.inside.entries c.self.invariant before c.args.mark e)
