use Rattle.std.proofs.lemmas.Bool.{ltb-true}
use Rattle.hol_term.proofs.OrderLaws.{without-found, without-lacking}
use Rattle.hol_term.proofs.TermTable.comes_later.Goals as goal

pub returns-in-Some : goal.returns-in-Some
returns-in-Some c =
    rw (← c.self.view_is) (λ before.
    let lt = rw (← c.self.view_is) at c.requires.id in
    without-found c.self.inside.types c.self.inside.entries c.self.invariant c.args.name c.args.ty c.args.id.0 lt c.in-Some.number (ltb-true _ _ before)
    c.in-Some.ensures)

pub returns-in-None : goal.returns-in-None
returns-in-None c =
    rw (← c.self.view_is) (λ told.
    let lt = rw (← c.self.view_is) at c.requires.id in
    let own = rw (← c.self.view_is) at c.requires.ty in
    without-lacking c.self.inside.types c.self.inside.entries c.self.invariant c.args.name c.args.ty c.args.id.0 lt own c.in-None.ensures)
