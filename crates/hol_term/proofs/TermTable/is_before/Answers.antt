use Rattle.std.proofs.lemmas.Bool.{ltb-true}
use Rattle.hol_term.proofs.OrderLaws.{without-before}
use Rattle.hol_term.proofs.TermTable.is_before.Goals as goal

pub returns : goal.returns
returns c =
    rw (← c.self.view_is) (λ before v own.
    let lt = rw (← c.self.view_is) at c.requires in
    without-before c.self.inside.types c.self.inside.entries c.self.invariant v c.args.id.0 c.args.variable.0 lt (ltb-true _ _ before) own)
