use Rattle.std.proofs.Common.{refl, subst, sym, ap}
use Rattle.std.specs.Prelude.{IsSome}
use Rattle.compose.specs.Listed.{items_of, list_of, AreOrdered, IsStruck}
use Rattle.compose.proofs.listing.strike.Goals as goal

pub returns-in-Some-clause-struck : goal.returns-in-Some-clause-struck
returns-in-Some-clause-struck c held h =
    let old = ap items_of c.in-Some.ensures.value in
    let new = ap items_of ((c.get_mut.follows.holds c.strike_off.new.list).3 (subst IsSome c.in-Some.ensures.value refl)).1 in
    subst (λ l. IsStruck held c.args.place l (list_of (c.get_mut.follows.lender c.strike_off.new.list).entries c.args.concl)) old
    (subst (λ l. IsStruck held c.args.place c.in-Some.list.now.items l) (sym new) (c.strike_off.ensures held (subst (λ l. AreOrdered held l) (sym old) h)))
