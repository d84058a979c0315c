-- Places are told apart by `==`.
use Rattle.std.proofs.Common.{◌≡◌, true, refl, ap, arith}
use Rattle.std.proofs.lemmas.Bool.{eqb-true, and_parts}
use Rattle.std.specs.Prelude.{nat_eq, ◌&&◌}
use Rattle.lp_term.specs.declared.memo.Place.{Place}
use Rattle.lp_term.specs.declared.memo.Change.{Change}
use Rattle.lp_term.specs.declared.memo.Change.TheVariants.{Raise, Replace}
use Rattle.lp_term.specs.contracts.memo.ChangePartialEq.TheImpl as change_eq
use Rattle.lp_term.specs.contracts.memo.PlacePartialEq.TheImpl as place_eq

change_exact : (c d : Change) → change_eq.eq-value.it c d ≡ true → c ≡ d
change_exact (Raise k) (Raise j) h = ap Raise (eqb-true k j h)
change_exact Replace Replace h = refl
change_exact _ _ h = absurd (cc)

-- places that are equal by their test are one
pub place_exact : (p q : Place) → place_eq.eq-value.it p q ≡ true → p ≡ q
place_exact p q h =
    let a = and_parts (nat_eq p.id.0 q.id.0) (nat_eq p.depth q.depth && change_eq.eq-value.it p.change q.change) h in
    let b = and_parts (nat_eq p.depth q.depth) (change_eq.eq-value.it p.change q.change) a.1 in
    let x = eqb-true p.id.0 q.id.0 a.0 in
    let y = eqb-true p.depth q.depth b.0 in
    let z = change_exact p.change q.change b.1 in
    λ i. record { id = record { 0 = x i }; depth = y i; change = z i }
