-- Terms, places and seats are told apart by `==`.
use Rattle.std.proofs.Common.{◌≡◌, true, refl, ap}
use Rattle.std.proofs.lemmas.Bool.{eqb-true, and_parts}
use Rattle.std.specs.Prelude.{nat_eq, ◌&&◌}
use Rattle.hol_term.specs.declared.TermId.{TermId}
use Rattle.hol_term.specs.declared.memo.Place.{Place}
use Rattle.hol_term.specs.declared.memo.Change.{Change}
use Rattle.hol_term.specs.declared.memo.Change.TheVariants.{Raise, Replace, Close}
use Rattle.hol_term.specs.declared.seats.Seat.{Seat}
use Rattle.hol_term.specs.contracts.memo.ChangePartialEq.TheImpl as change_eq
use Rattle.hol_term.specs.contracts.memo.PlacePartialEq.TheImpl as place_eq

-- numbers of terms that are equal by their test are one
pub id_exact : (a b : TermId) → nat_eq a.0 b.0 ≡ true → a ≡ b
id_exact a b h = let x = eqb-true a.0 b.0 h in λ i. record { 0 = x i }

change_exact : (c d : Change) → change_eq.eq-value.it c d ≡ true → c ≡ d
change_exact (Raise k) (Raise j) h = ap Raise (eqb-true k j h)
change_exact Replace Replace h = refl
change_exact Close Close h = refl
change_exact _ _ h = absurd (cc)

-- places that are equal by their test are one
pub place_exact : (p q : Place) → place_eq.eq-value.it p q ≡ true → p ≡ q
place_exact p q h =
    let a = and_parts (nat_eq p.id.0 q.id.0) (nat_eq p.depth q.depth && change_eq.eq-value.it p.change q.change) h in
    let b = and_parts (nat_eq p.depth q.depth) (change_eq.eq-value.it p.change q.change) a.1 in
    let x = eqb-true p.id.0 q.id.0 a.0 in
    let y = eqb-true p.depth q.depth b.0 in
    let z = change_exact p.change q.change b.1 in
    λ i. record { id = record { 0 = x i }; depth = y i; change = z i }

-- seats that are equal by their test are one
pub seat_exact : (p q : Seat) → (nat_eq p.id.0 q.id.0 && nat_eq p.scope.0 q.scope.0) ≡ true → p ≡ q
seat_exact p q h =
    let a = and_parts (nat_eq p.id.0 q.id.0) (nat_eq p.scope.0 q.scope.0) h in
    let x = eqb-true p.id.0 q.id.0 a.0 in
    let y = eqb-true p.scope.0 q.scope.0 a.1 in
    λ i. record { id = record { 0 = x i }; scope = record { 0 = y i } }
