-- Places, and numbers of variables, are told apart by `==`.
use Rattle.std.proofs.Common.{◌≡◌, true}
use Rattle.std.proofs.lemmas.Bool.{eqb-true, and_parts}
use Rattle.std.specs.Prelude.{nat_eq, ◌&&◌}
use Rattle.translate_term.specs.declared.generic.Binder.{Binder}
use Rattle.translate_term.specs.declared.memo.Place.{Place}

-- places that are equal by their test are one
pub place_exact : (p q : Place) → (nat_eq p.id.0 q.id.0 && nat_eq p.depth q.depth) ≡ true → p ≡ q
place_exact p q h =
    let a = and_parts (nat_eq p.id.0 q.id.0) (nat_eq p.depth q.depth) h in
    let x = eqb-true p.id.0 q.id.0 a.0 in
    let y = eqb-true p.depth q.depth a.1 in
    λ i. record { id = record { 0 = x i }; depth = y i }

-- variables of equal numbers are one
pub binder_exact : (a b : Binder) → nat_eq a.0 b.0 ≡ true → a ≡ b
binder_exact a b h = let x = eqb-true a.0 b.0 h in λ i. record { 0 = x i }
