-- A term without free variables and loose numbers, under a new binder.
use Rattle.std.proofs.Common.{◌≡◌, ℕ, suc, ◌≤◌, refl, ap, arith, List, [], ◌∷◌, ◌++◌, length, true}
use Rattle.std.specs.Prelude.{nat_eq}
use Rattle.std.proofs.lemmas.Bool.Decides.{Decides-eqb}
use Rattle.std.proofs.Math.Path.{ap₂}
use Rattle.hol_spec.specs.Defining.{is_closed}
use Rattle.hol_spec.specs.TermBinding.{close_at, loose}
use Rattle.hol_spec.specs.Terms.{Term, Variable, free, bound, constant, app, lam, free_places, HasType}
use Rattle.hol_spec.specs.Types.{HolType}
use Rattle.hol_laws.specs.TermTyping.{loose-typed}
use Rattle.hol_rules.specs.Laws.{IsWithoutVariables}

both-empty : {A : Type 0} (xs ys : List A) → xs ++ ys ≡ [] → (xs ≡ []) × (ys ≡ [])
both-empty [] ys e = (refl, e)
both-empty (x ∷ xs) ys e = absurd (cc)

pub close_at-closed : (d : ℕ) (v : Variable) (t : Term) → free_places t ≡ [] → loose t ≤ d → close_at d v t ≡ t
close_at-closed d v (free n c) e l = absurd (cc)
close_at-closed d v (bound n) e l = grind arith
close_at-closed d v (constant n c) e l = refl
close_at-closed d v (app f x) e l = let p = both-empty (free_places f) (free_places x) e in ap₂ app (close_at-closed d v f p.0 (omega (arith, l)))
    (close_at-closed d v x p.1 (omega (arith, l)))
close_at-closed d v (lam c b) e l = ap (lam c) (close_at-closed (suc d) v b e (omega (arith, l)))

pub none-of : {A : Type 0} (xs : List A) → nat_eq (length xs) 0 ≡ true → xs ≡ []
none-of [] e = refl
none-of (x ∷ xs) e = let l : length (x ∷ xs) ≡ 0 = (Decides-eqb (length (x ∷ xs)) 0).0 e in absurd (omega (arith, l))

-- a closed term that has a type is such a term
pub closed-typed : (t : Term) (a : HolType) → is_closed t ≡ true → HasType t a → IsWithoutVariables t
closed-typed t a c h = record { free = none-of (free_places t) c; loose = loose-typed [] t a h }
