-- Places that are found by numbers.
use Rattle.std.proofs.Common.{◌≡◌, ℕ, zero, suc, ◌<◌, ◌≤◌, Bool, true, false, cond, refl, ap, ◌∙◌, arith, List, [], ◌∷◌, length, Some, None, slice_get}
use Rattle.std.specs.Prelude.{Option, option_map, if◌then◌else◌, nat_eq, unwrap_or}
use Rattle.std.proofs.lemmas.Bool.{eqb-true}
use Rattle.std.proofs.lemmas.Option.{same_Some}
use Rattle.holide_sig.specs.Places.{placed_with}
use Rattle.name_table.specs.Positions.{first}

-- the first place at which a test passes
pub first-none : {X : Type 0} (p : X → Bool) (xs : List X) → ((n : ℕ) (x : X) → slice_get xs n ≡ Some x → p x ≡ false) → first p xs ≡ None
first-none p [] h = refl
first-none p (x ∷ xs) h = ap (λ b. cond b (Some 0) (option_map suc (first p xs))) (h 0 x refl) ∙ ap (option_map suc) (first-none p xs (λ n y e. h (suc n) y e))

pub first-at : {X : Type 0} (p : X → Bool) (xs : List X) (k : ℕ) (x : X) → slice_get xs k ≡ Some x → p x ≡ true
    → ((n : ℕ) (y : X) → n < k → slice_get xs n ≡ Some y → p y ≡ false) → first p xs ≡ Some k
first-at p [] k x e t h = absurd (cc)
first-at p (y ∷ xs) zero x e t h = ap (λ b. cond b (Some 0) (option_map suc (first p xs))) (ap p (same_Some y x e) ∙ t)
first-at p (y ∷ xs) (suc k) x e t h =
    ap (λ b. cond b (Some 0) (option_map suc (first p xs))) (h 0 y (omega arith) refl)
    ∙ ap (option_map suc) (first-at p xs k x e t (λ n z l g. h (suc n) z (omega (arith, l)) g))

-- a number that has a place keeps it
pub placed_with-old : (placed : ℕ → Option ℕ) (n place m p : ℕ) → placed m ≡ Some p → placed_with placed n place m ≡ Some p
placed_with-old placed n place m p h = go (nat_eq n m) refl
  where
    go : (b : Bool) → nat_eq n m ≡ b → (if b then Some (unwrap_or (placed n) place) else placed m) ≡ Some p
    go true e = ap (λ k. Some (unwrap_or (placed k) place)) (eqb-true n m e) ∙ ap (λ o. Some (unwrap_or o place)) h
    go false e = h

-- and the number n has one, at most the length
pub placed_with-new : (placed : ℕ → Option ℕ) (n place : ℕ) → ((p : ℕ) → placed n ≡ Some p → p ≤ place) → (p : ℕ) × (placed_with placed n place n ≡ Some p)
    × (p ≤ place)
placed_with-new placed n place h =
    (unwrap_or (placed n) place, ap (λ b. if b then Some (unwrap_or (placed n) place) else placed n) (nat_eq-refl n), go (placed n) refl)
  where
    nat_eq-refl : (k : ℕ) → nat_eq k k ≡ true
    nat_eq-refl k = grind arith

    go : (o : Option ℕ) → placed n ≡ o → unwrap_or o place ≤ place
    go None e = omega arith
    go (Some p) e = h p e

pub placed_with-within : (placed : ℕ → Option ℕ) (n place m p most : ℕ) → ((k q : ℕ) → placed k ≡ Some q → q ≤ most) → place ≤ most
    → placed_with placed n place m ≡ Some p → p ≤ most
placed_with-within placed n place m p most h l e = go (nat_eq n m) refl e
  where
    told : (o : Option ℕ) → placed n ≡ o → Some (unwrap_or o place) ≡ Some p → p ≤ most
    told None f g = omega (arith, l, same_Some place p g)
    told (Some q) f g = omega (arith, h n q f, same_Some q p g)

    go : (b : Bool) → nat_eq n m ≡ b → (if b then Some (unwrap_or (placed n) place) else placed m) ≡ Some p → p ≤ most
    go true f g = told (placed n) refl g
    go false f g = h m p g
