-- Where each of some numbers is told by an element, and no element tells two, there are no more numbers than elements.
use Rattle.std.proofs.Common.{◌≡◌, ◌≢◌, ℕ, zero, suc, ◌<◌, ◌≤◌, Bool, true, false, not, ◌||◌, cond, List, [], ◌∷◌, length, refl, ap₂, ◌∙◌, arith}
use Rattle.std.specs.List.{filter, list_any}

module _ {A : Type 0} (tells : ℕ → A → Bool) (bound : ℕ) (one : (p q : ℕ) (x : A) → p < bound → q < bound → tells p x ≡ true → tells q x ≡ true → p ≡ q) where
  -- the elements that don't tell a number
  abbrev others : ℕ → List A → List A
  others p xs = filter (λ x. not (tells p x)) xs

  same-others : (p q : ℕ) (xs : List A) → p < bound → q < bound → p ≢ q → list_any (tells q) (others p xs) ≡ list_any (tells q) xs
  same-others p q [] hp hq apart = refl
  same-others p q (x ∷ xs) hp hq apart = go (tells p x) (tells q x) refl refl (same-others p q xs hp hq apart)
    where
      go : (b c : Bool) → tells p x ≡ b → tells q x ≡ c → list_any (tells q) (others p xs) ≡ list_any (tells q) xs
          → list_any (tells q) (cond (not b) (x ∷ others p xs) (others p xs)) ≡ (c || list_any (tells q) xs)
      go true true e f h = absurd (apart (one p q x hp hq e f))
      go true false e f h = h
      go false c e f h = ap₂ (λ y z. y || z) f h

  fewer : (p : ℕ) (xs : List A) → list_any (tells p) xs ≡ true → length (others p xs) < length xs
  fewer p [] e = absurd (cc)
  fewer p (x ∷ xs) e = go (tells p x) e (fewer p xs) (at_most xs)
    where
      at_most : (ys : List A) → length (others p ys) ≤ length ys
      at_most [] = omega arith
      at_most (y ∷ ys) = step (tells p y) (at_most ys)
        where
          step : (b : Bool) → length (others p ys) ≤ length ys → length (cond (not b) (y ∷ others p ys) (others p ys)) ≤ suc (length ys)
          step true h = omega (arith, h)
          step false h = omega (arith, h)

      go : (b : Bool) → (b || list_any (tells p) xs) ≡ true → (list_any (tells p) xs ≡ true → length (others p xs) < length xs)
          → length (others p xs) ≤ length xs
          → length (cond (not b) (x ∷ others p xs) (others p xs)) < suc (length xs)
      go true e h l = omega (arith, l)
      go false e h l = omega (arith, h e)

  pub at_least : (xs : List A) (r : ℕ) → r ≤ bound → ((k : ℕ) → k < r → list_any (tells k) xs ≡ true) → r ≤ length xs
  at_least xs zero small h = omega arith
  at_least xs (suc r) small h =
      let less = fewer r xs (h r (omega arith)) in
      let rest = at_least (others r xs) r (omega (arith, small))
      (λ k l. same-others r k xs (omega (arith, small)) (omega (arith, small, l)) (λ e. absurd (omega (arith, e, l))) ∙ h k (omega (arith, l))) in
      omega (arith, less, rest)
