-- The first place of a list at which a test passes.
use Rattle.std.proofs.Common.{◌≡◌, ℕ, suc, ◌+◌, Bool, true, false, cond, refl, sym, ap, ◌∙◌, arith, List, [], ◌∷◌, ◌++◌, length, map, position, Option, Some, None}
use Rattle.std.specs.Prelude.{option_map}

module _ {X : Type 0} (p : X → Bool) where
  -- the place by recursion
  abbrev pub first : List X → Option ℕ
  first [] = None
  first (x ∷ xs) = cond (p x) (Some 0) (option_map suc (first xs))

  first-yes : (x : X) (xs : List X) → p x ≡ true → first (x ∷ xs) ≡ Some 0
  first-yes x xs h = ap (λ b. cond b (Some 0) (option_map suc (first xs))) h

  first-no : (x : X) (xs : List X) → p x ≡ false → first (x ∷ xs) ≡ option_map suc (first xs)
  first-no x xs h = ap (λ b. cond b (Some 0) (option_map suc (first xs))) h

  position-cons : (x : X) (xs : List X) (b : Bool) → p x ≡ b → position p (x ∷ xs) ≡ cond b (Some 0) (option_map suc (position p xs))
  position-cons x xs true h = grind (arith, h)
  position-cons x xs false h = grind (arith, h)

  pub position-first : (xs : List X) → position p xs ≡ first xs
  position-first [] = refl
  position-first (x ∷ xs) = position-cons x xs (p x) refl ∙ ap (λ o. cond (p x) (Some 0) (option_map suc o)) (position-first xs)

  one_more : (n : ℕ) (o : Option ℕ) → option_map suc (option_map (λ k. n + k) o) ≡ option_map (λ k. suc n + k) o
  one_more n None = refl
  one_more n (Some k) = let e : suc (n + k) ≡ suc n + k = omega arith in ap Some e

  none_more : (o : Option ℕ) → o ≡ option_map (λ k. 0 + k) o
  none_more None = refl
  none_more (Some n) = let e : n ≡ 0 + n = omega arith in ap Some e

  later : (x : X) (xs ys : List X) (n : ℕ) (b : Bool) → p x ≡ b → (o : Option ℕ) → first xs ≡ o → ((m : ℕ) → first xs ≡ Some m → first (xs ++ ys) ≡ Some m)
      → first (x ∷ xs) ≡ Some n → first (x ∷ (xs ++ ys)) ≡ Some n
  later x xs ys n true h o _ _ e = first-yes x (xs ++ ys) h ∙ sym (first-yes x xs h) ∙ e
  later x xs ys n false h (Some m) g more e = first-no x (xs ++ ys) h ∙ ap (option_map suc) (more m g ∙ sym g) ∙ sym (first-no x xs h) ∙ e
  later x xs ys n false h None g more e = absurd (let bad : None ≡ Some n = sym (ap (option_map suc) g) ∙ sym (first-no x xs h) ∙ e in cc)

  -- found in a first part
  pub first-append-Some : (xs ys : List X) (n : ℕ) → first xs ≡ Some n → first (xs ++ ys) ≡ Some n
  first-append-Some [] ys n e = absurd (cc)
  first-append-Some (x ∷ xs) ys n e = later x xs ys n (p x) refl (first xs) refl (λ m g. first-append-Some xs ys m g) e

  behind : (x : X) (xs ys : List X) (b : Bool) → p x ≡ b → (o : Option ℕ) → first xs ≡ o
      → (first xs ≡ None → first (xs ++ ys) ≡ option_map (λ n. length xs + n) (first ys))
      → first (x ∷ xs) ≡ None → first (x ∷ (xs ++ ys)) ≡ option_map (λ n. suc (length xs) + n) (first ys)
  behind x xs ys true h o _ _ e = absurd (let bad : Some 0 ≡ None = sym (first-yes x xs h) ∙ e in cc)
  behind x xs ys false h (Some m) g more e = absurd (let bad : Some (suc m) ≡ None = sym (ap (option_map suc) g) ∙ sym (first-no x xs h) ∙ e in cc)
  behind x xs ys false h None g more e = first-no x (xs ++ ys) h ∙ ap (option_map suc) (more g) ∙ one_more (length xs) (first ys)

  -- found behind it
  pub first-append-None : (xs ys : List X) → first xs ≡ None → first (xs ++ ys) ≡ option_map (λ n. length xs + n) (first ys)
  first-append-None [] ys e = none_more (first ys)
  first-append-None (x ∷ xs) ys e = behind x xs ys (p x) refl (first xs) refl (λ g. first-append-None xs ys g) e

pub first-map : {X Y : Type 0} (p : Y → Bool) (f : X → Y) (xs : List X) → first p (map f xs) ≡ first (λ x. p (f x)) xs
first-map p f [] = refl
first-map p f (x ∷ xs) = ap (λ o. cond (p (f x)) (Some 0) (option_map suc o)) (first-map p f xs)

pub first-same : {X : Type 0} (p q : X → Bool) → ((x : X) → p x ≡ q x) → (xs : List X) → first p xs ≡ first q xs
first-same p q h [] = refl
first-same p q h (x ∷ xs) = ap (λ b. cond b (Some 0) (option_map suc (first p xs))) (h x) ∙ ap (λ o. cond (q x) (Some 0) (option_map suc o))
    (first-same p q h xs)
