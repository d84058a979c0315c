-- The first place at which a test passes.
use Rattle.std.proofs.Common.{◌≡◌, ℕ, zero, suc, ◌<◌, ◌≤◌, refl, sym, ap, ◌∙◌, arith, List, [], ◌∷◌, take, Bool, true, false, cond, Option, None, Some}
use Rattle.std.specs.Prelude.{slice_get}
use Rattle.std.specs.List.{find}
use Rattle.std.proofs.lemmas.Option.{same_Some}
use Rattle.compose.specs.Places.{next_place, first_place}

next_place-Some : (o : Option ℕ) (i : ℕ) → next_place o ≡ Some i → (j : ℕ) × (o ≡ Some j) × (i ≡ suc j)
next_place-Some None i e = absurd (cc)
next_place-Some (Some j) i e = (j, refl, sym (same_Some _ _ e))

module _ {A : Type 0} (test : A → Bool) where
  -- the first that passes stands at a place, if it passes and none before it
  pub first_place-at : (xs : List A) (i : ℕ) (x : A) → slice_get xs i ≡ Some x → test x ≡ true
      → ((j : ℕ) (y : A) → j < i → slice_get xs j ≡ Some y → test y ≡ true → ⊥) → first_place test xs ≡ Some i
  first_place-at [] i x e h none = absurd (cc)
  first_place-at (z ∷ xs) zero x e h none = ap (λ b. cond b (Some 0) (next_place (first_place test xs))) (ap test (same_Some _ _ e) ∙ h)
  first_place-at (z ∷ xs) (suc i) x e h none = go (test z) refl (first_place-at xs i x e h (λ j y l. none (suc j) y (omega (arith, l))))
    where
      go : (b : Bool) → test z ≡ b → first_place test xs ≡ Some i → cond b (Some 0) (next_place (first_place test xs)) ≡ Some (suc i)
      go true p on = absurd (none 0 z (omega arith) refl p)
      go false p on = ap next_place on

  -- none passes
  pub first_place-nowhere : (xs : List A) → ((j : ℕ) (y : A) → slice_get xs j ≡ Some y → test y ≡ true → ⊥) → first_place test xs ≡ None
  first_place-nowhere [] none = refl
  first_place-nowhere (z ∷ xs) none = go (test z) refl (first_place-nowhere xs (λ j. none (suc j)))
    where
      go : (b : Bool) → test z ≡ b → first_place test xs ≡ None → cond b (Some 0) (next_place (first_place test xs)) ≡ None
      go true p on = absurd (none 0 z refl p)
      go false p on = ap next_place on

  -- what is found among the first so many stands at the first place, if that is below
  pub find-below : (xs : List A) (n i : ℕ) → first_place test xs ≡ Some i → i < n → find test (take n xs) ≡ slice_get xs i
  find-below [] n i e l = absurd (cc)
  find-below (x ∷ xs) zero i e l = absurd (omega arith)
  find-below (x ∷ xs) (suc n) i e l = go (test x) e (find-below xs n)
    where
      go : (b : Bool) → cond b (Some 0) (next_place (first_place test xs)) ≡ Some i
          → ((j : ℕ) → first_place test xs ≡ Some j → j < n → find test (take n xs) ≡ slice_get xs j) → cond b (Some x) (find test (take n xs))
          ≡ slice_get (x ∷ xs) i
      go true e on = let s : i ≡ 0 = sym (same_Some _ _ e) in rw s refl
      go false e on = let w = next_place-Some (first_place test xs) i e in rw w.2 (on w.0 w.1 (omega (arith, l, w.2)))

  pub find-not_below : (xs : List A) (n i : ℕ) → first_place test xs ≡ Some i → n ≤ i → find test (take n xs) ≡ None
  find-not_below [] n i e l = absurd (cc)
  find-not_below (x ∷ xs) zero i e l = refl
  find-not_below (x ∷ xs) (suc n) i e l = go (test x) e (find-not_below xs n)
    where
      go : (b : Bool) → cond b (Some 0) (next_place (first_place test xs)) ≡ Some i
          → ((j : ℕ) → first_place test xs ≡ Some j → n ≤ j → find test (take n xs) ≡ None) → cond b (Some x) (find test (take n xs)) ≡ None
      go true e on = let s : i ≡ 0 = sym (same_Some _ _ e) in absurd (omega (arith, l, s))
      go false e on = let w = next_place-Some (first_place test xs) i e in on w.0 w.1 (omega (arith, l, w.2))

  pub find-nowhere : (xs : List A) (n : ℕ) → first_place test xs ≡ None → find test (take n xs) ≡ None
  find-nowhere [] zero e = refl
  find-nowhere [] (suc n) e = refl
  find-nowhere (x ∷ xs) zero e = refl
  find-nowhere (x ∷ xs) (suc n) e = go (test x) (first_place test xs) refl e (find-nowhere xs n)
    where
      go : (b : Bool) (o : Option ℕ) → first_place test xs ≡ o → cond b (Some 0) (next_place o) ≡ None
          → (first_place test xs ≡ None → find test (take n xs) ≡ None) → cond b (Some x) (find test (take n xs)) ≡ None
      go true o p e on = absurd (cc)
      go false (Some j) p e on = absurd (cc)
      go false None p e on = on p
