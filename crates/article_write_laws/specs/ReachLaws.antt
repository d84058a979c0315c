-- What the exports reach: the reached steps are the flagged ones, each export is one of them, and so is each premise of one; the two laws of a type definition are reached together.
use Rattle.std.proofs.Common.{◌≡◌, ℕ, zero, suc, ◌+◌, ◌<◌, ◌==◌, Bool, true, false, ◌||◌, cond, List, [], ◌∷◌, ◌++◌, Some, slice_get, refl, sym, ap, ap₂, subst, ◌∙◌, arith, inl, inr}
use Rattle.std.specs.List.{list_any}
use Rattle.std.proofs.lemmas.Bool.Decides.{nat_tests}
use Rattle.hol_laws.specs.NameEqualityLaws.{name_eq-refl}
use Rattle.hol_spec.specs.Lists.{IsIn}
use Rattle.hol_laws.specs.Members.{IsIn-left, IsIn-right}
use Rattle.hol_spec.specs.Proofs.{Step}
use Rattle.article_write_spec.specs.Mentions.{Need, need_eq}
use Rattle.article_write_spec.specs.ReachedSteps.{Numbered, needs, serves, is_reached, Reached, reach, reached_from}
use Rattle.article_write_laws.specs.Flags.{selected}

need_eq-refl : (n : Need) → need_eq n n ≡ true
need_eq-refl (Need.operator m) = name_eq-refl m
need_eq-refl (Need.constant m) = name_eq-refl m
need_eq-refl (Need.step i) = grind (arith, nat_tests)

-- what is needed of the steps from i on
module _ (roots : List Need) where
  abbrev pub needed : ℕ → List Step → List Need
  needed i xs = (reached_from roots i xs).needed

  -- whether the step with a number is reached, among those from i on
  abbrev pub is_flagged : ℕ → List Step → ℕ → Bool
  is_flagged i [] j = false
  is_flagged i (x ∷ xs) j = cond (j == i) (is_reached (needed (i + 1) xs) (record { number = i; step = x })) (is_flagged (i + 1) xs j)

  pub reached-on : (r : Reached) (x : Numbered) → is_reached r.needed x ≡ true → reach r x ≡ record { needed = r.needed ++ needs x.step; steps = x ∷ r.steps }
  reached-on r x e = ap (λ b. cond b (record { needed = r.needed ++ needs x.step; steps = x ∷ r.steps }) r) e

  pub reached-off : (r : Reached) (x : Numbered) → is_reached r.needed x ≡ false → reach r x ≡ r
  reached-off r x e = ap (λ b. cond b (record { needed = r.needed ++ needs x.step; steps = x ∷ r.steps }) r) e

  selected-same : (f g : ℕ → Bool) (i : ℕ) (xs : List Step) → ((k : ℕ) → f (i + k) ≡ g (i + k)) → selected f i xs ≡ selected g i xs
  selected-same f g i [] h = refl
  selected-same f g i (x ∷ xs) h =
      let here : f i ≡ g i = (let e : i ≡ i + 0 = omega arith in ap f e ∙ h 0 ∙ ap g (sym e)) in
      ap₂ (λ b l. cond b (record { number = i; step = x } ∷ l) l) here
      (selected-same f g (suc i) xs (λ k. let e : suc i + k ≡ i + suc k = omega arith in ap f e ∙ h (suc k) ∙ ap g (sym e)))

  pub flag-here : (i : ℕ) (x : Step) (xs : List Step) → is_flagged i (x ∷ xs) i ≡ is_reached (needed (i + 1) xs) (record { number = i; step = x })
  flag-here i x xs = let e : (i == i) ≡ true = grind (arith, nat_tests) in ap
      (λ b. cond b (is_reached (needed (i + 1) xs) (record { number = i; step = x })) (is_flagged (i + 1) xs i)) e

  pub flag-later : (i : ℕ) (x : Step) (xs : List Step) (k : ℕ) → is_flagged i (x ∷ xs) (i + suc k) ≡ is_flagged (i + 1) xs (i + suc k)
  flag-later i x xs k = let e : (i + suc k == i) ≡ false =
      grind (arith, nat_tests) in ap (λ b. cond b (is_reached (needed (i + 1) xs) (record { number = i; step = x })) (is_flagged (i + 1) xs (i + suc k))) e

  -- The reached steps are the flagged ones
  pub reached-selected : (i : ℕ) (xs : List Step) → (reached_from roots i xs).steps ≡ selected (is_flagged i xs) i xs
  reached-selected i [] = refl
  reached-selected i (x ∷ xs) = go (is_reached (needed (i + 1) xs) (record { number = i; step = x })) refl
      (reached-selected (i + 1) xs ∙ ap (λ k. selected (is_flagged (i + 1) xs) k xs) (let e : i + 1 ≡ suc i = omega arith in e)
      ∙ selected-same (is_flagged (i + 1) xs) (is_flagged i (x ∷ xs)) (suc i) xs
      (λ k. let e : suc i + k ≡ i + suc k = omega arith in ap (is_flagged (i + 1) xs) e ∙ sym (flag-later i x xs k) ∙ ap (is_flagged i (x ∷ xs)) (sym e)))
    where
      go : (b : Bool) → is_reached (needed (i + 1) xs) (record { number = i; step = x }) ≡ b → (reached_from roots (i + 1) xs).steps
          ≡ selected (is_flagged i (x ∷ xs)) (suc i) xs
          → (reached_from roots i (x ∷ xs)).steps ≡ selected (is_flagged i (x ∷ xs)) i (x ∷ xs)
      go true e rest =
          ap (λ r. r.steps) (reached-on (reached_from roots (i + 1) xs) (record { number = i; step = x }) e)
          ∙ ap (λ l. record { number = i; step = x } ∷ l) rest
          ∙ sym (ap (λ b. cond b (record { number = i; step = x } ∷ selected (is_flagged i (x ∷ xs)) (suc i) xs) (selected (is_flagged i (x ∷ xs)) (suc i) xs))
          (flag-here i x xs ∙ e))
      go false e rest =
          ap (λ r. r.steps) (reached-off (reached_from roots (i + 1) xs) (record { number = i; step = x }) e) ∙ rest
          ∙ sym (ap (λ b. cond b (record { number = i; step = x } ∷ selected (is_flagged i (x ∷ xs)) (suc i) xs) (selected (is_flagged i (x ∷ xs)) (suc i) xs))
          (flag-here i x xs ∙ e))

  -- what is needed stays needed
  needed-more : (i : ℕ) (x : Step) (xs : List Step) (n : Need) → IsIn (needed (i + 1) xs) n → IsIn (needed i (x ∷ xs)) n
  needed-more i x xs n h = go (is_reached (needed (i + 1) xs) (record { number = i; step = x })) refl
    where
      go : (b : Bool) → is_reached (needed (i + 1) xs) (record { number = i; step = x }) ≡ b → IsIn (needed i (x ∷ xs)) n
      go true e = subst (λ r. IsIn r.needed n) (sym (reached-on (reached_from roots (i + 1) xs) (record { number = i; step = x }) e))
          (IsIn-left (needed (i + 1) xs) (needs x) n h)
      go false e = subst (λ r. IsIn r.needed n) (sym (reached-off (reached_from roots (i + 1) xs) (record { number = i; step = x }) e)) h

  pub roots-needed : (i : ℕ) (xs : List Step) (n : Need) → IsIn roots n → IsIn (needed i xs) n
  roots-needed i [] n h = h
  roots-needed i (x ∷ xs) n h = needed-more i x xs n (roots-needed (i + 1) xs n h)

  -- a flagged step's needs are needed
  pub flagged-needs : (i : ℕ) (xs : List Step) (k : ℕ) (x : Step) (n : Need) → slice_get xs k ≡ Some x → is_flagged i xs (i + k) ≡ true → IsIn (needs x) n
      → IsIn (needed i xs) n
  flagged-needs i [] k x n at on h = absurd (cc)
  flagged-needs i (y ∷ xs) zero x n at on h =
      let same : y ≡ x = cc in
      let here : i + 0 ≡ i = omega arith in
      let e : is_reached (needed (i + 1) xs) (record { number = i; step = y }) ≡ true = sym (flag-here i y xs) ∙ ap (is_flagged i (y ∷ xs)) (sym here) ∙ on in
      subst (λ r. IsIn r.needed n) (sym (reached-on (reached_from roots (i + 1) xs) (record { number = i; step = y }) e))
      (IsIn-right (needed (i + 1) xs) (needs y) n (subst (λ z. IsIn (needs z) n) (sym same) h))
  flagged-needs i (y ∷ xs) (suc k) x n at on h =
      let there : (i + 1) + k ≡ i + suc k = omega arith in
      needed-more i y xs n (flagged-needs (i + 1) xs k x n at (ap (is_flagged (i + 1) xs) there ∙ sym (flag-later i y xs k) ∙ on) h)

  -- what serves a need that is needed later is reached
  any-in : {A : Type 0} (p : A → Bool) (xs : List A) (x : A) → IsIn xs x → p x ≡ true → list_any p xs ≡ true
  any-in p [] x h e = absurd h
  any-in p (y ∷ xs) x (inl same) e = ap (λ b. b || list_any p xs) (ap p (sym same) ∙ e)
  any-in p (y ∷ xs) x (inr h) e = go (p y) (any-in p xs x h e)
    where
      go : (b : Bool) → list_any p xs ≡ true → (b || list_any p xs) ≡ true
      go true f = refl
      go false f = f

  pub serves-reached : (wanted : List Need) (x : Numbered) (n : Need) → IsIn (serves x) n → IsIn wanted n → is_reached wanted x ≡ true
  serves-reached wanted x n s w = any-in (λ m. list_any (need_eq m) wanted) (serves x) n s (any-in (need_eq n) wanted n w (need_eq-refl n))

  -- Each root is reached
  pub root-flagged : (i : ℕ) (xs : List Step) (k : ℕ) (x : Step) → slice_get xs k ≡ Some x → IsIn roots (Need.step (i + k)) → is_flagged i xs (i + k) ≡ true
  root-flagged i [] k x at h = absurd (cc)
  root-flagged i (y ∷ xs) zero x at h =
      let here : i + 0 ≡ i = omega arith in
      ap (is_flagged i (y ∷ xs)) here ∙ flag-here i y xs
      ∙ serves-reached (needed (i + 1) xs) (record { number = i; step = y }) (Need.step i) (inl refl)
      (roots-needed (i + 1) xs (Need.step i) (subst (λ j. IsIn roots (Need.step j)) here h))
  root-flagged i (y ∷ xs) (suc k) x at h =
      let there : (i + 1) + k ≡ i + suc k = omega arith in
      flag-later i y xs k ∙ ap (is_flagged (i + 1) xs) (sym there) ∙ root-flagged (i + 1) xs k x at (subst (λ j. IsIn roots (Need.step j)) (sym there) h)

  -- What a reached step needs is reached, where an earlier step serves it
  pub need-flagged : (i : ℕ) (xs : List Step) (j k : ℕ) (y x : Step) (n : Need) → slice_get xs j ≡ Some y → slice_get xs k ≡ Some x → j < k
      → is_flagged i xs (i + k) ≡ true
      → IsIn (needs x) n → IsIn (serves (record { number = i + j; step = y })) n → is_flagged i xs (i + j) ≡ true
  need-flagged i [] j k y x n a b low on h s = absurd (cc)
  need-flagged i (z ∷ xs) zero zero y x n a b low on h s = absurd (omega (arith, low))
  need-flagged i (z ∷ xs) zero (suc k) y x n a b low on h s =
      let here : i + 0 ≡ i = omega arith in
      let there : (i + 1) + k ≡ i + suc k = omega arith in
      let same : z ≡ y = cc in
      ap (is_flagged i (z ∷ xs)) here ∙ flag-here i z xs
      ∙ serves-reached (needed (i + 1) xs) (record { number = i; step = z }) n
      (subst (λ m. IsIn (serves (record { number = m; step = z })) n) here
      (subst (λ w. IsIn (serves (record { number = i + 0; step = w })) n) (sym same) s))
      (flagged-needs (i + 1) xs k x n b (ap (is_flagged (i + 1) xs) there ∙ sym (flag-later i z xs k) ∙ on) h)
  need-flagged i (z ∷ xs) (suc j) zero y x n a b low on h s = absurd (omega (arith, low))
  need-flagged i (z ∷ xs) (suc j) (suc k) y x n a b low on h s =
      let there : (i + 1) + k ≡ i + suc k = omega arith in
      let first : (i + 1) + j ≡ i + suc j = omega arith in
      flag-later i z xs j ∙ ap (is_flagged (i + 1) xs) (sym first)
      ∙ need-flagged (i + 1) xs j k y x n a b (omega (arith, low)) (ap (is_flagged (i + 1) xs) there ∙ sym (flag-later i z xs k) ∙ on) h
      (subst (λ m. IsIn (serves (record { number = m; step = y })) n) (sym first) s)

  -- the flags are the numbers of what is reached
  below-flag : (i : ℕ) (xs : List Step) (j : ℕ) → j < i → is_flagged i xs j ≡ false
  below-flag i [] j low = refl
  below-flag i (x ∷ xs) j low =
      let e : (j == i) ≡ false = grind (arith, nat_tests, low) in
      ap (λ b. cond b (is_reached (needed (i + 1) xs) (record { number = i; step = x })) (is_flagged (i + 1) xs j)) e
      ∙ below-flag (i + 1) xs j (omega (arith, low))

  pub flag-numbers : (i : ℕ) (xs : List Step) (j : ℕ) → list_any (λ (y : Numbered). y.number == j) (reached_from roots i xs).steps ≡ is_flagged i xs j
  flag-numbers i [] j = refl
  flag-numbers i (x ∷ xs) j = go (is_reached (needed (i + 1) xs) (record { number = i; step = x })) (j == i) refl refl (flag-numbers (i + 1) xs j)
    where
      go : (b c : Bool) → is_reached (needed (i + 1) xs) (record { number = i; step = x }) ≡ b → (j == i) ≡ c
          → list_any (λ (y : Numbered). y.number == j) (reached_from roots (i + 1) xs).steps ≡ is_flagged (i + 1) xs j
          → list_any (λ (y : Numbered). y.number == j) (reached_from roots i (x ∷ xs)).steps ≡ is_flagged i (x ∷ xs) j
      go true true e f h =
          let here : (i == j) ≡ true = grind (arith, nat_tests, f) in
          ap (λ r. list_any (λ (y : Numbered). y.number == j) r.steps) (reached-on (reached_from roots (i + 1) xs) (record { number = i; step = x }) e)
          ∙ ap (λ b. b || list_any (λ (y : Numbered). y.number == j) (reached_from roots (i + 1) xs).steps) here
          ∙ sym (ap (λ b. cond b (is_reached (needed (i + 1) xs) (record { number = i; step = x })) (is_flagged (i + 1) xs j)) f ∙ e)
      go true false e f h =
          let here : (i == j) ≡ false = grind (arith, nat_tests, f) in
          ap (λ r. list_any (λ (y : Numbered). y.number == j) r.steps) (reached-on (reached_from roots (i + 1) xs) (record { number = i; step = x }) e)
          ∙ ap (λ b. b || list_any (λ (y : Numbered). y.number == j) (reached_from roots (i + 1) xs).steps) here ∙ h
          ∙ sym (ap (λ b. cond b (is_reached (needed (i + 1) xs) (record { number = i; step = x })) (is_flagged (i + 1) xs j)) f)
      go false true e f h =
          let low : j < i + 1 = grind (arith, nat_tests, f) in
          ap (λ r. list_any (λ (y : Numbered). y.number == j) r.steps) (reached-off (reached_from roots (i + 1) xs) (record { number = i; step = x }) e)
          ∙ h ∙ below-flag (i + 1) xs j low
          ∙ sym (ap (λ b. cond b (is_reached (needed (i + 1) xs) (record { number = i; step = x })) (is_flagged (i + 1) xs j)) f ∙ e)
      go false false e f h =
          ap (λ r. list_any (λ (y : Numbered). y.number == j) r.steps) (reached-off (reached_from roots (i + 1) xs) (record { number = i; step = x }) e)
          ∙ h ∙ sym (ap (λ b. cond b (is_reached (needed (i + 1) xs) (record { number = i; step = x })) (is_flagged (i + 1) xs j)) f)
