-- The steps that are flagged, and the numbers that they have among themselves.
use Rattle.std.proofs.Common.{◌≡◌, ℕ, zero, suc, ◌+◌, Bool, true, false, cond, List, [], ◌∷◌, ◌++◌, map, length, Some, slice_get, refl, sym, ap, subst, ◌∙◌, arith}
use Rattle.std.specs.List.{AllByRecursion}
use Rattle.hol_spec.specs.Proofs.{Made, Step, steps_of, sequents_of, sequent_at}
use Rattle.hol_laws.specs.PlaceLaws.{slice_get-mapped}
use Rattle.article_trial_laws.specs.TrialSteps.{sequent_at-is}
use Rattle.article_write_spec.specs.ReachedSteps.{Numbered}
pub use Rattle.article_write_spec.specs.Retold.{count, renumbered}

-- the flagged steps; the first of all has number i
abbrev pub selected : (ℕ → Bool) → ℕ → List Step → List Numbered
selected flag i [] = []
selected flag i (x ∷ xs) = cond (flag i) (record { number = i; step = x } ∷ selected flag (suc i) xs) (selected flag (suc i) xs)

abbrev pub renumbered_steps : (ℕ → Bool) → List Step → List Step
renumbered_steps flag xs = map (λ y. renumbered (count flag) y.step) (selected flag 0 xs)

module _ (flag : ℕ → Bool) where
  pub selected-push : (i : ℕ) (xs : List Step) (x : Step) → selected flag i (xs ++ x ∷ []) ≡ selected flag i xs ++ selected flag (i + length xs) (x ∷ [])
  selected-push i [] x = ap (λ k. selected flag k (x ∷ [])) (let e : i ≡ i + 0 = omega arith in e)
  selected-push i (y ∷ xs) x =
      go (flag i) (selected flag (suc i) (xs ++ x ∷ [])) (selected flag (suc i) xs) (selected flag (i + suc (length xs)) (x ∷ []))
      (selected-push (suc i) xs x ∙ ap (λ k. selected flag (suc i) xs ++ selected flag k (x ∷ []))
      (let e : suc i + length xs ≡ i + suc (length xs) = omega arith in e))
    where
      go : (b : Bool) (all some last : List Numbered) → all ≡ some ++ last → cond b (record { number = i; step = y } ∷ all) all
          ≡ cond b (record { number = i; step = y } ∷ some) some ++ last
      go true all some last e = ap (λ l. record { number = i; step = y } ∷ l) e
      go false all some last e = e

  length-selected : (i : ℕ) (xs : List Step) → count flag i + length (selected flag i xs) ≡ count flag (i + length xs)
  length-selected i [] = let e : count flag i + 0 ≡ count flag i = omega arith in e ∙ ap (count flag) (let f : i ≡ i + 0 = omega arith in f)
  length-selected i (x ∷ xs) = go (flag i) (length-selected (suc i) xs) ∙ ap (count flag) (let f : suc i + length xs ≡ i + suc (length xs) = omega arith in f)
    where
      go : (b : Bool) → cond b (suc (count flag i)) (count flag i) + length (selected flag (suc i) xs) ≡ count flag (suc i + length xs)
          → count flag i + length (cond b (record { number = i; step = x } ∷ selected flag (suc i) xs) (selected flag (suc i) xs))
          ≡ count flag (suc i + length xs)
      go true e = omega (arith, e)
      go false e = e

  pub count-steps : (xs : List Step) → length (selected flag 0 xs) ≡ count flag (length xs)
  count-steps xs = let e : length (selected flag 0 xs) ≡ 0 + length (selected flag 0 xs) =
      omega arith in e ∙ length-selected 0 xs ∙ ap (count flag) (let f : 0 + length xs ≡ length xs = omega arith in f)

  -- where a flagged step is
  record Place (i p : ℕ) (xs : List Step) (x : Step) : Type 0 where
    at : ℕ
    is : count flag i + at ≡ count flag (i + p)
    found : slice_get (selected flag i xs) at ≡ Some (record { number = i + p; step = x })

  place : (i : ℕ) (xs : List Step) (p : ℕ) (x : Step) → slice_get xs p ≡ Some x → flag (i + p) ≡ true → Place i p xs x
  place i [] p x e f = absurd (cc)
  place i (y ∷ xs) zero x e f =
      let same : y ≡ x = cc in
      let here : i + 0 ≡ i = omega arith in
      let on : flag i ≡ true = subst (λ k. flag k ≡ true) here f in
      record {
        at = 0;
        is = (let e : count flag i + 0 ≡ count flag i = omega arith in e) ∙ ap (count flag) (sym here);
        found = ap (λ b. slice_get (cond b (record { number = i; step = y } ∷ selected flag (suc i) xs) (selected flag (suc i) xs)) 0) on
            ∙ ap (λ z. Some (record { number = i; step = z })) same ∙ ap (λ k. Some (record { number = k; step = x })) (sym here);
      }
  place i (y ∷ xs) (suc p) x e f =
      let there : suc i + p ≡ i + suc p = omega arith in
      let r = place (suc i) xs p x e (subst (λ k. flag k ≡ true) (sym there) f) in
      go (flag i) refl r there
    where
      go : (b : Bool) → flag i ≡ b → Place (suc i) p xs x → suc i + p ≡ i + suc p → Place i (suc p) (y ∷ xs) x
      go true on r there =
          let c : count flag (suc i) ≡ suc (count flag i) = ap (λ b. cond b (suc (count flag i)) (count flag i)) on in
          record {
            at = suc r.at;
            is = (let e : count flag i + suc r.at ≡ count flag (suc i) + r.at = omega (arith, c) in e) ∙ r.is ∙ ap (count flag) there;
            found = ap (λ b. slice_get (cond b (record { number = i; step = y } ∷ selected flag (suc i) xs) (selected flag (suc i) xs)) (suc r.at)) on ∙ r.found
                ∙ ap (λ k. Some (record { number = k; step = x })) there;
          }
      go false off r there =
          let c : count flag (suc i) ≡ count flag i = ap (λ b. cond b (suc (count flag i)) (count flag i)) off in
          record {
            at = r.at;
            is = (let e : count flag i + r.at ≡ count flag (suc i) + r.at = omega (arith, c) in e) ∙ r.is ∙ ap (count flag) there;
            found = ap (λ b. slice_get (cond b (record { number = i; step = y } ∷ selected flag (suc i) xs) (selected flag (suc i) xs)) r.at) off ∙ r.found
                ∙ ap (λ k. Some (record { number = k; step = x })) there;
          }

  -- so a flagged step says in the article what it says in the run
  pub says-same : (after : List Made) (xs : List Step) (p : ℕ) (x : Step) → steps_of after ≡ renumbered_steps flag xs → slice_get xs p ≡ Some x → flag p ≡ true
      → sequent_at after (count flag p) ≡ x.sequent
  says-same after xs p x steps e f =
      let zero_p : 0 + p ≡ p = omega arith in
      let r = place 0 xs p x e (subst (λ k. flag k ≡ true) (sym zero_p) f) in
      let at : r.at ≡ count flag p = (let g : r.at ≡ 0 + r.at = omega arith in g) ∙ r.is ∙ ap (count flag) zero_p in
      let one = slice_get-mapped (λ (y : Numbered). renumbered (count flag) y.step) (selected flag 0 xs) r.at (record { number = 0 + p; step = x }) r.found in
      sequent_at-is after (count flag p) x.sequent
      (subst (λ k. slice_get (sequents_of after) k ≡ Some x.sequent) at
      (ap (λ l. slice_get (map (λ (z : Step). z.sequent) l) r.at) steps
      ∙ slice_get-mapped (λ (z : Step). z.sequent) (renumbered_steps flag xs) r.at (renumbered (count flag) x) one))

  -- a flagged step is among the flagged ones
  pub place-of : (xs : List Step) (p : ℕ) (x : Step) → slice_get xs p ≡ Some x → flag p ≡ true → (at : ℕ)
      × (slice_get (selected flag 0 xs) at ≡ Some (record { number = p; step = x }))
  place-of xs p x e f =
      let zero_p : 0 + p ≡ p = omega arith in
      let r = place 0 xs p x e (subst (λ k. flag k ≡ true) (sym zero_p) f) in
      (r.at, r.found ∙ ap (λ k. Some (record { number = k; step = x })) zero_p)

-- what every step has, the flagged ones have
pub selected-all : (P : Step → Type 0) (flag : ℕ → Bool) (i : ℕ) (xs : List Step) → AllByRecursion P xs
    → AllByRecursion (λ (y : Numbered). P y.step) (selected flag i xs)
selected-all P flag i [] h = tt
selected-all P flag i (x ∷ xs) h = go (flag i) (selected-all P flag (suc i) xs h.1)
  where
    go : (b : Bool) → AllByRecursion (λ (y : Numbered). P y.step) (selected flag (suc i) xs)
        → AllByRecursion (λ (y : Numbered). P y.step) (cond b (record { number = i; step = x } ∷ selected flag (suc i) xs) (selected flag (suc i) xs))
    go true k = (h.0, k)
    go false k = k
