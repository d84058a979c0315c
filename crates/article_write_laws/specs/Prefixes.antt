-- What each thing that was made has, at its place.
use Rattle.std.proofs.Common.{◌≡◌, ℕ, ◌<◌, List, [], ◌∷◌, ◌++◌, map, length, Some, slice_get, refl, sym, ap, ap₂, subst, ◌∙◌, arith, inl, inr, ◌⊎◌}
use Rattle.std.specs.List.{AllByRecursion}
use Rattle.std.proofs.lemmas.List.{length-map}
use Rattle.std.proofs.lemmas.Option.{slice_get_within}
use Rattle.hol_spec.specs.Sequents.{Sequent}
use Rattle.hol_spec.specs.Proofs.{Made, Step, Each, steps_of, sequents_of, sequent_at, ArePremises}
use Rattle.hol_spec.specs.Proofs as made
use Rattle.hol_laws.specs.PlaceLaws.{slice_get-seam}
use Rattle.hol_proof_laws.specs.ProofGrowth.{steps_of-append}
use Rattle.article_trial_laws.specs.TrialSteps.{sequent_at-is}

-- a list that ends in y, parted at x
record Later {A : Type 0} (xs before after : List A) (x y : A) : Type 0 where
  rest : List A
  after_is : after ≡ rest ++ y ∷ []
  is : xs ≡ before ++ x ∷ rest

record Last {A : Type 0} (xs before after : List A) (x y : A) : Type 0 where
  none : after ≡ []
  front : before ≡ xs
  last : x ≡ y

parted : {A : Type 0} (xs before after : List A) (x y : A) → xs ++ y ∷ [] ≡ before ++ x ∷ after → Last xs before after x y ⊎ Later xs before after x y
parted [] [] after x y e = inl (record { none = cc; front = refl; last = cc })
parted [] (b ∷ []) after x y e = absurd (cc)
parted [] (b ∷ c ∷ before) after x y e = absurd (cc)
parted (a ∷ xs) [] after x y e = let first : a ≡ x = cc in let rest : xs ++ y ∷ [] ≡ after =
    cc in inr (record { rest = xs; after_is = sym rest; is = ap (λ z. z ∷ xs) first })
parted (a ∷ xs) (b ∷ before) after x y e =
    let first : a ≡ b = cc in
    let rest : xs ++ y ∷ [] ≡ before ++ x ∷ after = cc in
    elim (parted xs before after x y rest) [
      | inl l ↦ inl (record { none = l.none; front = ap₂ (λ z zs. z ∷ zs) (sym first) l.front; last = l.last })
      | inr r ↦ inr (record { rest = r.rest; after_is = r.after_is; is = ap₂ (λ z zs. z ∷ zs) first r.is })
    ]

-- Each thing at its place
pub each-at : (P : List Made → Made → Type 0) (whole : List Made) → Each P whole → (before after : List Made) (x : Made) → whole ≡ before ++ x ∷ after
    → P before x
each-at P whole made.Each.empty [] after x e = absurd (cc)
each-at P whole made.Each.empty (b ∷ before) after x e = absurd (cc)
each-at P whole (made.Each.more {made = m} y h p is) before after x e =
    elim (parted m before after x y (sym is ∙ e)) [
      | inl l ↦ subst (λ b. P b x) (sym l.front) (subst (P m) (sym l.last) p)
      | inr r ↦ each-at P m h before r.rest x r.is
    ]

-- the step at its number
pub step-place : (whole made after : List Made) (x : Step) → whole ≡ made ++ Made.step x ∷ after → slice_get (steps_of whole) (length (steps_of made)) ≡ Some x
step-place whole made after x e =
    ap (λ l. slice_get l (length (steps_of made))) (ap steps_of e ∙ steps_of-append made (Made.step x ∷ after))
    ∙ slice_get-seam (steps_of made) (steps_of after) x

-- the sequents of premises
pub premises-are : (m : List Made) (is : List ℕ) (ss : List Sequent) → ArePremises (sequents_of m) is ss → map (sequent_at m) is ≡ ss
premises-are m [] [] h = refl
premises-are m [] (s ∷ ss) h = absurd h
premises-are m (i ∷ is) [] h = absurd h
premises-are m (i ∷ is) (s ∷ ss) h = ap₂ (λ z zs. z ∷ zs) (sequent_at-is m i s h.0) (premises-are m is ss h.1)

pub premises-below : (m : List Made) (is : List ℕ) (ss : List Sequent) → ArePremises (sequents_of m) is ss → AllByRecursion (λ i. i < length (steps_of m)) is
premises-below m [] [] h = tt
premises-below m [] (s ∷ ss) h = absurd h
premises-below m (i ∷ is) [] h = absurd h
premises-below m (i ∷ is) (s ∷ ss) h = (
  (let low = slice_get_within (sequents_of m) i s h.0 in let long = length-map (steps_of m) (λ (x : Step). x.sequent) in omega (arith, low, long)),
  premises-below m is ss h.1,
)
