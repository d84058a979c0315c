-- Whether all told steps pass a test, step by step.
use Rattle.std.proofs.Common.{◌≡◌, ℕ, zero, suc, ◌+◌, ◌<◌, ◌&&◌, ◌||◌, Bool, true, false, not, cond, List, [], ◌∷◌, ◌++◌, length, take, Some, slice_get, refl, sym, ap, ◌∙◌, arith}
use Rattle.std.specs.Prelude.{slice_index_or}
use Rattle.std.specs.List.{list_all}
use Rattle.std.proofs.lemmas.List.{take_more, length-take}
use Rattle.hol_spec.specs.Proofs.{Step}
use Rattle.article_write_spec.specs.ReachedSteps.{Numbered}
use Rattle.article_write_laws.specs.Flags.{selected, selected-push, place-of}
use Rattle.article_lines.specs.Flagged.{flag}

all-append : (test : Numbered → Bool) (xs ys : List Numbered) → list_all test xs ≡ true → list_all test (xs ++ ys) ≡ list_all test ys
all-append test [] ys h = refl
all-append test (x ∷ xs) ys h = go (test x) h (all-append test xs ys)
  where
    go : (b : Bool) → (b && list_all test xs) ≡ true → (list_all test xs ≡ true → list_all test (xs ++ ys) ≡ list_all test ys) → (b && list_all test (xs ++ ys))
        ≡ list_all test ys
    go true e again = again e
    go false e again = absurd (cc)

all-at : (test : Numbered → Bool) (xs : List Numbered) (i : ℕ) (x : Numbered) → slice_get xs i ≡ Some x → test x ≡ false → list_all test xs ≡ false
all-at test [] i x at e = absurd (cc)
all-at test (y ∷ xs) zero x at e = let same : y ≡ x = cc in ap (λ b. b && list_all test xs) (ap test same ∙ e)
all-at test (y ∷ xs) (suc i) x at e = go (test y) (all-at test xs i x at e)
  where
    go : (b : Bool) → list_all test xs ≡ false → (b && list_all test xs) ≡ false
    go true h = h
    go false h = refl

module _ (test : Numbered → Bool) (told : List Bool) where
  -- one step more, that isn't told or passes
  pub next-told : (xs : List Step) (i : ℕ) (d : Step) → i < length xs → list_all test (selected (flag told) 0 (take i xs)) ≡ true
      → (flag told i ≡ true → test (record { number = i; step = slice_index_or xs i d }) ≡ true)
      → list_all test (selected (flag told) 0 (take (i + 1) xs)) ≡ true
  next-told xs i d low h passes =
      let x = slice_index_or xs i d in
      let long = length-take i xs in
      let count : 0 + length (take i xs) ≡ i = omega (arith, long, low) in
      ap (λ l. list_all test (selected (flag told) 0 l)) (take_more xs i d low) ∙ ap (list_all test) (selected-push (flag told) 0 (take i xs) x)
      ∙ all-append test (selected (flag told) 0 (take i xs)) (selected (flag told) (0 + length (take i xs)) (x ∷ [])) h
      ∙ ap (λ k. list_all test (selected (flag told) k (x ∷ []))) count ∙ go (flag told i) passes x
    where
      go : (b : Bool) → (b ≡ true → test (record { number = i; step = slice_index_or xs i d }) ≡ true) → (x : Step)
          → list_all test (cond b (record { number = i; step = slice_index_or xs i d } ∷ []) []) ≡ true
      go true f x = ap (λ b. b && true) (f refl)
      go false f x = refl

  -- a told step that doesn't pass
  pub not-told : (xs : List Step) (i : ℕ) (d : Step) → i < length xs → flag told i ≡ true → test (record { number = i; step = slice_index_or xs i d }) ≡ false
      → list_all test (selected (flag told) 0 xs) ≡ false
  not-told xs i d low on fails =
      let r = place-of (flag told) xs i (slice_index_or xs i d) (there xs i low) on in
      all-at test (selected (flag told) 0 xs) r.0 (record { number = i; step = slice_index_or xs i d }) r.1 fails
    where
      there : (ys : List Step) (k : ℕ) → k < length ys → slice_get ys k ≡ Some (slice_index_or ys k d)
      there [] k l = absurd (omega (arith, l))
      there (y ∷ ys) zero l = refl
      there (y ∷ ys) (suc k) l = there ys k (omega (arith, l))

  pub all-told : (xs : List Step) (i : ℕ) → i ≡ length xs → list_all test (selected (flag told) 0 (take i xs)) ≡ true
      → list_all test (selected (flag told) 0 xs) ≡ true
  all-told xs i e h = ap (λ l. list_all test (selected (flag told) 0 l)) (sym (whole xs i e)) ∙ h
    where
      whole : (ys : List Step) (k : ℕ) → k ≡ length ys → take k ys ≡ ys
      whole [] zero l = refl
      whole [] (suc k) l = refl
      whole (y ∷ ys) zero l = absurd (omega (arith, l))
      whole (y ∷ ys) (suc k) l = ap (λ z. y ∷ z) (whole ys k (omega (arith, l)))

-- what is passed
pub passed-yes : {told fits : Bool} → (not told || fits) ≡ true → told ≡ true → fits ≡ true
passed-yes {told = true} {fits = fits} e f = e
passed-yes {told = false} {fits = fits} e f = absurd (cc)

pub passed-no : {told fits : Bool} → (not told || fits) ≡ false → (told ≡ true) × (fits ≡ false)
passed-no {told = true} {fits = fits} e = (refl, e)
passed-no {told = false} {fits = fits} e = absurd (cc)
