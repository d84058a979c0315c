-- What follows from the words for names by number.
use Rattle.std.proofs.Common.{◌≡◌, ℕ, zero, suc, ◌<◌, Bool, true, false, cond, refl, sym, ap, ◌∙◌, arith, List, [], ◌∷◌, ◌++◌, length, position, Option, Some, None, slice_get, get_or, ◌⊎◌, ⊎_elim, inl, inr}
use Rattle.std.specs.Prelude.{◌+◌, ◌||◌, option_map, is_some, if◌then◌else◌}
use Rattle.std.specs.List.{list_any}
use Rattle.std.specs.Str.{bytes_eq}
use Rattle.std.specs.Cmp.Lexicographic.{same_text}
use Rattle.std.proofs.lemmas.Cmp.{nat_list_eq_equiv}
use Rattle.std.proofs.lemmas.List.Quantifiers.{position-Some}
use Rattle.std.proofs.lemmas.Option.{slice_get-get_or, same_Some}
use Rattle.name_table.specs.Places.{number_of, with_name}
use Rattle.name_table.specs.Positions.{first, position-first, first-append-Some, first-append-None}

some-more : (o : Option ℕ) → is_some (option_map suc o) ≡ is_some o
some-more None = refl
some-more (Some n) = refl

-- a test that passes somewhere has a first place
any-first : {X : Type 0} (p : X → Bool) (xs : List X) → list_any p xs ≡ is_some (first p xs)
any-first p [] = refl
any-first p (x ∷ xs) = go (p x) (any-first p xs)
  where
    go : (b : Bool) → list_any p xs ≡ is_some (first p xs) → (b || list_any p xs) ≡ is_some (cond b (Some 0) (option_map suc (first p xs)))
    go true h = refl
    go false h = h ∙ sym (some-more (first p xs))

any-number : (names : List (List ℕ)) (x : List ℕ) (o : Option ℕ) → number_of names x ≡ o → list_any (λ n. bytes_eq n x) names ≡ is_some o
any-number names x o e = any-first (λ n. bytes_eq n x) names ∙ ap is_some (sym (position-first (λ n. bytes_eq n x) names) ∙ e)

-- a name that has a number gets no other
pub with_name-old : (names : List (List ℕ)) (x : List ℕ) (n : ℕ) → number_of names x ≡ Some n → with_name names x ≡ names
with_name-old names x n e = ap (λ b. if b then names else names ++ x ∷ []) (any-number names x (Some n) e)

-- a new name goes last
pub with_name-new : (names : List (List ℕ)) (x : List ℕ) → number_of names x ≡ None → with_name names x ≡ names ++ x ∷ []
with_name-new names x e = ap (λ b. if b then names else names ++ x ∷ []) (any-number names x None e)

-- the number of a name is that of a place where it stands
pub number_of-at : (names : List (List ℕ)) (x : List ℕ) (n : ℕ) → number_of names x ≡ Some n → slice_get names n ≡ Some x
number_of-at names x n e =
    let t = position-Some (λ y. bytes_eq y x) names n [] e in
    slice_get-get_or names n [] t.0 ∙ ap Some (same_text (get_or names n []) x (sym t.1))

last : (b : Bool) → b ≡ false → cond b (Some 0) (option_map suc None) ≡ None
last true e = absurd (cc)
last false e = refl

-- where one more name comes, every other has the number that it had
pub number_of-push_other : (names : List (List ℕ)) (y x : List ℕ) → bytes_eq y x ≡ false → number_of (names ++ y ∷ []) x ≡ number_of names x
number_of-push_other names y x e = go (first (λ n. bytes_eq n x) names) refl
  where
    go : (o : Option ℕ) → first (λ n. bytes_eq n x) names ≡ o → number_of (names ++ y ∷ []) x ≡ number_of names x
    go (Some n) h = position-first (λ n. bytes_eq n x) (names ++ y ∷ []) ∙ first-append-Some (λ n. bytes_eq n x) names (y ∷ []) n h ∙ sym h
        ∙ sym (position-first (λ n. bytes_eq n x) names)
    go None h =
        position-first (λ n. bytes_eq n x) (names ++ y ∷ []) ∙ first-append-None (λ n. bytes_eq n x) names (y ∷ []) h
        ∙ ap (option_map (λ k. length names + k)) (last (bytes_eq y x) e) ∙ sym h ∙ sym (position-first (λ n. bytes_eq n x) names)

-- a name that has a number keeps it
pub number_of-push_old : (names : List (List ℕ)) (y x : List ℕ) (n : ℕ) → number_of names x ≡ Some n → number_of (names ++ y ∷ []) x ≡ Some n
number_of-push_old names y x n e =
    position-first (λ n. bytes_eq n x) (names ++ y ∷ [])
    ∙ first-append-Some (λ n. bytes_eq n x) names (y ∷ []) n (sym (position-first (λ n. bytes_eq n x) names) ∙ e)

-- a new name has the next number
pub number_of-push_new : (names : List (List ℕ)) (x : List ℕ) → number_of names x ≡ None → number_of (names ++ x ∷ []) x ≡ Some (length names)
number_of-push_new names x e =
    position-first (λ n. bytes_eq n x) (names ++ x ∷ [])
    ∙ first-append-None (λ n. bytes_eq n x) names (x ∷ []) (sym (position-first (λ n. bytes_eq n x) names) ∙ e)
    ∙ ap (λ b. option_map (λ k. length names + k) (cond b (Some 0) (option_map suc None))) (nat_list_eq_equiv.refl x)
    ∙ ap Some (let h : length names + 0 ≡ length names = omega arith in h)

-- an item of a list with one more
pub push_at : {X : Type 0} (xs : List X) (y x : X) (n : ℕ) → slice_get (xs ++ y ∷ []) n ≡ Some x → (slice_get xs n ≡ Some x) ⊎ ((n ≡ length xs) × (y ≡ x))
push_at [] y x zero e = inr (refl, same_Some y x e)
push_at [] y x (suc n) e = absurd (cc)
push_at (z ∷ xs) y x zero e = inl e
push_at (z ∷ xs) y x (suc n) e = ⊎_elim (λ f. inl f) (λ f. inr (ap suc f.0, f.1)) (push_at xs y x n e)
