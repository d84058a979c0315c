-- The place of a number among numbers that rise.
use Rattle.std.proofs.Common.{◌≡◌, ℕ, zero, suc, ◌+◌, ◌<◌, ◌≤◌, Bool, true, false, cond, refl, sym, ap, ◌∙◌, arith, List, [], ◌∷◌, length, get_or, Some, None, Ok, Err, position, nat_cmp}
use Rattle.std.specs.Bool.{Decides}
use Rattle.std.specs.Cmp.{unsigned_Decides}
use Rattle.std.specs.Prelude.{◌||◌, nat_eq, nat_lt, nat_le, not}
use Rattle.std.specs.List.{position_or_len, list_any}
use Rattle.std.specs.List.Sorted.{IsBinarySearchResult}
use Rattle.std.proofs.lemmas.List.Sorted.{searched}
use Rattle.translate_proof.specs.Numbers.{IsRising}

module _ (p : ℕ → Bool) where
  -- the first place at which a test passes
  first-place : (xs : List ℕ) (i : ℕ) → i < length xs → p (get_or xs i 0) ≡ true → ((k : ℕ) → k < i → p (get_or xs k 0) ≡ false) → position_or_len p xs ≡ i
  first-place [] i l h b = absurd (omega arith)
  first-place (x ∷ xs) zero l h b = ap (λ b. cond (not b) (1 + position_or_len p xs) 0) h
  first-place (x ∷ xs) (suc i) l h b =
      ap (λ b. cond (not b) (1 + position_or_len p xs) 0) (b 0 (omega arith))
      ∙ ap (λ n. 1 + n) (first-place xs i (omega (arith, l)) h (λ k m. b (suc k) (omega (arith, m))))
      ∙ (let e : 1 + i ≡ suc i = omega arith in e)

  no-place : (xs : List ℕ) → ((k : ℕ) → k < length xs → p (get_or xs k 0) ≡ false) → position_or_len p xs ≡ length xs
  no-place [] b = refl
  no-place (x ∷ xs) b =
      ap (λ b. cond (not b) (1 + position_or_len p xs) 0) (b 0 (omega arith))
      ∙ ap (λ n. 1 + n) (no-place xs (λ k m. b (suc k) (omega (arith, m))))
      ∙ (let e : 1 + length xs ≡ suc (length xs) = omega arith in e)

differs : (x y : ℕ) → (x ≡ y → ⊥) → nat_eq x y ≡ false
differs x y n = go (nat_eq x y) (unsigned_Decides x y)
  where
    go : (b : Bool) → Decides b (x ≡ y) → b ≡ false
    go true d = absurd (n (d.0 refl))
    go false d = refl

equals : (x y : ℕ) → x ≡ y → nat_eq x y ≡ true
equals x y e = (unsigned_Decides x y).1 e

rises : (ids : List ℕ) → IsRising ids → (i j : ℕ) → i ≤ j → j < length ids → get_or ids i 0 ≤ get_or ids j 0
rises ids r i j l m = go (nat_le j i) refl
  where
    go : (b : Bool) → nat_le j i ≡ b → get_or ids i 0 ≤ get_or ids j 0
    go true e = let same : i ≡ j = grind (arith, l, e) in grind (arith, ap (λ k. get_or ids k 0) same)
    go false e = let less : i < j = grind (arith, e) in omega (arith, r.each i j less m)

position-at : (p : ℕ → Bool) (xs : List ℕ) (i : ℕ) → position_or_len p xs ≡ i → i < length xs → position p xs ≡ Some i
position-at p xs i e l = ap (λ n. cond (nat_lt n (length xs)) (Some n) None) e ∙ ap (λ b. cond b (Some i) None)
    (let h : nat_lt i (length xs) ≡ true = grind (arith, l) in h)

position-past : (p : ℕ → Bool) (xs : List ℕ) → position_or_len p xs ≡ length xs → position p xs ≡ None
position-past p xs e = ap (λ n. cond (nat_lt n (length xs)) (Some n) None) e ∙ ap (λ b. cond b (Some (length xs)) None)
    (let h : nat_lt (length xs) (length xs) ≡ false = grind arith in h)

-- what a search finds
pub search-found : (ids : List ℕ) (x i : ℕ) → IsRising ids → IsBinarySearchResult (λ y. nat_cmp y x) ids (Ok i) → Some i ≡ position (nat_eq x) ids
search-found ids x i r h =
    let w = searched ids x (Ok i) h (rises ids r) in
    sym (position-at (nat_eq x) ids i
    (first-place (nat_eq x) ids i w.0 (equals x (get_or ids i 0) (sym w.1))
    (λ k l. differs x (get_or ids k 0) (λ e. absurd (let less = r.each k i l w.0 in omega (arith, less, e, w.1))))) w.0)

pub search-missed : (ids : List ℕ) (x i : ℕ) → IsRising ids → IsBinarySearchResult (λ y. nat_cmp y x) ids (Err i) → None ≡ position (nat_eq x) ids
search-missed ids x i r h =
    let w = searched ids x (Err i) h (rises ids r) in
    sym (position-past (nat_eq x) ids (no-place (nat_eq x) ids (λ k l. differs x (get_or ids k 0) (λ e. go k l e w (nat_lt k i) refl))))
  where
    go : (k : ℕ) → k < length ids → x ≡ get_or ids k 0 → (i ≤ length ids) × ((k : ℕ) → k < i → get_or ids k 0 < x)
        × ((k : ℕ) → i ≤ k → k < length ids → x < get_or ids k 0) → (b : Bool) → nat_lt k i ≡ b → ⊥
    go k l e w true q = let less = w.1 k (let m : k < i = grind (arith, q) in m) in omega (arith, less, e)
    go k l e w false q = let more = w.2 k (let m : i ≤ k = grind (arith, q) in m) l in omega (arith, more, e)

-- whether there is one, and where
pub place-is_in : (p : ℕ → Bool) (xs : List ℕ) (i : ℕ) → Some i ≡ position p xs → list_any p xs ≡ true
place-is_in p xs i e = go xs (by (nat_lt (position_or_len p xs) (length xs)) refl (sym e))
  where
    by : (b : Bool) → nat_lt (position_or_len p xs) (length xs) ≡ b → cond (nat_lt (position_or_len p xs) (length xs)) (Some (position_or_len p xs)) None
        ≡ Some i → position_or_len p xs < length xs
    by true q f = grind (arith, q)
    by false q f = absurd (let g : None ≡ Some i = sym (ap (λ b. cond b (Some (position_or_len p xs)) None) q) ∙ f in cc)

    go : (xs : List ℕ) → position_or_len p xs < length xs → list_any p xs ≡ true
    go [] l = absurd (omega (arith, l))
    go (x ∷ xs) l = each (p x) refl (λ m. go xs m)
      where
        each : (b : Bool) → p x ≡ b → (position_or_len p xs < length xs → list_any p xs ≡ true) → list_any p (x ∷ xs) ≡ true
        each true q on = ap (λ b. b || list_any p xs) q
        each false q on =
            let n : position_or_len p (x ∷ xs) ≡ 1 + position_or_len p xs = ap (λ b. cond (not b) (1 + position_or_len p xs) 0) q in
            ap (λ b. b || list_any p xs) q ∙ on (omega (arith, l, n))

pub place-not_in : (p : ℕ → Bool) (xs : List ℕ) → None ≡ position p xs → list_any p xs ≡ false
place-not_in p xs e = go xs (by (nat_lt (position_or_len p xs) (length xs)) refl (sym e))
  where
    by : (b : Bool) → nat_lt (position_or_len p xs) (length xs) ≡ b → cond (nat_lt (position_or_len p xs) (length xs)) (Some (position_or_len p xs)) None ≡ None
        → length xs ≤ position_or_len p xs
    by true q f = absurd (let g : Some (position_or_len p xs) ≡ None = sym (ap (λ b. cond b (Some (position_or_len p xs)) None) q) ∙ f in cc)
    by false q f = grind (arith, q)

    go : (xs : List ℕ) → length xs ≤ position_or_len p xs → list_any p xs ≡ false
    go [] l = refl
    go (x ∷ xs) l = each (p x) refl (λ m. go xs m)
      where
        each : (b : Bool) → p x ≡ b → (length xs ≤ position_or_len p xs → list_any p xs ≡ false) → list_any p (x ∷ xs) ≡ false
        each true q on = absurd (let n : position_or_len p (x ∷ xs) ≡ 0 = ap (λ b. cond (not b) (1 + position_or_len p xs) 0) q in omega (arith, l, n))
        each false q on =
            let n : position_or_len p (x ∷ xs) ≡ 1 + position_or_len p xs = ap (λ b. cond (not b) (1 + position_or_len p xs) 0) q in
            ap (λ b. b || list_any p xs) q ∙ on (omega (arith, l, n))

pub place-position_or_len : (p : ℕ → Bool) (xs : List ℕ) (i : ℕ) → Some i ≡ position p xs → i ≡ position_or_len p xs
place-position_or_len p xs i e = by (nat_lt (position_or_len p xs) (length xs)) refl e
  where
    by : (b : Bool) → nat_lt (position_or_len p xs) (length xs) ≡ b → Some i
        ≡ cond (nat_lt (position_or_len p xs) (length xs)) (Some (position_or_len p xs)) None → i ≡ position_or_len p xs
    by true q f = let g : Some i ≡ Some (position_or_len p xs) = f ∙ ap (λ b. cond b (Some (position_or_len p xs)) None) q in cc
    by false q f = absurd (let g : Some i ≡ None = f ∙ ap (λ b. cond b (Some (position_or_len p xs)) None) q in cc)

pub place-none : (p : ℕ → Bool) (xs : List ℕ) → None ≡ position p xs → length xs ≡ position_or_len p xs
place-none p xs e = go xs (by (nat_lt (position_or_len p xs) (length xs)) refl (sym e))
  where
    by : (b : Bool) → nat_lt (position_or_len p xs) (length xs) ≡ b → cond (nat_lt (position_or_len p xs) (length xs)) (Some (position_or_len p xs)) None ≡ None
        → length xs ≤ position_or_len p xs
    by true q f = absurd (let g : Some (position_or_len p xs) ≡ None = sym (ap (λ b. cond b (Some (position_or_len p xs)) None) q) ∙ f in cc)
    by false q f = grind (arith, q)

    most : (xs : List ℕ) → position_or_len p xs ≤ length xs
    most [] = omega arith
    most (x ∷ xs) = each (p x) refl (most xs)
      where
        each : (b : Bool) → p x ≡ b → position_or_len p xs ≤ length xs → position_or_len p (x ∷ xs) ≤ suc (length xs)
        each true q l = let n : position_or_len p (x ∷ xs) ≡ 0 = ap (λ b. cond (not b) (1 + position_or_len p xs) 0) q in omega (arith, n)
        each false q l = let n : position_or_len p (x ∷ xs) ≡ 1 + position_or_len p xs =
            ap (λ b. cond (not b) (1 + position_or_len p xs) 0) q in omega (arith, n, l)

    go : (xs : List ℕ) → length xs ≤ position_or_len p xs → length xs ≡ position_or_len p xs
    go xs l = omega (arith, l, most xs)
