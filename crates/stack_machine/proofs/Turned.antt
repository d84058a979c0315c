-- Stacks from the top: what is left where items go from the end.
use Rattle.std.proofs.Common.{◌≡◌, ℕ, ◌≤◌, ◌<◌, ◌-◌, zero, suc, refl, sym, ap, subst, ◌∙◌, arith, List, [], ◌∷◌, ◌++◌, length, reverse, take, drop, slice_set, get_or, append_assoc, ◌⊎◌, inl, inr}
use Rattle.std.specs.Prelude.{slice_get, Some, None}
use Rattle.std.proofs.lemmas.List.{take-append-drop, reverse-append, length-reverse, length-drop, length-take}
use Rattle.std.proofs.Math.Seq.{drop-append_seam, split_at}
use Rattle.std.proofs.Math.ListN.{drop_of_length-le}
use Rattle.std.proofs.lemmas.Bool.{cases_lt}

drop-seam : {A : Type 0} (xs ys : List A) (n : ℕ) → length xs ≡ n → drop n (xs ++ ys) ≡ ys
drop-seam xs ys n e = rw (← e) (drop-append_seam xs ys)

-- so many less at the end are so many less on top
pub reverse-take : {A : Type 0} (xs ys : List A) (k n : ℕ) → k ≡ length xs → ys ≡ take (k - n) xs → reverse ys ≡ drop n (reverse xs)
reverse-take xs ys k n e f = rw f (either (cases_lt (length xs) n))
  where
    either : (length xs < n) ⊎ (n ≤ length xs) → reverse (take (k - n) xs) ≡ drop n (reverse xs)
    either (inl h) =
        let z : k - n ≡ 0 = omega (arith, e, h) in
        let d = length-reverse xs in
        let p : length (reverse xs) ≤ n = omega (arith, d, h) in
        rw z (sym (drop_of_length-le (reverse xs) p))
    either (inr h) =
        let g : reverse xs ≡ reverse (drop (k - n) xs) ++ reverse (take (k - n) xs) =
        ap reverse (sym (take-append-drop (k - n) xs)) ∙ reverse-append (take (k - n) xs) (drop (k - n) xs) in
        let a = length-reverse (drop (k - n) xs) in
        let b = length-drop (k - n) xs in
        let l : length (reverse (drop (k - n) xs)) ≡ n = omega (arith, a, b, h, e) in
        sym (ap (drop n) g ∙ drop-seam (reverse (drop (k - n) xs)) (reverse (take (k - n) xs)) n l)

-- the item at a depth comes first there
pub drop-at : {A : Type 0} (xs : List A) (d : ℕ) (x : A) → slice_get xs d ≡ Some x → drop d xs ≡ x ∷ drop (suc d) xs
drop-at [] d x e = absurd (cc)
drop-at (y ∷ xs) zero x e = cc
drop-at (y ∷ xs) (suc d) x e = drop-at xs d x e

pub drop-past : {A : Type 0} (xs : List A) (d : ℕ) → slice_get xs d ≡ None → drop d xs ≡ []
drop-past [] zero e = refl
drop-past [] (suc d) e = refl
drop-past (y ∷ xs) zero e = absurd (cc)
drop-past (y ∷ xs) (suc d) e = drop-past xs d e

-- the item behind a front
slice_set-behind : {A : Type 0} (xs zs : List A) (y x : A) (n : ℕ) → length xs ≡ n → slice_set (xs ++ y ∷ zs) n x ≡ xs ++ x ∷ zs
slice_set-behind [] zs y x n e = rw (← e) refl
slice_set-behind (w ∷ xs) zs y x n e = rw (← e) (ap (λ l. w ∷ l) (slice_set-behind xs zs y x (length xs) refl))

turned : {A : Type 0} (xs zs : List A) (y : A) → reverse (xs ++ y ∷ zs) ≡ reverse zs ++ y ∷ reverse xs
turned xs zs y = reverse-append xs (y ∷ zs) ∙ ap (λ l. l ++ reverse xs) (reverse-append (y ∷ []) zs) ∙ append_assoc (reverse zs) (y ∷ []) (reverse xs)

-- an item is set at a depth
pub reverse-slice_set : {A : Type 0} (xs : List A) (k d : ℕ) (x : A) → k ≡ length xs → d < length (reverse xs) → reverse (slice_set xs (k - 1 - d) x)
    ≡ slice_set (reverse xs) d x
reverse-slice_set xs k d x e h =
    let r = length-reverse xs in
    let n : ℕ = k - 1 - d in
    let below : n < length xs = omega (arith, e, h, r) in
    let y = get_or xs n x in
    let s : xs ≡ take n xs ++ y ∷ drop (suc n) xs = split_at xs n x below in
    let a = length-take n xs in
    let b = length-drop (suc n) xs in
    let c = length-reverse (drop (suc n) xs) in
    let front : length (take n xs) ≡ n = omega (arith, a, below) in
    let back : length (reverse (drop (suc n) xs)) ≡ d = omega (arith, b, c, e, h, r) in
    ap (λ l. reverse (slice_set l n x)) s ∙ ap reverse (slice_set-behind (take n xs) (drop (suc n) xs) y x n front) ∙ turned (take n xs) (drop (suc n) xs) x
    ∙ sym (ap (λ l. slice_set (reverse l) d x) s ∙ ap (λ l. slice_set l d x) (turned (take n xs) (drop (suc n) xs) y)
    ∙ slice_set-behind (reverse (drop (suc n) xs)) (reverse (take n xs)) y x d back)

-- an item in place of so many on top
set-drop-suc : {A : Type 0} (xs : List A) (k : ℕ) (x : A) → k < length xs → slice_set (drop k xs) 0 x ≡ x ∷ drop (suc k) xs
set-drop-suc [] k x h = absurd (omega arith)
set-drop-suc (y ∷ xs) zero x h = refl
set-drop-suc (y ∷ xs) (suc k) x h = set-drop-suc xs k x (omega arith)

pub set-drop : {A : Type 0} (xs : List A) (n : ℕ) (x : A) → 0 < n → n ≤ length xs → slice_set (drop (n - 1) xs) 0 x ≡ x ∷ drop n xs
set-drop xs n x p h =
    let e : suc (n - 1) ≡ n = omega (arith, p) in
    subst (λ m. slice_set (drop (n - 1) xs) 0 x ≡ x ∷ drop m xs) e (set-drop-suc xs (n - 1) x (omega (arith, p, h)))

-- two items in place of one
pub set-top : {A : Type 0} (xs : List A) (x : A) → 0 < length xs → slice_set xs 0 x ≡ x ∷ drop 1 xs
set-top [] x h = absurd (omega arith)
set-top (y ∷ xs) x h = refl

-- two items in place of so many
set-two-suc : {A : Type 0} (xs : List A) (m : ℕ) (a b : A) → suc (suc m) ≤ length xs → slice_set (slice_set (drop m xs) 1 a) 0 b ≡ b ∷ a ∷ drop (suc (suc m)) xs
set-two-suc [] m a b h = absurd (omega (arith, h))
set-two-suc (x ∷ []) m a b h = absurd (omega (arith, h))
set-two-suc (x ∷ y ∷ xs) zero a b h = refl
set-two-suc (x ∷ y ∷ xs) (suc m) a b h = set-two-suc (y ∷ xs) m a b (omega (arith, h))

pub set-two : {A : Type 0} (xs : List A) (n : ℕ) (a b : A) → 2 ≤ n → n ≤ length xs → slice_set (slice_set (drop (n - 2) xs) 1 a) 0 b ≡ b ∷ a ∷ drop n xs
set-two xs n a b p h =
    let e : suc (suc (n - 2)) ≡ n = omega (arith, p) in
    subst (λ m. slice_set (slice_set (drop (n - 2) xs) 1 a) 0 b ≡ b ∷ a ∷ drop m xs) e (set-two-suc xs (n - 2) a b (omega (arith, p, h)))

-- five items in place of five
pub set-five : {A : Type 0} (xs : List A) (a b c d e : A) → 5 ≤ length xs
    → slice_set (slice_set (slice_set (slice_set (slice_set xs 4 a) 3 b) 2 c) 1 d) 0 e ≡ e ∷ d ∷ c ∷ b ∷ a ∷ drop 5 xs
set-five [] a b c d e h = absurd (omega (arith, h))
set-five (v ∷ []) a b c d e h = absurd (omega (arith, h))
set-five (v ∷ w ∷ []) a b c d e h = absurd (omega (arith, h))
set-five (v ∷ w ∷ x ∷ []) a b c d e h = absurd (omega (arith, h))
set-five (v ∷ w ∷ x ∷ y ∷ []) a b c d e h = absurd (omega (arith, h))
set-five (v ∷ w ∷ x ∷ y ∷ z ∷ xs) a b c d e h = refl
