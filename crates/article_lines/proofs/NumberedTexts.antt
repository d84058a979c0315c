-- Texts of a number, an underscore and digits, taken apart.
use Rattle.std.proofs.Common.{◌≡◌, ℕ, zero, suc, ◌+◌, ◌-◌, ◌<◌, ◌≤◌, ◌^◌, Bool, true, false, ◌&&◌, List, [], ◌∷◌, ◌++◌, take, drop, length, Some, slice_get, slice_index_or, refl, sym, ap, ap₂, subst, ◌∙◌, arith, decimal, append_assoc}
use Rattle.std.specs.Prelude.{nat_eq}
use Rattle.std.specs.List.{list_all, starts_with}
use Rattle.std.proofs.lemmas.Slice.Eq.{starts_is}
use Rattle.std.proofs.Math.Seq.{drop-append_seam}
use Rattle.std.proofs.Math.Dec.{eqb}
use lib.Pointwise.{pointwise}
use Rattle.std.proofs.lemmas.Bool.{and_parts}
use Rattle.std.proofs.lemmas.Bool.Decides.{nat_tests, Decides-eqb}
use Rattle.hol_spec.specs.Names.{Name}
use Rattle.article_spec.specs.Numbers.{is_digit}
use Rattle.article_spec.specs.Numbers as numbers
use Rattle.article_write_spec.specs.BinderNames.{binder_front, are_digits, is_binder_name}
use Rattle.article_write_laws.specs.NumberTextLaws.{decimal-HasValue}
use Rattle.article_lines.specs.Numbered.{IsNumbered, IsConfirmed, HasNone, IsFirst}

-- Digits
pub digits-next : (text : List ℕ) (i : ℕ) → i < length text → list_all is_digit (take i text) ≡ true → is_digit (slice_index_or text i 0) ≡ true
    → list_all is_digit (take (i + 1) text) ≡ true
digits-next text i low h d = ap (λ k. list_all is_digit (take k text)) (let e : i + 1 ≡ suc i = omega arith in e) ∙ go text i low h d
  where
    go : (xs : List ℕ) (k : ℕ) → k < length xs → list_all is_digit (take k xs) ≡ true → is_digit (slice_index_or xs k 0) ≡ true
        → list_all is_digit (take (suc k) xs) ≡ true
    go [] k l a b = absurd (omega (arith, l))
    go (x ∷ xs) zero l a b = ap (λ z. z && true) b
    go (x ∷ xs) (suc k) l a b = let p = and_parts (is_digit x) (list_all is_digit (take k xs)) a in ap₂ (λ y z. y && z) p.0 (go xs k (omega (arith, l)) p.1 b)

pub digits-no : (text : List ℕ) (i : ℕ) → i < length text → is_digit (slice_index_or text i 0) ≡ false → are_digits text ≡ false
digits-no [] i low d = absurd (omega (arith, low))
digits-no (x ∷ xs) i low d = go (x ∷ xs) i low d
  where
    off : (b : Bool) → (b && false) ≡ false
    off true = refl
    off false = refl

    go : (ys : List ℕ) (k : ℕ) → k < length ys → is_digit (slice_index_or ys k 0) ≡ false → list_all is_digit ys ≡ false
    go [] k l e = absurd (omega (arith, l))
    go (y ∷ ys) zero l e = ap (λ b. b && list_all is_digit ys) e
    go (y ∷ ys) (suc k) l e = ap (λ b. is_digit y && b) (go ys k (omega (arith, l)) e) ∙ off (is_digit y)

pub digits-yes : (text : List ℕ) (i : ℕ) → length text ≡ i → 0 < length text → list_all is_digit (take i text) ≡ true → are_digits text ≡ true
digits-yes [] i e some h = absurd (omega (arith, some))
digits-yes (x ∷ xs) i e some h = ap (list_all is_digit) (sym (all (x ∷ xs) i e)) ∙ h
  where
    all : (ys : List ℕ) (k : ℕ) → length ys ≡ k → take k ys ≡ ys
    all [] zero l = refl
    all [] (suc k) l = refl
    all (y ∷ ys) zero l = absurd (omega (arith, l))
    all (y ∷ ys) (suc k) l = ap (λ z. y ∷ z) (all ys k (omega (arith, l)))

-- Texts
digits-none : (ds : List ℕ) → list_all is_digit ds ≡ true → HasNone ds
digits-none [] h = tt
digits-none (d ∷ ds) h = let p = and_parts (is_digit d) (list_all is_digit ds) h in
    ((λ e. absurd (let k = p.0 in grind (arith, nat_tests, k, e))), digits-none ds p.1)

number-none : (q : ℕ) → q < 2 ^ 64 → HasNone (decimal q)
number-none q h = digits-none (decimal q) (decimal-HasValue q (omega (arith, h))).digits

pub number-value : (q : ℕ) → q < 2 ^ 64 → numbers.decimal (decimal q) ≡ q
number-value q h = (decimal-HasValue q (omega (arith, h))).value

-- one way to part a text at its first underscore
one-way : (xs ys us vs : List ℕ) → HasNone xs → HasNone us → xs ++ 95 ∷ ys ≡ us ++ 95 ∷ vs → (xs ≡ us) × (ys ≡ vs)
one-way [] ys [] vs h k e = (refl, cc)
one-way [] ys (u ∷ us) vs h k e = absurd (k.0 (let f : 95 ≡ u = cc in sym f))
one-way (x ∷ xs) ys [] vs h k e = absurd (h.0 (let f : x ≡ 95 = cc in f))
one-way (x ∷ xs) ys (u ∷ us) vs h k e = let f : x ≡ u = cc in let g : xs ++ 95 ∷ ys ≡ us ++ 95 ∷ vs = cc in let r =
    one-way xs ys us vs h.1 k.1 g in (ap₂ (λ z l. z ∷ l) f r.0, r.1)

pub parted : (text : List ℕ) (i : ℕ) → slice_get text i ≡ Some 95 → text ≡ take i text ++ 95 ∷ drop (suc i) text
parted [] i e = absurd (cc)
parted (x ∷ xs) zero e = let f : x ≡ 95 = cc in ap (λ z. z ∷ xs) f
parted (x ∷ xs) (suc i) e = ap (λ l. x ∷ l) (parted xs i e)

pub place-below : (text : List ℕ) (i : ℕ) → slice_get text i ≡ Some 95 → i < length text
place-below [] i e = absurd (cc)
place-below (x ∷ xs) zero e = omega arith
place-below (x ∷ xs) (suc i) e = let h = place-below xs i e in omega (arith, h)

none-in : (ds ys : List ℕ) → HasNone (ds ++ 95 ∷ ys) → ⊥
none-in [] ys h = absurd (h.0 refl)
none-in (d ∷ ds) ys h = none-in ds ys h.1

-- without an underscore
pub none-Numbered : (q : ℕ) (text : List ℕ) → HasNone text → IsNumbered q text → ⊥
none-Numbered q text h n = none-in (decimal q) n.behind (subst HasNone n.is h)

-- with one
pub numbered-parts : (q : ℕ) (text : List ℕ) (i : ℕ) → q < 2 ^ 64 → IsFirst text i → IsNumbered q text → (take i text ≡ decimal q)
    × (are_digits (drop (suc i) text) ≡ true)
numbered-parts q text i low f n =
    let r = one-way (take i text) (drop (suc i) text) (decimal q) n.behind f.before (number-none q low) (sym (parted text i f.at) ∙ n.is) in
    (r.0, ap are_digits r.1 ∙ n.digits)

-- all that stands behind a place
pub behind-is : (text : List ℕ) (k : ℕ) → take (length text - k) (drop k text) ≡ drop k text
behind-is [] zero = refl
behind-is [] (suc k) = none (0 - suc k)
  where
    none : (i : ℕ) → take {A = ℕ} i [] ≡ []
    none zero = refl
    none (suc i) = refl
behind-is (x ∷ xs) zero = all (x ∷ xs) (suc (length xs) - 0) (let e : suc (length xs) ≡ suc (length xs) - 0 = omega arith in e)
  where
    all : (ys : List ℕ) (i : ℕ) → length ys ≡ i → take i ys ≡ ys
    all [] zero l = refl
    all [] (suc i) l = refl
    all (y ∷ ys) zero l = absurd (omega (arith, l))
    all (y ∷ ys) (suc i) l = ap (λ z. y ∷ z) (all ys i (omega (arith, l)))
behind-is (x ∷ xs) (suc k) = ap (λ i. take i (drop k xs)) (let e : suc (length xs) - suc k ≡ length xs - k = omega arith in e) ∙ behind-is xs k

-- what a value, the digits and what stands behind them tell
pub confirmed-Numbered : (q : ℕ) (text digits behind : List ℕ) (i v : ℕ) → IsFirst text i → digits ≡ take i text → behind ≡ drop (i + 1) text
    → IsConfirmed v digits behind q → IsNumbered q text
confirmed-Numbered q text digits behind i v f d b c = record {
  behind = drop (suc i) text;
  is = parted text i f.at ∙ ap (λ l. l ++ 95 ∷ drop (suc i) text) (sym d ∙ c.written);
  digits = ap (λ k. are_digits (drop k text)) (let e : suc i ≡ i + 1 = omega arith in e) ∙ ap are_digits (sym b) ∙ c.followed;
}

pub numbered-Confirmed : (q : ℕ) (text digits behind : List ℕ) (i v : ℕ) → q < 2 ^ 64 → IsFirst text i → digits ≡ take i text → behind ≡ drop (i + 1) text → v
    ≡ numbers.decimal digits → IsNumbered q text → IsConfirmed v digits behind q
numbered-Confirmed q text digits behind i v low f d b value n =
    let r = numbered-parts q text i low f n in
    record {
      same = value ∙ ap numbers.decimal (d ∙ r.0) ∙ number-value q low;
      written = d ∙ r.0;
      followed = ap are_digits b ∙ ap (λ k. are_digits (drop k text)) (let e : i + 1 ≡ suc i = omega arith in e) ∙ r.1;
    }

-- a value that is too large is that of no number
pub large-Numbered : (q : ℕ) (text digits : List ℕ) (i : ℕ) → q < 2 ^ 64 → IsFirst text i → digits ≡ take i text → 2 ^ 64 ≤ numbers.decimal digits
    → IsNumbered q text → ⊥
large-Numbered q text digits i low f d large n =
    let r = numbered-parts q text i low f n in
    let value : numbers.decimal digits ≡ q = ap numbers.decimal (d ∙ r.0) ∙ number-value q low in
    omega (arith, low, large, value)

-- Names
pub first-yes : (bytes text : List ℕ) → pointwise eqb (take 1 bytes) (95 ∷ []) ≡ true → text ≡ drop 1 bytes → bytes ≡ 95 ∷ text
first-yes [] text e d = absurd (cc)
first-yes (b ∷ bytes) text e d = ap₂ (λ x l. x ∷ l) (let p = and_parts (eqb b 95) true e in grind (arith, nat_tests, p.0)) (sym d)

pub first-no : (bytes text : List ℕ) → pointwise eqb (take 1 bytes) (95 ∷ []) ≡ false → bytes ≡ 95 ∷ text → ⊥
first-no [] text e d = absurd (cc)
first-no (b ∷ bytes) text e d = let same : b ≡ 95 =
    cc in absurd (let f : pointwise eqb (95 ∷ []) (95 ∷ []) ≡ false = ap (λ x. pointwise eqb (x ∷ []) (95 ∷ [])) (sym same) ∙ e in cc)

-- a name of another form
pub name-other : (q : ℕ) (name : Name) (bytes : List ℕ) → slice_get name 0 ≡ Some bytes → length name ≡ 1 → pointwise eqb (take 1 bytes) (95 ∷ []) ≡ false
    → is_binder_name q name ≡ true → ⊥
name-other q [] bytes e l f h = absurd (cc)
name-other q (c ∷ d ∷ name) bytes e l f h = absurd (omega (arith, l))
name-other q (c ∷ []) bytes e l f h =
    let same : c ≡ bytes = cc in
    let p = and_parts (starts_with nat_eq c (binder_front q)) (are_digits (drop (length (binder_front q)) c)) h in
    let whole = (starts_is {E = nat_eq} Decides-eqb c (binder_front q) (starts_with nat_eq c (binder_front q)) refl).0 p.0 in
    first-no bytes ((decimal q ++ 95 ∷ []) ++ drop (length (binder_front q)) c) f (sym same ∙ whole)

pub numbered-name : (q : ℕ) (name : Name) (bytes text : List ℕ) → slice_get name 0 ≡ Some bytes → length name ≡ 1 → bytes ≡ 95 ∷ text → IsNumbered q text
    → is_binder_name q name ≡ true
numbered-name q [] bytes text e l b n = absurd (cc)
numbered-name q (c ∷ d ∷ name) bytes text e l b n = absurd (omega (arith, l))
numbered-name q (c ∷ []) bytes text e l b n =
    let same : c ≡ bytes = cc in
    let whole : binder_front q ++ n.behind ≡ bytes = ap (λ l. 95 ∷ l) (append_assoc (decimal q) (95 ∷ []) n.behind ∙ sym n.is) ∙ sym b in
    let front = (starts_is {E = nat_eq} Decides-eqb (binder_front q ++ n.behind) (binder_front q)
    (starts_with nat_eq (binder_front q ++ n.behind) (binder_front q)) refl).1 n.behind refl in
    let rest : are_digits (drop (length (binder_front q)) (binder_front q ++ n.behind)) ≡ true =
    ap are_digits (drop-append_seam (binder_front q) n.behind) ∙ n.digits in
    ap (λ z. is_binder_name q (z ∷ [])) (same ∙ sym whole) ∙ ap₂ (λ x y. x && y) front rest

pub name-numbered : (q : ℕ) (name : Name) (bytes text : List ℕ) → slice_get name 0 ≡ Some bytes → length name ≡ 1 → bytes ≡ 95 ∷ text → is_binder_name q name
    ≡ true → IsNumbered q text
name-numbered q [] bytes text e l b h = absurd (cc)
name-numbered q (c ∷ d ∷ name) bytes text e l b h = absurd (omega (arith, l))
name-numbered q (c ∷ []) bytes text e l b h =
    let same : c ≡ bytes = cc in
    let p = and_parts (starts_with nat_eq c (binder_front q)) (are_digits (drop (length (binder_front q)) c)) h in
    let behind = drop (length (binder_front q)) c in
    let whole : c ≡ binder_front q ++ behind = (starts_is {E = nat_eq} Decides-eqb c (binder_front q) (starts_with nat_eq c (binder_front q)) refl).0 p.0 in
    let first : 95 ∷ text ≡ 95 ∷ ((decimal q ++ 95 ∷ []) ++ behind) = sym b ∙ sym same ∙ whole in
    let rest : text ≡ (decimal q ++ 95 ∷ []) ++ behind = cc in
    record { behind = behind; is = rest ∙ append_assoc (decimal q) (95 ∷ []) behind; digits = p.1 }
