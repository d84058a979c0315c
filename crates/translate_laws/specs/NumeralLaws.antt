-- Laws of numerals: different numbers are written differently, those of 64 digits as `{}` writes them, and a test tells the texts that write
-- numbers.
use Rattle.std.proofs.Common.{◌≡◌, ℕ, zero, suc, ◌+◌, ◌-◌, ◌*◌, ◌/◌, ◌%◌, ◌^◌, ◌<◌, ◌≤◌, ◌⊎◌, inl, inr, Bool, true, false, not, ◌&&◌, cond, List, [], ◌∷◌, ◌++◌, length, refl, sym, ap, subst, ◌∙◌, arith, append_assoc}
use Rattle.std.specs.Prelude.{decimal, nat_eq, nat_lt, Decides}
use Rattle.std.specs.List.{list_all}
use Rattle.std.proofs.lemmas.Bool.{lt-ltb, le-ltb, and_parts}
use Rattle.std.proofs.lemmas.Bool.Decides.{nat_tests}
use Rattle.std.proofs.lemmas.Fmt.{decimal_by_steps_wide, decimal_from_appends_wide}
use Rattle.std.proofs.lemmas.List.{length-append, append-nil}
use Rattle.std.proofs.lemmas.List.Folds.{list_all-append}
use Rattle.lp_spec.specs.Numerals.{last_digits, numeral, IsNumeral, is_decimal_digit, is_numeral}

-- a number has one digit, or one more than a tenth of it
last_digits-one : (k n : ℕ) → n < 10 → last_digits (suc k) n ≡ (48 + n) ∷ []
last_digits-one k n h = ap (λ b. cond b ((48 + n) ∷ []) (last_digits k (n / 10) ++ (48 + n % 10) ∷ [])) (lt-ltb n 10 h)

last_digits-more : (k n : ℕ) → 10 ≤ n → last_digits (suc k) n ≡ last_digits k (n / 10) ++ (48 + n % 10) ∷ []
last_digits-more k n h = ap (λ b. cond b ((48 + n) ∷ []) (last_digits k (n / 10) ++ (48 + n % 10) ∷ [])) (le-ltb n 10 h)

below_ten : (n : ℕ) → (n < 10) ⊎ (10 ≤ n)
below_ten n = go (nat_lt n 10) refl
  where
    go : (b : Bool) → nat_lt n 10 ≡ b → (n < 10) ⊎ (10 ≤ n)
    go true e = inl (grind (arith, nat_tests, e))
    go false e = inr (grind (arith, nat_tests, e))

-- as many digits as there are, or more
last_digits-enough : (k j n : ℕ) → n < k → n < j → last_digits k n ≡ last_digits j n
last_digits-enough zero j n p q = absurd (omega arith)
last_digits-enough (suc k) zero n p q = absurd (omega arith)
last_digits-enough (suc k) (suc j) n p q = elim (below_ten n) [
  | inl h ↦ last_digits-one k n h ∙ sym (last_digits-one j n h)
  | inr h ↦ last_digits-more k n h ∙ ap (λ ds. ds ++ (48 + n % 10) ∷ []) (last_digits-enough k j (n / 10) (omega arith) (omega arith))
      ∙ sym (last_digits-more j n h)
]

pub numeral-one : (n : ℕ) → n < 10 → numeral n ≡ (48 + n) ∷ []
unfolding numeral
numeral-one n h = last_digits-one n n h

pub numeral-more : (n : ℕ) → 10 ≤ n → numeral n ≡ numeral (n / 10) ++ (48 + n % 10) ∷ []
unfolding numeral
numeral-more n h = last_digits-more n n h ∙ ap (λ ds. ds ++ (48 + n % 10) ∷ []) (last_digits-enough n (suc (n / 10)) (n / 10) (omega arith) (omega arith))

-- induction on the digits
module _ (P : ℕ → List ℕ → Type 0) (one : (n : ℕ) → n < 10 → P n ((48 + n) ∷ []))
    (more : (n : ℕ) (ds : List ℕ) → 10 ≤ n → P (n / 10) ds → P n (ds ++ (48 + n % 10) ∷ [])) where
  last_digits-by_digits : (k n : ℕ) → n < k → P n (last_digits k n)
  last_digits-by_digits zero n h = absurd (omega arith)
  last_digits-by_digits (suc k) n h = elim (below_ten n) [
    | inl l ↦ subst (P n) (sym (last_digits-one k n l)) (one n l)
    | inr l ↦ subst (P n) (sym (last_digits-more k n l)) (more n (last_digits k (n / 10)) l (last_digits-by_digits k (n / 10) (omega arith)))
  ]

  pub numeral-by_digits : (n : ℕ) → P n (numeral n)
  unfolding numeral
  numeral-by_digits n = last_digits-by_digits (suc n) n (omega arith)

-- the value of digits after those of a number
abbrev value_after : ℕ → List ℕ → ℕ
value_after n [] = n
value_after n (d ∷ ds) = value_after (10 * n + (d - 48)) ds

value_after-last : (n : ℕ) (ds : List ℕ) (d : ℕ) → value_after n (ds ++ d ∷ []) ≡ 10 * value_after n ds + (d - 48)
value_after-last n [] d = refl
value_after-last n (e ∷ ds) d = value_after-last (10 * n + (e - 48)) ds d

value_after-numeral : (n : ℕ) → value_after 0 (numeral n) ≡ n
value_after-numeral = numeral-by_digits (λ n ds. value_after 0 ds ≡ n) (λ n l. omega arith)
    (λ n ds l e. let last = value_after-last 0 ds (48 + n % 10) in omega (arith, last, e))

-- Different numbers are written differently
pub numeral-injective : (m n : ℕ) → numeral m ≡ numeral n → m ≡ n
numeral-injective m n e = sym (value_after-numeral m) ∙ ap (value_after 0) e ∙ value_after-numeral n

-- Numbers of at most 64 digits are written as `{}` writes them
length-decimal : (n : ℕ) → n < 10 ^ 64 → length (decimal n) ≤ suc n
length-decimal = decimal_by_steps_wide (λ m ds. length ds ≤ suc m) (λ m l. omega arith) (λ m ds l h. omega (arith, length-append ds ((48 + m % 10) ∷ [])))

pub numeral-decimal : (n : ℕ) → n < 10 ^ 64 → numeral n ≡ decimal n
unfolding numeral
numeral-decimal n h = decimal_from_appends_wide last_digits (record { one = last_digits-one; more = last_digits-more }) (suc n) n h (length-decimal n h)

-- digits
digit-is : (n : ℕ) → n < 10 → is_decimal_digit (48 + n) ≡ true
digit-is n h = grind (arith, nat_tests)

digit-within : (d : ℕ) → is_decimal_digit d ≡ true → (48 ≤ d) × (d ≤ 57)
digit-within d h = (grind (arith, nat_tests), grind (arith, nat_tests))

pub numeral-digits : (n : ℕ) → list_all is_decimal_digit (numeral n) ≡ true
numeral-digits = numeral-by_digits (λ n ds. list_all is_decimal_digit ds ≡ true) (λ n l. ap (λ b. b && true) (digit-is n l))
    (λ n ds l e. list_all-append is_decimal_digit ds ((48 + n % 10) ∷ []) ∙ ap (λ b. b && list_all is_decimal_digit ((48 + n % 10) ∷ [])) e
    ∙ ap (λ b. b && true) (digit-is (n % 10) (omega arith)))

abbrev first_of : List ℕ → ℕ
first_of [] = 0
first_of (d ∷ ds) = d

first_of-append : (ds es : List ℕ) → 48 < first_of ds → first_of (ds ++ es) ≡ first_of ds
first_of-append [] es h = absurd (omega arith)
first_of-append (d ∷ ds) es h = refl

-- no zero leads
first_of-numeral : (n : ℕ) → 0 < n → 48 < first_of (numeral n)
first_of-numeral = numeral-by_digits (λ n ds. 0 < n → 48 < first_of ds) (λ n l h. omega arith)
    (λ n ds l f h. let front = f (omega arith) in let same = first_of-append ds ((48 + n % 10) ∷ []) front in omega (arith, front, same))

pub numeral-some : (n : ℕ) → 0 < length (numeral n)
numeral-some = numeral-by_digits (λ n ds. 0 < length ds) (λ n l. omega arith) (λ n ds l h. omega (arith, length-append ds ((48 + n % 10) ∷ [])))

-- the test takes each numeral
digits-is_numeral : (ds : List ℕ) → list_all is_decimal_digit ds ≡ true → 48 < first_of ds → is_numeral ds ≡ true
digits-is_numeral [] e h = absurd (omega arith)
digits-is_numeral (d ∷ []) e h = (and_parts (is_decimal_digit d) true e).0
digits-is_numeral (d ∷ c ∷ ds) e h = go (nat_eq d 48) refl
  where
    go : (b : Bool) → nat_eq d 48 ≡ b → (not b && list_all is_decimal_digit (d ∷ c ∷ ds)) ≡ true
    go true f = absurd (grind (arith, nat_tests, f, h))
    go false f = e

pub is_numeral-numeral : (n : ℕ) → is_numeral (numeral n) ≡ true
is_numeral-numeral zero = ap is_numeral (numeral-one 0 (omega arith))
is_numeral-numeral (suc n) = digits-is_numeral (numeral (suc n)) (numeral-digits (suc n)) (first_of-numeral (suc n) (omega arith))

-- and each text that it takes is one
numeral-value_after : (n : ℕ) (ds : List ℕ) → 0 < n → list_all is_decimal_digit ds ≡ true → numeral (value_after n ds) ≡ numeral n ++ ds
numeral-value_after n [] some e = sym (append-nil (numeral n))
numeral-value_after n (d ∷ ds) some e =
    let parts = and_parts (is_decimal_digit d) (list_all is_decimal_digit ds) e in
    let within = digit-within d parts.0 in
    let m : ℕ = 10 * n + (d - 48) in
    let front : m / 10 ≡ n = omega (arith, within) in
    let last : 48 + m % 10 ≡ d = omega (arith, within) in
    numeral-value_after m ds (omega arith) parts.1
    ∙ ap (λ text. text ++ ds) (numeral-more m (omega arith) ∙ (λ i. numeral (front i) ++ (last i ∷ [])))
    ∙ append_assoc (numeral n) (d ∷ []) ds

numeral-digit : (d : ℕ) → is_decimal_digit d ≡ true → numeral (d - 48) ≡ d ∷ []
numeral-digit d h =
    let within = digit-within d h in
    let same : 48 + (d - 48) ≡ d = omega (arith, within) in
    numeral-one (d - 48) (omega (arith, within)) ∙ ap (λ b. b ∷ []) same

is_numeral-IsNumeral : (text : List ℕ) → is_numeral text ≡ true → IsNumeral text
is_numeral-IsNumeral [] e = absurd (cc)
is_numeral-IsNumeral (d ∷ []) e = record { number = d - 48; is = sym (numeral-digit d e) }
is_numeral-IsNumeral (d ∷ c ∷ ds) e =
    let parts = and_parts (not (nat_eq d 48)) (list_all is_decimal_digit (d ∷ c ∷ ds)) e in
    let digits = and_parts (is_decimal_digit d) (list_all is_decimal_digit (c ∷ ds)) parts.1 in
    let within = digit-within d digits.0 in
    record {
      number = value_after (d - 48) (c ∷ ds);
      is = sym (numeral-value_after (d - 48) (c ∷ ds) (leads d parts.0 within.0) digits.1 ∙ ap (λ text. text ++ c ∷ ds) (numeral-digit d digits.0));
    }
  where
    leads : (d : ℕ) → not (nat_eq d 48) ≡ true → 48 ≤ d → 0 < d - 48
    leads d f l = grind (arith, nat_tests, f, l)

pub is_numeral-Decides : (text : List ℕ) → Decides (is_numeral text) (IsNumeral text)
is_numeral-Decides text = (is_numeral-IsNumeral text, λ n. ap is_numeral n.is ∙ is_numeral-numeral n.number)
