-- The line that writes a number says it.
use Rattle.std.proofs.Common.{◌≡◌, ℕ, ◌+◌, ◌-◌, ◌*◌, ◌/◌, ◌%◌, ◌^◌, ◌<◌, ◌≤◌, ◌==◌, true, false, ◌&&◌, pos, List, [], ◌∷◌, ◌++◌, reverse, length, refl, ap, ◌∙◌, arith, decimal, cond, length-append}
use Rattle.std.specs.List.{fold, list_all}
use Rattle.std.proofs.lemmas.List.{reverse-append, reverse-reverse}
use Rattle.std.proofs.lemmas.List.Folds.{list_all-append}
use Rattle.std.proofs.lemmas.Bool.Decides.{nat_tests}
use Rattle.std.proofs.lemmas.Bool.{and_parts}
use Rattle.std.proofs.lemmas.Fmt.{decimal_by_steps_wide}
use Rattle.article_spec.specs.declared.commands.Item.TheVariants as item
use Rattle.article_spec.specs.Numbers.{is_digit, is_in_range}
use Rattle.article_spec.specs.Numbers as numbers
use Rattle.article_spec.specs.Contents.{command, content, drop_blanks, trimmed, said, is_blank}

-- digits that have a value
pub record HasValue (n : ℕ) (ds : List ℕ) : Type 0 where
  pub digits : list_all is_digit ds ≡ true
  pub some : 0 < length ds
  pub value : numbers.decimal ds ≡ n

fold-append : {A B : Type 0} (f : A → B → A) (a : A) (xs ys : List B) → fold f a (xs ++ ys) ≡ fold f (fold f a xs) ys
fold-append f a [] ys = refl
fold-append f a (x ∷ xs) ys = fold-append f (f a x) xs ys

digit : (n : ℕ) → n < 10 → is_digit (48 + n) ≡ true
digit n h = grind (arith, nat_tests, h)

one : (n : ℕ) → n < 10 → HasValue n ((48 + n) ∷ [])
one n h = record { digits = ap (λ b. b && true) (digit n h); some = omega arith; value = omega arith }

more : (n : ℕ) (ds : List ℕ) → 10 ≤ n → HasValue (n / 10) ds → HasValue n (ds ++ (48 + n % 10) ∷ [])
more n ds h v = record {
  digits = list_all-append is_digit ds ((48 + n % 10) ∷ []) ∙ ap (λ b. b && (is_digit (48 + n % 10) && true)) v.digits
      ∙ ap (λ b. b && true) (digit (n % 10) (omega arith));
  some = omega (arith, length-append ds ((48 + n % 10) ∷ []));
  value = fold-append (λ value d. 10 * value + (d - 48)) 0 ds ((48 + n % 10) ∷ []) ∙ ap (λ k. 10 * k + (48 + n % 10 - 48)) v.value
      ∙ (let e : 10 * (n / 10) + (48 + n % 10 - 48) ≡ n = omega arith in e);
}

pub decimal-HasValue : (n : ℕ) → n < 10 ^ 64 → HasValue n (decimal n)
decimal-HasValue n h = decimal_by_steps_wide HasValue one more n h

-- digits are no blanks, and so are they from behind
no_blank : (b : ℕ) → is_digit b ≡ true → is_blank b ≡ false
no_blank b h = grind (arith, nat_tests, h)

drop_blanks-digits : (ds : List ℕ) → list_all is_digit ds ≡ true → drop_blanks ds ≡ ds
drop_blanks-digits [] h = refl
drop_blanks-digits (d ∷ ds) h = ap (λ b. cond b (drop_blanks ds) (d ∷ ds)) (no_blank d (and_parts (is_digit d) (list_all is_digit ds) h).0)

reverse-digits : (ds : List ℕ) → list_all is_digit ds ≡ true → list_all is_digit (reverse ds) ≡ true
reverse-digits [] h = refl
reverse-digits (d ∷ ds) h =
    let k = and_parts (is_digit d) (list_all is_digit ds) h in
    ap (list_all is_digit) (reverse-append (d ∷ []) ds) ∙ list_all-append is_digit (reverse ds) (d ∷ [])
    ∙ ap (λ b. b && (is_digit d && true)) (reverse-digits ds k.1) ∙ ap (λ b. b && true) k.0

trimmed-digits : (ds : List ℕ) → list_all is_digit ds ≡ true → trimmed ds ≡ ds
trimmed-digits ds h =
    ap (λ l. reverse (drop_blanks (reverse l))) (drop_blanks-digits ds h) ∙ ap reverse (drop_blanks-digits (reverse ds) (reverse-digits ds h))
    ∙ reverse-reverse ds

in_range : (n : ℕ) → n < 2 ^ 63 → is_in_range (pos n) ≡ true
in_range n h = grind (arith, nat_tests, h)

said-digits : (n : ℕ) (ds : List ℕ) → n < 2 ^ 63 → HasValue n ds → said ds ≡ command (item.Number (pos n))
said-digits n [] h v = absurd (omega (arith, v.some))
said-digits n (d ∷ ds) h v =
    let k = and_parts (is_digit d) (list_all is_digit ds) v.digits in
    let sign : (d == 35) ≡ false = grind (arith, nat_tests, k.0) in
    let minus : (d == 45) ≡ false = grind (arith, nat_tests, k.0) in
    rw (sign, minus, v.digits, v.value, in_range n h) refl

-- A number
pub content-number : (n : ℕ) → n < 2 ^ 63 → content (decimal n) ≡ command (item.Number (pos n))
content-number n h =
    let v = decimal-HasValue n (omega (arith, h)) in
    ap said (trimmed-digits (decimal n) v.digits) ∙ said-digits n (decimal n) h v
