-- The names of the constants: the lines that write them, and that no two are one.
use Rattle.std.proofs.Common.{◌≡◌, ℕ, zero, suc, None, unwrap_or, option_map, le-leb, ◌+◌, ◌<◌, ◌≤◌, ◌^◌, ◌==◌, nat_le, nat_lt, Bool, true, false, ◌&&◌, List, [], ◌∷◌, ◌++◌, reverse, length, Some, refl, sym, ap, ◌∙◌, arith, length-append, decimal}
use Rattle.std.specs.List.{list_all}
use Rattle.std.proofs.lemmas.List.{reverse-append, reverse-reverse}
use Rattle.std.proofs.lemmas.List.Folds.{list_all-append}
use Rattle.std.proofs.lemmas.Bool.Decides.{nat_tests}
use Rattle.std.proofs.lemmas.Fmt.{decimal_is_IsNumeral, decimal_injective, length-decimal-le}
use Rattle.std.specs.Str.Parse.{AllDigits}
use Rattle.std.proofs.lemmas.Str.Parse.{digit_from_value}
use Rattle.hol_spec.specs.NameEquality.{name_eq}
use Rattle.hol_spec.specs.NameOf.{name_from, with_byte}
use Rattle.hol_laws.specs.NameEqualityLaws.{name_eq-Decides}
use Rattle.article_spec.specs.declared.commands.Item.TheVariants as item
use Rattle.std.specs.Option.{option_or}
use Rattle.common.specs.declared.faults.Kind.TheVariants as kind
use Rattle.article_spec.specs.Contents.{command, faulty, content, drop_blanks, trimmed, said, as_word}
use Rattle.article_spec.specs.Trial.{name_line}
use Rattle.article_trial_laws.specs.Trials.{constant_name}
use Rattle.article_trial_laws.specs.TrialLines.{can_stand, is_line, Says}

-- digits stand for themselves in a name
name_from-digits : (ds : List ℕ) → AllDigits 10 ds → name_from (ds ++ 34 ∷ []) ≡ Some (ds ∷ [])
name_from-digits [] h = refl
name_from-digits (d ∷ ds) h =
    let k = digit_from_value d h.0 in
    let quote : (d == 34) ≡ false = grind (arith, nat_tests, k) in
    let dot : (d == 46) ≡ false = grind (arith, nat_tests, k) in
    let backslash : (d == 92) ≡ false = grind (arith, nat_tests, k) in
    rw (quote, dot, backslash, name_from-digits ds h.1) refl

-- digits stand on one line
digits-on_line : (ds : List ℕ) → AllDigits 10 ds → list_all can_stand ds ≡ true
digits-on_line [] h = refl
digits-on_line (d ∷ ds) h =
    let k = digit_from_value d h.0 in
    let other : (d == 10) ≡ false = grind (arith, nat_tests, k) in
    let byte : nat_lt d 256 ≡ true = grind (arith, nat_tests, k) in
    rw (other, byte, digits-on_line ds h.1) refl

-- a text between quotes has no blanks at its ends
trimmed-quoted : (text : List ℕ) → trimmed (34 ∷ (text ++ 34 ∷ [])) ≡ 34 ∷ (text ++ 34 ∷ [])
trimmed-quoted text =
    ap (λ l. reverse (drop_blanks l)) (reverse-append (34 ∷ text) (34 ∷ [])) ∙ ap reverse (sym (reverse-append (34 ∷ text) (34 ∷ [])))
    ∙ reverse-reverse (34 ∷ (text ++ 34 ∷ []))

small : (i : ℕ) → i ≤ 100000 → i < 2 ^ 64
small i h = omega (arith, h)

digits : (i : ℕ) → i ≤ 100000 → AllDigits 10 (decimal i)
digits i h = (decimal_is_IsNumeral i (small i h)).0.1

-- the line of a name says the name
content-name_line : (i : ℕ) → i ≤ 100000 → content (name_line i) ≡ command (item.Name ((99 ∷ decimal i) ∷ []))
content-name_line i h =
    ap said (trimmed-quoted (99 ∷ decimal i))
    ∙ ap (λ o. unwrap_or (option_or None (option_or (option_map (λ name. command (item.Name name)) (option_map (with_byte 99) o)) (as_word (name_line i))))
    (faulty kind.BadLine)) (name_from-digits (decimal i) (digits i h))

name-is_line : (i : ℕ) → i ≤ 100000 → is_line (name_line i) ≡ true
name-is_line i h =
    let short : length (decimal i) ≤ 20 = length-decimal-le 20 i (omega arith) (omega (arith, h)) (small i h) in
    let long : length (decimal i ++ 34 ∷ []) ≡ length (decimal i) + 1 = length-append (decimal i) (34 ∷ []) in
    let fits : nat_le (length (name_line i)) 100 ≡ true = le-leb _ _ (omega (arith, short, long)) in
    let line : list_all can_stand (name_line i) ≡ true =
    list_all-append can_stand (decimal i) (34 ∷ []) ∙ ap (λ b. b && true) (digits-on_line (decimal i) (digits i h)) in
    ap (λ b. b && nat_le (length (name_line i)) 100) line ∙ fits

-- so it gives it
pub Says-name_line : (i : ℕ) → suc i ≤ 100000 → Says (name_line (suc i) ∷ []) (item.Name (constant_name (suc i)) ∷ [])
Says-name_line i h = record {
  lines = ap (λ b. b && true) (name-is_line (suc i) h);
  means = ap (λ c. c ∷ []) (content-name_line (suc i) h);
}

-- the line of a name is short
pub length-name_line : (i : ℕ) → i ≤ 100000 → length (name_line i) ≤ 23
length-name_line i h =
    let short : length (decimal i) ≤ 20 = length-decimal-le 20 i (omega arith) (omega (arith, h)) (small i h) in
    let long : length (decimal i ++ 34 ∷ []) ≡ length (decimal i) + 1 = length-append (decimal i) (34 ∷ []) in
    omega (arith, short, long)

-- the names of different blocks are different
pub names-apart : (i j : ℕ) → i < j → j ≤ 100000 → name_eq (constant_name j) (constant_name i) ≡ false
names-apart i zero l h = absurd (omega arith)
names-apart zero (suc j) l h = refl
names-apart (suc i) (suc j) l h = go (name_eq (constant_name (suc j)) (constant_name (suc i)))
    (name_eq-Decides (constant_name (suc j)) (constant_name (suc i))).0
  where
    go : (b : Bool) → (b ≡ true → constant_name (suc j) ≡ constant_name (suc i)) → b ≡ false
    go false f = refl
    go true f =
        let e : (99 ∷ decimal (suc j)) ∷ [] ≡ (99 ∷ decimal (suc i)) ∷ [] = f refl in
        let d : decimal (suc j) ≡ decimal (suc i) = cc in
        let same : suc j ≡ suc i = decimal_injective (suc j) (suc i) (omega (arith, h)) (omega (arith, h, l)) d in
        absurd (omega (arith, same, l))
