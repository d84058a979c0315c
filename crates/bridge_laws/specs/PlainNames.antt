-- The names that a run's module declares are identifiers, unlike key words and the names of binders: each begins with a letter that begins no
-- binder's name, and its second byte is no small letter, as that of each key word is.
use Rattle.std.proofs.Common.{◌≡◌, ◌≤◌, ◌<◌, ◌+◌, ◌/◌, ◌%◌, ◌&&◌, ℕ, Bool, true, false, cond, List, [], ◌∷◌, ◌++◌, map, refl, sym, ap, subst, ◌∙◌, arith, codes, inl, inr}
use Rattle.std.specs.Prelude.{nat_le, nat_eq, ◌||◌, ◌==◌}
use Rattle.std.specs.List.{AllByRecursion, list_all, position_or_len}
use Rattle.std.specs.Char.{is_ascii_alphanumeric}
use Rattle.std.specs.Str.{bytes_eq}
use Rattle.std.specs.Bool.{Decides}
use Rattle.std.proofs.Math.Bool.{or-true}
use Rattle.std.proofs.lemmas.Grind.{common_steps}
use Rattle.std.proofs.lemmas.Bool.{cases_lt, lt-ltb, le-ltb}
use Rattle.std.proofs.lemmas.Bool.Decides.{nat_tests}
use Rattle.std.proofs.lemmas.List.Folds.{list_all-append}
use Rattle.std.proofs.lemmas.Slice.Eq.{bytes_eq-Decides}
use Rattle.hol_spec.specs.Names.{Name}
use Rattle.hol_spec.specs.Mangling.{AreBytes, IsName, hex_digit, underscore, mangled, mangled_before, mangled_more}
use Rattle.hol_spec.specs.Proofs.{Accepted, symbols_of}
use Rattle.hol_spec.specs.Symbols.{Symbol}
use Rattle.article_spec.specs.SoundRuns.{IsSoundRun}
use Rattle.lp_spec.specs.TextLaws.{ArePlain, IsPlainName}
use Rattle.lp_spec.specs.Tokens.{is_letter, is_word_byte}
use Rattle.translate_spec.specs.Image.{image, name_in}
use Rattle.translate_spec.specs.Items.{Content, Item, declaration}
use Rattle.translate_spec.specs.MadeItems.{items_of, roots_of}
use Rattle.lp_spec.specs.ShortNames.{is_short_name, NoneShort}
use Rattle.lp_spec.specs.Numerals.{numeral, is_decimal_digit, is_numeral}
use Rattle.translate_spec.specs.Reach.{keep_of, kept, renumbered, symbol_of, image_items}
use Rattle.translate_spec.specs.Items as item
use Rattle.translate_laws.specs.NumeralLaws.{numeral-digits}
use Rattle.image_laws.specs.Named.{HasNames, IsStepName, first_byte, second_byte, step_name-low}
use Rattle.image_laws.specs.NewNames.{IsSymbolName, symbol_name-high}
use Rattle.image_laws.specs.Origins.{made-origins}
use Rattle.image_laws.specs.RunModules.{HaveNames, IsItemName, items-named}

-- Bytes of words
-- a digit is one, and so is an ASCII letter
digit-word : (b : ℕ) → is_decimal_digit b ≡ true → is_word_byte b ≡ true
digit-word b e = ap (λ d. is_letter b || (d || (b == 95))) e ∙ or-true (is_letter b)

alphanumeric-word : (b : ℕ) → is_ascii_alphanumeric b ≡ true → is_word_byte b ≡ true
alphanumeric-word b e = go (nat_le 48 b && nat_le b 57) (nat_le 65 b && nat_le b 90) (nat_le 97 b && nat_le b 122) (b == 95) e
  where
    go : (digit upper lower line : Bool) → ((digit || upper) || lower) ≡ true → ((upper || lower) || (digit || line)) ≡ true
    go digit true lower line e = refl
    go digit false true line e = refl
    go true false false line e = refl
    go false false false line e = absurd (cc)

-- a hexadecimal digit
low_digit : (n : ℕ) → n < 10 → is_decimal_digit (n + 48) ≡ true
low_digit n l = grind (arith, nat_tests)

high_digit : (n : ℕ) → 10 ≤ n → n < 16 → (nat_le 97 (n + 87) && nat_le (n + 87) 122) ≡ true
high_digit n l h = grind (arith, nat_tests)

hex_digit-word : (n : ℕ) → n < 16 → is_word_byte (hex_digit n) ≡ true
hex_digit-word n h = elim (cases_lt n 10) [
  | inl l ↦ ap (λ b. is_word_byte (cond b (n + 48) (n + 87))) (lt-ltb n 10 l) ∙ digit-word (n + 48) (low_digit n l)
  | inr l ↦ ap (λ b. is_word_byte (cond b (n + 48) (n + 87))) (le-ltb n 10 l)
      ∙ letter (nat_le 65 (n + 87) && nat_le (n + 87) 90) (nat_le 97 (n + 87) && nat_le (n + 87) 122) _ (high_digit n l h)
]
  where
    letter : (upper lower other : Bool) → lower ≡ true → ((upper || lower) || other) ≡ true
    letter upper lower other e = ap (λ b. (upper || b) || other) e ∙ ap (λ b. b || other) (or-true upper)

-- Texts of word bytes
abbrev AreWordBytes : List ℕ → Type 0
AreWordBytes bytes = list_all is_word_byte bytes ≡ true

word-more : (b : ℕ) (bytes : List ℕ) → is_word_byte b ≡ true → AreWordBytes bytes → AreWordBytes (b ∷ bytes)
word-more b bytes e h = (λ i. e i && h i)

words-append : (xs ys : List ℕ) → AreWordBytes xs → AreWordBytes ys → AreWordBytes (xs ++ ys)
words-append xs ys h k = list_all-append is_word_byte xs ys ∙ (λ i. h i && k i)

-- digits are
digits-words : (ds : List ℕ) → list_all is_decimal_digit ds ≡ true → AreWordBytes ds
digits-words [] h = refl
digits-words (d ∷ ds) h = go (is_decimal_digit d) refl h (digits-words ds)
  where
    go : (b : Bool) → is_decimal_digit d ≡ b → (b && list_all is_decimal_digit ds) ≡ true → (list_all is_decimal_digit ds ≡ true → AreWordBytes ds)
        → AreWordBytes (d ∷ ds)
    go true e k rest = word-more d ds (digit-word d e) (rest k)
    go false e k rest = absurd (cc)

numeral-words : (n : ℕ) → AreWordBytes (numeral n)
numeral-words n = digits-words (numeral n) (numeral-digits n)

-- so is the mangled text of a name of bytes
component-words : (bytes rest : List ℕ) → AreBytes bytes → AreWordBytes rest → AreWordBytes (mangled_before bytes rest)
component-words [] rest h k = k
component-words (b ∷ bs) rest h k = go (is_ascii_alphanumeric b) refl (component-words bs rest h.1 k)
  where
    go : (plain : Bool) → is_ascii_alphanumeric b ≡ plain → AreWordBytes (mangled_before bs rest)
        → AreWordBytes (cond plain (b ∷ mangled_before bs rest) (underscore ∷ hex_digit (b / 16) ∷ hex_digit (b % 16) ∷ mangled_before bs rest))
    go true e more = word-more b (mangled_before bs rest) (alphanumeric-word b e) more
    go false e more =
        let l = h.0 in
        let after = mangled_before bs rest in
        word-more underscore (hex_digit (b / 16) ∷ hex_digit (b % 16) ∷ after) refl
        (word-more (hex_digit (b / 16)) (hex_digit (b % 16) ∷ after) (hex_digit-word (b / 16) (omega (arith, l)))
        (word-more (hex_digit (b % 16)) after (hex_digit-word (b % 16) (omega (arith, l))) more))

more-words : (name : Name) → AllByRecursion AreBytes name → AreWordBytes (mangled_more name)
more-words [] h = refl
more-words (bytes ∷ name) h =
    let after = mangled_before bytes (mangled_more name) in
    word-more underscore (underscore ∷ after) refl (word-more underscore after refl (component-words bytes (mangled_more name) h.0 (more-words name h.1)))

mangled-words : (name : Name) → IsName name → AreWordBytes (mangled name)
mangled-words [] h = absurd h
mangled-words (bytes ∷ name) h = component-words bytes (mangled_more name) h.0 (more-words name h.1)

-- Names
-- a name that begins with a letter other than `v`, and whose second byte is no small letter, is plain
other-word : (name word : List ℕ) → second_byte name ≤ 95 → 96 < second_byte word → bytes_eq name word ≡ false
other-word name word low high = go (bytes_eq name word) (bytes_eq-Decides name word)
  where
    go : (b : Bool) → Decides b (name ≡ word) → b ≡ false
    go true d = let same = ap second_byte (d.0 refl) in absurd (omega (arith, low, high, same))
    go false d = refl

plain-name : (first : ℕ) (more name : List ℕ) → name ≡ first ∷ more → is_letter first ≡ true → (first ≡ 118 → ⊥) → AreWordBytes more → second_byte name ≤ 95
    → IsPlainName name
plain-name first more name is letter other bytes low = record {
  word = record { first = first; more = more; is = is; letter = letter; bytes = bytes };
  no_key = rw (
    other-word name (codes "Type") low (omega arith),
    other-word name (codes "def") low (omega arith),
    other-word name (codes "thm") low (omega arith),
  ) refl;
  no_binder = λ d e. let same : first ≡ 118 = ap first_byte (sym is ∙ e) in other same;
}

symbol_name-plain : (symbols : List Symbol) (c : Content) (name : List ℕ) → IsSymbolName symbols c name → IsPlainName name
symbol_name-plain symbols c name h = go h (symbol_name-high symbols c name h).1
  where
    go : IsSymbolName symbols c name → second_byte name ≤ 95 → IsPlainName name
    go (IsSymbolName.an_input n is e w) low = plain-name 105 (codes "_" ++ mangled n) name w refl (λ e. absurd (omega (arith, e)))
        (word-more 95 (mangled n) refl (mangled-words n is)) low
    go (IsSymbolName.an_input_operator n k is e w) low =
        plain-name 116 (numeral k ++ (codes "_" ++ mangled n)) name w refl (λ e. absurd (omega (arith, e)))
        (words-append (numeral k) (codes "_" ++ mangled n) (numeral-words k) (word-more 95 (mangled n) refl (mangled-words n is))) low
    go (IsSymbolName.a_constant n is e w) low = plain-name 99 (codes "_" ++ mangled n) name w refl (λ e. absurd (omega (arith, e)))
        (word-more 95 (mangled n) refl (mangled-words n is)) low
    go (IsSymbolName.an_operator names a f j one is among e w) low =
        plain-name 111 (codes "_" ++ mangled names.operator) name w refl (λ e. absurd (omega (arith, e)))
        (word-more 95 (mangled names.operator) refl (mangled-words names.operator is)) low

lower : (a : ℕ) → a ≤ 57 → a ≤ 95
lower a l = omega (arith, l)

step_name-plain : (run : Accepted) (i : ℕ) (name : List ℕ) {k : _} → IsStepName run i k name → IsPlainName name
step_name-plain run i name {k} h = go h (lower (second_byte name) (step_name-low run i k name h).1)
  where
    go : IsStepName run i k name → second_byte name ≤ 95 → IsPlainName name
    go (IsStepName.an_export e n) low = plain-name 69 (numeral (position_or_len (nat_eq i) run.exports)) name n refl (λ e. absurd (omega (arith, e)))
        (numeral-words _) low
    go (IsStepName.an_assumption d e y n) low = plain-name 65 (numeral (position_or_len (nat_eq i) run.assumptions)) name n refl
        (λ e. absurd (omega (arith, e))) (numeral-words _) low
    go (IsStepName.a_law e y n) low = plain-name 76 (numeral i) name n refl (λ e. absurd (omega (arith, e))) (numeral-words i) low
    go (IsStepName.a_theorem e y n) low = plain-name 84 (numeral i) name n refl (λ e. absurd (omega (arith, e))) (numeral-words i) low

item_name-plain : (run : Accepted) (P : ℕ → Type 0) (z : Item) → IsItemName run P z → IsPlainName z.name
item_name-plain run P z (IsItemName.by_symbol h) = symbol_name-plain (symbols_of run.made) z.content z.name h
item_name-plain run P z (IsItemName.by_step i x p at told h) = step_name-plain run i z.name h

items-plain : (run : Accepted) (before xs : List Item) → HaveNames run before xs → AllByRecursion (λ (z : Item). IsPlainName z.name) xs
items-plain run before [] h = tt
items-plain run before (z ∷ zs) h = (item_name-plain run _ z h.0, items-plain run (before ++ z ∷ []) zs h.1)

-- the name of an item is that of its declaration
declared-name : (symbols : _) (z : Item) → (declaration symbols z).name ≡ z.name
declared-name symbols z = go z.content
  where
    go : (c : Content) → (item.declaration_of symbols z.name c).name ≡ z.name
    go (item.operator n k) = refl
    go (item.constant n a) = refl
    go (item.defined_constant n a t) = refl
    go (item.type_operator names c u j one) = refl
    go (item.type_abstraction names c u j one) = refl
    go (item.type_representation names c u j one) = refl
    go (item.unproved s) = refl
    go (item.step kind js premises given s) = refl

declared-plain : (symbols : _) (number : ℕ → ℕ) (keep : ℕ → Bool) (xs : List Item) → AllByRecursion (λ (z : Item). IsPlainName z.name) xs
    → ArePlain (map (declaration symbols) (map (renumbered number) (kept keep xs)))
declared-plain symbols number keep [] h = tt
declared-plain symbols number keep (x ∷ xs) h = go (keep x.symbol) (declared-plain symbols number keep xs h.1)
  where
    go : (b : Bool) → ArePlain (map (declaration symbols) (map (renumbered number) (kept keep xs)))
        → ArePlain (map (declaration symbols) (map (renumbered number) (cond b (x ∷ kept keep xs) (kept keep xs))))
    go true rest = (subst IsPlainName (sym (declared-name symbols (renumbered number x))) h.0, rest)
    go false rest = rest

-- Every declared name of a run's module can be written
pub image-ArePlain : (run : Accepted) → HasNames run → IsSoundRun run → ArePlain (image run)
image-ArePlain run named sound =
    let items = items_of (name_in run) run.made in
    let keep = keep_of (roots_of (name_in run) run.made run.exports) items in
    let plain = items-plain run [] items (items-named run named sound [] items (made-origins run run.made)) in (
      record {
        word = record { first = 115; more = codes "ym"; is = refl; letter = refl; bytes = refl };
        no_key = refl;
        no_binder = λ d e. let same =
            ap first_byte e in absurd (omega (arith, same));
      },
      (
        record {
          word = record { first = 116; more = codes "rans"; is = refl; letter = refl; bytes = refl };
          no_key = refl;
          no_binder = λ d e. let same =
              ap first_byte e in absurd (omega (arith, same));
        },
        declared-plain (item.symbols_of (image_items keep items)) (symbol_of keep) keep items plain,
      ),
    )

-- No name of a run's module is short
unshort : (first : ℕ) (more name : List ℕ) → name ≡ first ∷ more → (first ≡ 88 → ⊥) → is_short_name name ≡ false
unshort first more name is other = ap is_short_name is ∙ go (nat_eq first 88) refl
  where
    go : (b : Bool) → nat_eq first 88 ≡ b → (b && is_numeral more) ≡ false
    go true e = absurd (other (grind (arith, common_steps, e)))
    go false e = refl

symbol_name-unshort : (symbols : List Symbol) (c : Content) (name : List ℕ) → IsSymbolName symbols c name → is_short_name name ≡ false
symbol_name-unshort symbols c name (IsSymbolName.an_input n is e w) = unshort 105 (codes "_" ++ mangled n) name w (λ e. absurd (omega (arith, e)))
symbol_name-unshort symbols c name (IsSymbolName.an_input_operator n k is e w) =
    unshort 116 (numeral k ++ (codes "_" ++ mangled n)) name w (λ e. absurd (omega (arith, e)))
symbol_name-unshort symbols c name (IsSymbolName.a_constant n is e w) = unshort 99 (codes "_" ++ mangled n) name w (λ e. absurd (omega (arith, e)))
symbol_name-unshort symbols c name (IsSymbolName.an_operator names a f j one is among e w) =
    unshort 111 (codes "_" ++ mangled names.operator) name w (λ e. absurd (omega (arith, e)))

step_name-unshort : (run : Accepted) (i : ℕ) (name : List ℕ) {k : _} → IsStepName run i k name → is_short_name name ≡ false
step_name-unshort run i name (IsStepName.an_export e n) = unshort 69 (numeral (position_or_len (nat_eq i) run.exports)) name n (λ e. absurd (omega (arith, e)))
step_name-unshort run i name (IsStepName.an_assumption d e y n) =
    unshort 65 (numeral (position_or_len (nat_eq i) run.assumptions)) name n (λ e. absurd (omega (arith, e)))
step_name-unshort run i name (IsStepName.a_law e y n) = unshort 76 (numeral i) name n (λ e. absurd (omega (arith, e)))
step_name-unshort run i name (IsStepName.a_theorem e y n) = unshort 84 (numeral i) name n (λ e. absurd (omega (arith, e)))

item_name-unshort : (run : Accepted) (P : ℕ → Type 0) (z : Item) → IsItemName run P z → is_short_name z.name ≡ false
item_name-unshort run P z (IsItemName.by_symbol h) = symbol_name-unshort (symbols_of run.made) z.content z.name h
item_name-unshort run P z (IsItemName.by_step i x p at told h) = step_name-unshort run i z.name h

items-unshort : (run : Accepted) (before xs : List Item) → HaveNames run before xs → AllByRecursion (λ (z : Item). is_short_name z.name ≡ false) xs
items-unshort run before [] h = tt
items-unshort run before (z ∷ zs) h = (item_name-unshort run _ z h.0, items-unshort run (before ++ z ∷ []) zs h.1)

declared-unshort : (symbols : _) (number : ℕ → ℕ) (keep : ℕ → Bool) (xs : List Item) → AllByRecursion (λ (z : Item). is_short_name z.name ≡ false) xs
    → NoneShort (map (declaration symbols) (map (renumbered number) (kept keep xs)))
declared-unshort symbols number keep [] h = tt
declared-unshort symbols number keep (x ∷ xs) h = go (keep x.symbol) (declared-unshort symbols number keep xs h.1)
  where
    go : (b : Bool) → NoneShort (map (declaration symbols) (map (renumbered number) (kept keep xs)))
        → NoneShort (map (declaration symbols) (map (renumbered number) (cond b (x ∷ kept keep xs) (kept keep xs))))
    go true rest = (subst (λ name. is_short_name name ≡ false) (sym (declared-name symbols (renumbered number x))) h.0, rest)
    go false rest = rest

pub image-NoneShort : (run : Accepted) → HasNames run → IsSoundRun run → NoneShort (image run)
image-NoneShort run named sound =
    let items = items_of (name_in run) run.made in
    let keep = keep_of (roots_of (name_in run) run.made run.exports) items in (
      refl,
      (
        refl,
        declared-unshort (item.symbols_of (image_items keep items)) (symbol_of keep) keep items
            (items-unshort run [] items (items-named run named sound [] items (made-origins run run.made))),
      ),
    )
