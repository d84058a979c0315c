-- The names of the items of a run's module: which item has the name of a key, and that no other has it.
use Rattle.std.proofs.Common.{◌≡◌, ℕ, ◌≤◌, Bool, true, false, ◌&&◌, List, [], ◌∷◌, ◌++◌, length, Some, refl, sym, ap, subst, ◌∙◌, arith}
use Rattle.std.specs.Prelude.{nat_eq, ◌==◌}
use Rattle.std.proofs.lemmas.Bool.{and_parts}
use Rattle.std.specs.Cmp.{unsigned_Decides}
use Rattle.std.specs.List.{AllByRecursion}
use Rattle.hol_spec.specs.Lists.{IsIn}
use Rattle.hol_spec.specs.Mangling.{IsName, mangled}
use Rattle.hol_spec.specs.NameEquality.{name_eq}
use Rattle.hol_laws.specs.NameEqualityLaws.{name_eq-Decides}
use Rattle.hol_spec.specs.Names.{Name}
use Rattle.hol_spec.specs.Proofs.{Made, symbols_of, IsProof, Accepted}
use Rattle.hol_spec.specs.Sequents.{Sequent}
use Rattle.hol_spec.specs.Symbols.{Symbol}
use Rattle.hol_laws.specs.ManglingLaws.{mangled-injective}
use Rattle.hol_laws.specs.Members.{IsIn-left, All-at, All-each, All-mapped, All-weaker}
use Rattle.translate_laws.specs.MadeModules.{any_content, IsNew, AreMade}
use Rattle.translate_laws.specs.NumeralLaws.{numeral-injective, numeral-digits}
use Rattle.translate_spec.specs.Image.{input_constant_name, input_operator_name, constant_name}
use Rattle.lp_spec.specs.Numerals.{numeral}
use Rattle.translate_spec.specs.Items.{Content, operator, constant, defined_constant, type_operator, type_abstraction, type_representation, unproved, step, Item, says, is_operator}
use Rattle.translate_spec.specs.Reach.{renumbered_content, renumbered, image_items, symbol_of, kept}
use Rattle.image_laws.specs.Named.{first_byte, second_byte, step_name-low, one_byte}
use Rattle.image_laws.specs.NewNames.{after_digits, not-any, constant_named, IsSymbolName, symbols-apart, symbol_name-high}
use Rattle.image_laws.specs.RunModules.{IsItemName, HaveNames, content-says, All-kept}

-- an item has the name of a symbol's, or says something and has another name
pub data HasItemName (symbols : List Symbol) (z : Item) : Type 0 where
  of_symbol : IsSymbolName symbols z.content z.name → HasItemName symbols z
  of_step : (s : Sequent) → says z.content ≡ Some s → first_byte z.name ≤ 84 → second_byte z.name ≤ 57 → HasItemName symbols z

-- the names of a run's items are such
names-all : (run : Accepted) (before xs : List Item) → HaveNames run before xs → AllByRecursion (HasItemName (symbols_of run.made)) xs
names-all run before [] h = tt
names-all run before (z ∷ zs) h = (go h.0, names-all run (before ++ z ∷ []) zs h.1)
  where
    go : {P : ℕ → Type 0} → IsItemName run P z → HasItemName (symbols_of run.made) z
    go (IsItemName.by_symbol n) = HasItemName.of_symbol n
    go (IsItemName.by_step i x p at told n) =
        let low = step_name-low run i x.kind z.name n in HasItemName.of_step x.sequent (content-says x z.content told) low.0 low.1

module _ (number : ℕ → ℕ) where
  constant_named-renumbered : (c : Content) → constant_named (renumbered_content number c) ≡ constant_named c
  constant_named-renumbered (operator n k) = refl
  constant_named-renumbered (constant n a) = refl
  constant_named-renumbered (defined_constant n a t) = refl
  constant_named-renumbered (type_operator names c u j one) = refl
  constant_named-renumbered (type_abstraction names c u j one) = refl
  constant_named-renumbered (type_representation names c u j one) = refl
  constant_named-renumbered (unproved s) = refl
  constant_named-renumbered (step kind js ss g s) = refl

  says-renumbered : (c : Content) → says (renumbered_content number c) ≡ says c
  says-renumbered (operator n k) = refl
  says-renumbered (constant n a) = refl
  says-renumbered (defined_constant n a t) = refl
  says-renumbered (type_operator names c u j one) = refl
  says-renumbered (type_abstraction names c u j one) = refl
  says-renumbered (type_representation names c u j one) = refl
  says-renumbered (unproved s) = refl
  says-renumbered (step kind js ss g s) = refl

  symbol_name-renumbered : (ss : List Symbol) (c : Content) (name : List ℕ) → IsSymbolName ss c name → IsSymbolName ss (renumbered_content number c) name
  symbol_name-renumbered ss c name (IsSymbolName.an_input n is e w) = IsSymbolName.an_input n is (ap (renumbered_content number) e) w
  symbol_name-renumbered ss c name (IsSymbolName.an_input_operator n k is e w) = IsSymbolName.an_input_operator n k is (ap (renumbered_content number) e) w
  symbol_name-renumbered ss c name (IsSymbolName.a_constant n is e w) = IsSymbolName.a_constant n is (constant_named-renumbered c ∙ e) w
  symbol_name-renumbered ss c name (IsSymbolName.an_operator names a f j one is among e w) =
      IsSymbolName.an_operator names a f (number j) one is among (ap (renumbered_content number) e) w

  name-renumbered : (ss : List Symbol) (z : Item) → HasItemName ss z → HasItemName ss (renumbered number z)
  name-renumbered ss z (HasItemName.of_symbol h) = HasItemName.of_symbol (symbol_name-renumbered ss z.content z.name h)
  name-renumbered ss z (HasItemName.of_step s e l m) = HasItemName.of_step s (says-renumbered z.content ∙ e) l m

-- and so are those of the items that its module has
pub kept-named : (run : Accepted) (keep : ℕ → Bool) (xs : List Item) → HaveNames run [] xs
    → AllByRecursion (HasItemName (symbols_of run.made)) (image_items keep xs)
kept-named run keep xs h =
    let P = HasItemName (symbols_of run.made) in
    All-mapped P (renumbered (symbol_of keep)) (kept keep xs)
    (All-weaker P (λ (z : Item). P (renumbered (symbol_of keep) z)) (name-renumbered (symbol_of keep) (symbols_of run.made)) (kept keep xs)
    (All-kept keep P xs (names-all run [] xs h)))

pub other_byte : {A : Type 0} (a b : ℕ) (r s name : List ℕ) → nat_eq a b ≡ false → name ≡ a ∷ r → name ≡ b ∷ s → A
other_byte a b r s name h e f =
    let same : a ≡ b = sym (ap first_byte e) ∙ ap first_byte f in
    let yes = (unsigned_Decides a b).1 same in absurd (cc)

two_bytes : (a b : ℕ) (r s name : List ℕ) → name ≡ a ∷ b ∷ r → name ≡ a ∷ b ∷ s → r ≡ s
two_bytes a b r s name e f = let g : a ∷ b ∷ r ≡ a ∷ b ∷ s = sym e ∙ f in cc

operator-here : (n m : Name) (k j : ℕ) (before : List Item) → (name_eq n m && (k == j)) ≡ true → any_content (is_operator m j) before ≡ false
    → any_content (is_operator n k) before ≡ false
operator-here n m k j before e h =
    let both = and_parts (name_eq n m) (k == j) e in
    let same : n ≡ m = (name_eq-Decides n m).0 both.0 in
    let count : k ≡ j = (unsigned_Decides k j).0 both.1 in
    (λ i. any_content (is_operator (same i) (count i)) before) ∙ h

-- what an item's operator is, no item before it is
operator-new : (n : Name) (k : ℕ) (before : List Item) (c : Content) → is_operator n k c ≡ true → IsNew before c → any_content (is_operator n k) before ≡ false
operator-new n k before (operator m j) e h = operator-here n m k j before e h.1
operator-new n k before (type_operator names c u j one) e h = operator-here n names.operator k (length names.variables) before e h.1
operator-new n k before (constant m a) e h = absurd (cc)
operator-new n k before (defined_constant m a t) e h = absurd (cc)
operator-new n k before (type_abstraction names c u j one) e h = absurd (cc)
operator-new n k before (type_representation names c u j one) e h = absurd (cc)
operator-new n k before (unproved s) e h = absurd (cc)
operator-new n k before (step kind js ss g s) e h = absurd (cc)

operators-apart : (n : Name) (k : ℕ) (before : List Item) (y : Item) (c : Content) → IsNew before c → IsIn before y → is_operator n k y.content ≡ true
    → is_operator n k c ≡ true → ⊥
operators-apart n k before y c new i a b =
    let gone : is_operator n k y.content ≡ false = not-any (is_operator n k) before y (operator-new n k before c b new) i in
    let k : true ≡ false = sym a ∙ gone in absurd (cc)

module _ (made : List Made) (proof : IsProof made) where
  abbrev ss : List Symbol
  ss = symbols_of made

  -- an item with the name of a symbol's is that symbol's
  pub same-name : (z y : Item) (name : List ℕ) → IsSymbolName ss z.content name → HasItemName ss y → y.name ≡ name → IsSymbolName ss y.content name
  same-name z y name own (HasItemName.of_symbol h) e = subst (IsSymbolName ss y.content) e h
  same-name z y name own (HasItemName.of_step s says_it l m) e =
      let high = (symbol_name-high ss z.content name own).0 in let same = ap first_byte e in absurd (omega (arith, high, l, same))

  -- an item with the name of an input constant could have that of the definition
  pub input-name : (n : Name) → IsName n → (y : Item) → HasItemName ss y → y.name ≡ input_constant_name n → IsSymbolName ss y.content (constant_name n)
  input-name n is y (HasItemName.of_step s says_it l m) e = let same = ap first_byte e in absurd (omega (arith, l, same))
  input-name n is y (HasItemName.of_symbol (IsSymbolName.an_input k js f w)) e =
      IsSymbolName.a_constant n is (ap constant_named f ∙ ap Some (mangled-injective k n js is (two_bytes 105 95 _ _ y.name w e))) refl
  input-name n is y (HasItemName.of_symbol (IsSymbolName.an_input_operator k j js f w)) e = other_byte 105 116 _ _ y.name refl e w
  input-name n is y (HasItemName.of_symbol (IsSymbolName.a_constant k js f w)) e = other_byte 105 99 _ _ y.name refl e w
  input-name n is y (HasItemName.of_symbol (IsSymbolName.an_operator names a f j one js among g w)) e = other_byte 105 111 _ _ y.name refl e w

  -- an item with the name of an input operator is that operator
  pub input-operator : (n : Name) (k : ℕ) → IsName n → (y : Item) → HasItemName ss y → y.name ≡ input_operator_name k n → is_operator n k y.content ≡ true
  input-operator n k is y (HasItemName.of_step s says_it l m) e = let same = ap first_byte e in absurd (omega (arith, l, same))
  input-operator n k is y (HasItemName.of_symbol (IsSymbolName.an_input_operator m j js f w)) e =
      let both = after_digits (numeral k) (numeral j) (mangled n) (mangled m) (numeral-digits k) (numeral-digits j) (one_byte 116 _ _ y.name e w) in
      let same : n ≡ m = mangled-injective n m is js both.1 in
      let count : k ≡ j = numeral-injective k j both.0 in
      ap (is_operator n k) f ∙ (λ i. name_eq (same i) m && (count i == j)) ∙ rw ((name_eq-Decides m m).1 refl) ((unsigned_Decides j j).1 refl)
  input-operator n k is y (HasItemName.of_symbol (IsSymbolName.an_input m js f w)) e = other_byte 116 105 _ _ y.name refl e w
  input-operator n k is y (HasItemName.of_symbol (IsSymbolName.a_constant m js f w)) e = other_byte 116 99 _ _ y.name refl e w
  input-operator n k is y (HasItemName.of_symbol (IsSymbolName.an_operator names a f j one js among g w)) e = other_byte 116 111 _ _ y.name refl e w

  -- No other item is the same operator
  module _ (Q : Item → Type 0) (z : Item) (n : Name) (k : ℕ) (own : is_operator n k z.content ≡ true)
      (could : (y : Item) → HasItemName ss y → Q y → is_operator n k y.content ≡ true) where
    pub operator-before : (before : List Item) → IsNew before z.content → AllByRecursion (HasItemName ss) before → AllByRecursion (λ (y : Item). Q y → ⊥) before
    operator-before before new named =
        All-each (λ (y : Item). Q y → ⊥) before
        (λ y i q. operators-apart n k before y z.content new i (could y (All-at (HasItemName ss) before y named i) q) own)

    pub operator-after : (before ys : List Item) → IsIn before z → AreMade before ys → AllByRecursion (HasItemName ss) ys
        → AllByRecursion (λ (y : Item). Q y → ⊥) ys
    operator-after before [] i h named = tt
    operator-after before (y ∷ ys) i h named = (
      λ q. operators-apart n k before z y.content h.1 i own (could y named.0 q),
      operator-after (before ++ y ∷ []) ys (IsIn-left before (y ∷ []) z i) h.3 named.1,
    )

  -- No other item could have the name of a symbol's
  module _ (Q : Item → Type 0) (z : Item) (name : List ℕ) (own : IsSymbolName ss z.content name)
      (could : (y : Item) → HasItemName ss y → Q y → IsSymbolName ss y.content name) where
    pub before-apart : (before : List Item) → IsNew before z.content → AllByRecursion (HasItemName ss) before → AllByRecursion (λ (y : Item). Q y → ⊥) before
    before-apart before new named =
        All-each (λ (y : Item). Q y → ⊥) before
        (λ y i q. symbols-apart made proof before y z.content name new i (could y (All-at (HasItemName ss) before y named i) q) own)

    pub after-apart : (before ys : List Item) → IsIn before z → AreMade before ys → AllByRecursion (HasItemName ss) ys
        → AllByRecursion (λ (y : Item). Q y → ⊥) ys
    after-apart before [] i h named = tt
    after-apart before (y ∷ ys) i h named = (
      λ q. symbols-apart made proof before z y.content name h.1 i own (could y named.0 q),
      after-apart (before ++ y ∷ []) ys (IsIn-left before (y ∷ []) z i) h.3 named.1,
    )
