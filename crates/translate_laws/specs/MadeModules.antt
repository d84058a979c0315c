-- The module of what was made: its symbols are those of its items, and it is well typed where each item is new and asks for nothing but what
-- was made before it. No condition speaks of trees.
use Rattle.std.proofs.Common.{◌≡◌, ℕ, ◌+◌, ◌&&◌, List, [], ◌∷◌, ◌++◌, length, Bool, true, false, cond, None, Some, append_assoc, refl, ap, subst, ◌∙◌}
use Rattle.std.specs.Prelude.{◌==◌, ◌||◌, unwrap_or}
use Rattle.std.specs.Cmp.{unsigned_Decides}
use Rattle.hol_spec.specs.Names.{Name}
use Rattle.hol_spec.specs.NameEquality.{name_eq}
use Rattle.hol_laws.specs.NameEqualityLaws.{name_eq-refl}
use Rattle.hol_spec.specs.Primitives.{generic, equality_type, select_type, primitive_arity, primitive_type, arrow_name, bool_name, ind_name, equality_name, select_name}
use Rattle.lp_spec.specs.Modules.{signature}
use Rattle.lp_spec.specs.Lemmas.{lemmas}
use Rattle.translate_spec.specs.Scopes.{SymbolMap, operator_symbol, constant_symbol, generic_type}
use Rattle.translate_spec.specs.Items.{Content, operator, constant, defined_constant, type_operator, type_abstraction, type_representation, unproved, step, Item, is_operator, is_constant, generic_of, first_symbol, first_type, symbols_of}
use Rattle.translate_laws.specs.ItemConditions.{IsContent, Tells, AreItems}

abbrev pub any_content : (Content → Bool) → List Item → Bool
any_content test [] = false
any_content test (x ∷ xs) = test x.content || any_content test xs

-- what an item names isn't primitive and wasn't made before
abbrev pub IsNew : List Item → Content → Type 0
IsNew before (operator n k) = (primitive_arity n ≡ None) × (any_content (is_operator n k) before ≡ false)
IsNew before (constant n a) = (primitive_type n ≡ None) × (any_content (is_constant n) before ≡ false)
IsNew before (defined_constant n a t) = (primitive_type n ≡ None) × (any_content (is_constant n) before ≡ false)
IsNew before (type_operator names c u j one) = (primitive_arity names.operator ≡ None)
    × (any_content (is_operator names.operator (length names.variables)) before ≡ false)
IsNew before (type_abstraction names c u j one) = (primitive_type names.abstraction ≡ None) × (any_content (is_constant names.abstraction) before ≡ false)
IsNew before (type_representation names c u j one) =
    (primitive_type names.representation ≡ None) × (any_content (is_constant names.representation) before ≡ false)
IsNew before (unproved s) = Unit {0}
IsNew before (step kind js premises given s) = Unit {0}

-- each is numbered in order of making, new, and asks for nothing but what was made before it
abbrev pub AreMade : List Item → List Item → Type 0
AreMade before [] = Unit {0}
AreMade before (x ∷ xs) = (x.symbol ≡ length signature + (length lemmas + length before)) × IsNew before x.content × IsContent before x.content × AreMade
    (before ++ x ∷ []) xs

first_symbol-new : (test : Content → Bool) (before xs : List Item) (x : Item) → any_content test before ≡ false → test x.content ≡ true
    → first_symbol test (before ++ x ∷ xs) ≡ x.symbol
first_symbol-new test [] xs x h e = ap (λ b. cond b x.symbol (first_symbol test xs)) e
first_symbol-new test (y ∷ ys) xs x h e = go (test y.content) h (λ k. first_symbol-new test ys xs x k e)
  where
    go : (b : Bool) → (b || any_content test ys) ≡ false → (any_content test ys ≡ false → first_symbol test (ys ++ x ∷ xs) ≡ x.symbol)
        → cond b y.symbol (first_symbol test (ys ++ x ∷ xs)) ≡ x.symbol
    go true h f = absurd (cc)
    go false h f = f h

first_type-new : (test : Content → Bool) (before xs : List Item) (x : Item) → any_content test before ≡ false → test x.content ≡ true
    → first_type test (before ++ x ∷ xs) ≡ generic_of x.content
first_type-new test [] xs x h e = ap (λ b. cond b (generic_of x.content) (first_type test xs)) e
first_type-new test (y ∷ ys) xs x h e = go (test y.content) h (λ k. first_type-new test ys xs x k e)
  where
    go : (b : Bool) → (b || any_content test ys) ≡ false → (any_content test ys ≡ false → first_type test (ys ++ x ∷ xs) ≡ generic_of x.content)
        → cond b (generic_of y.content) (first_type test (ys ++ x ∷ xs)) ≡ generic_of x.content
    go true h f = absurd (cc)
    go false h f = f h

module _ (symbols : SymbolMap) where
  -- a name that isn't primitive has the symbol that the symbols give
  operator-input : (n : Name) (k : ℕ) → primitive_arity n ≡ None → operator_symbol symbols n k ≡ symbols.operator n k
  operator-input n k h = first (name_eq n arrow_name) refl
    where
      third : (b : Bool) → name_eq n ind_name ≡ b → name_eq n bool_name ≡ false → name_eq n arrow_name ≡ false
          → operator_symbol symbols n k ≡ symbols.operator n k
      third true e f g = let a : primitive_arity n ≡ Some 0 = rw (g, f, e) refl in absurd (cc)
      third false e f g = rw (g, f, e) refl

      second : (b : Bool) → name_eq n bool_name ≡ b → name_eq n arrow_name ≡ false → operator_symbol symbols n k ≡ symbols.operator n k
      second true f g = let a : primitive_arity n ≡ Some 0 = rw (g, f) refl in absurd (cc)
      second false f g = third (name_eq n ind_name) refl f g

      first : (b : Bool) → name_eq n arrow_name ≡ b → operator_symbol symbols n k ≡ symbols.operator n k
      first true g = let a : primitive_arity n ≡ Some 2 = rw g refl in absurd (cc)
      first false g = second (name_eq n bool_name) refl g

  constant-input : (n : Name) → primitive_type n ≡ None → constant_symbol symbols n ≡ symbols.constant n
  constant-input n h = first (name_eq n equality_name) refl
    where
      second : (b : Bool) → name_eq n select_name ≡ b → name_eq n equality_name ≡ false → constant_symbol symbols n ≡ symbols.constant n
      second true f g = let a : primitive_type n ≡ Some (select_type generic) = rw (g, f) refl in absurd (cc)
      second false f g = rw (g, f) refl

      first : (b : Bool) → name_eq n equality_name ≡ b → constant_symbol symbols n ≡ symbols.constant n
      first true g = let a : primitive_type n ≡ Some (equality_type generic) = rw g refl in absurd (cc)
      first false g = second (name_eq n select_name) refl g

  generic-input : (n : Name) → primitive_type n ≡ None → generic_type symbols n ≡ symbols.generic n
  generic-input n h = ap (λ o. unwrap_or o (symbols.generic n)) h

pub operator_self : (n : Name) (k : ℕ) → (name_eq n n && (k == k)) ≡ true
operator_self n k = rw (name_eq-refl n) ((unsigned_Decides k k).1 refl)

-- the symbols of all items tell each one's
tells : (before xs : List Item) (x : Item) (c : Content) → x.content ≡ c → IsNew before c → Tells (symbols_of (before ++ x ∷ xs)) x.symbol c
tells before xs x (operator n k) e h =
    operator-input (symbols_of (before ++ x ∷ xs)) n k h.0 ∙ first_symbol-new (is_operator n k) before xs x h.1 (ap (is_operator n k) e ∙ operator_self n k)
tells before xs x (constant n a) e h = (
  constant-input (symbols_of (before ++ x ∷ xs)) n h.0 ∙ first_symbol-new (is_constant n) before xs x h.1 (ap (is_constant n) e ∙ name_eq-refl n),
  generic-input (symbols_of (before ++ x ∷ xs)) n h.0 ∙ first_type-new (is_constant n) before xs x h.1 (ap (is_constant n) e ∙ name_eq-refl n)
      ∙ ap generic_of e,
)
tells before xs x (defined_constant n a t) e h = (
  constant-input (symbols_of (before ++ x ∷ xs)) n h.0 ∙ first_symbol-new (is_constant n) before xs x h.1 (ap (is_constant n) e ∙ name_eq-refl n),
  generic-input (symbols_of (before ++ x ∷ xs)) n h.0 ∙ first_type-new (is_constant n) before xs x h.1 (ap (is_constant n) e ∙ name_eq-refl n)
      ∙ ap generic_of e,
)
tells before xs x (type_operator names c u j one) e h =
    operator-input (symbols_of (before ++ x ∷ xs)) names.operator (length names.variables) h.0
    ∙ first_symbol-new (is_operator names.operator (length names.variables)) before xs x h.1
    (ap (is_operator names.operator (length names.variables)) e ∙ operator_self names.operator (length names.variables))
tells before xs x (type_abstraction names c u j one) e h =
    let n = names.abstraction in (
      constant-input (symbols_of (before ++ x ∷ xs)) n h.0 ∙ first_symbol-new (is_constant n) before xs x h.1 (ap (is_constant n) e ∙ name_eq-refl n),
      generic-input (symbols_of (before ++ x ∷ xs)) n h.0 ∙ first_type-new (is_constant n) before xs x h.1 (ap (is_constant n) e ∙ name_eq-refl n)
          ∙ ap generic_of e,
    )
tells before xs x (type_representation names c u j one) e h =
    let n = names.representation in (
      constant-input (symbols_of (before ++ x ∷ xs)) n h.0 ∙ first_symbol-new (is_constant n) before xs x h.1 (ap (is_constant n) e ∙ name_eq-refl n),
      generic-input (symbols_of (before ++ x ∷ xs)) n h.0 ∙ first_type-new (is_constant n) before xs x h.1 (ap (is_constant n) e ∙ name_eq-refl n)
          ∙ ap generic_of e,
    )
tells before xs x (unproved s) e h = tt
tells before xs x (step kind js premises given s) e h = tt

pub items-made : (before xs : List Item) → AreMade before xs → AreItems (symbols_of (before ++ xs)) before xs
items-made before [] h = tt
items-made before (x ∷ xs) h = (
  h.0,
  tells before xs x x.content refl h.1,
  h.2,
  subst (λ l. AreItems (symbols_of l) (before ++ x ∷ []) xs) (append_assoc before (x ∷ []) xs) (items-made (before ++ x ∷ []) xs h.3),
)
