-- The names of the declarations of an accepted run's module are new, each after those before it: so it is a module.
use Rattle.std.proofs.Common.{◌≡◌, ℕ, ◌<◌, ◌≤◌, inl, inr, List, [], ◌∷◌, ◌++◌, length, Bool, true, false, ◌&&◌, cond, Option, Some, None, refl, sym, ap, subst, ◌∙◌, arith}
use Rattle.std.specs.Prelude.{◌==◌, nat_eq, codes, is_some}
use Rattle.std.specs.Cmp.{unsigned_Decides}
use Rattle.std.specs.Option.{option_or}
use Rattle.std.specs.List.{list_all}
use Rattle.std.proofs.lemmas.List.{append-nil}
use Rattle.std.proofs.lemmas.Option.{same_Some}
use Rattle.std.proofs.lemmas.Bool.{or_parts}
use Rattle.hol_spec.specs.Names.{Name}
use Rattle.hol_spec.specs.NameEquality.{name_eq}
use Rattle.hol_laws.specs.NameEqualityLaws.{name_eq-Decides}
use Rattle.hol_spec.specs.Types.{HolType}
use Rattle.hol_spec.specs.Terms.{Term}
use Rattle.hol_spec.specs.Sequents.{Sequent}
use Rattle.hol_spec.specs.Primitives.{primitive_arity, generic}
use Rattle.hol_spec.specs.Mangling.{mangled, IsName}
use Rattle.hol_laws.specs.ManglingLaws.{mangled-injective}
use Rattle.hol_spec.specs.Definitions.{Definition, TypeNames}
use Rattle.hol_spec.specs.Symbols.{Symbol, defined_arity, first_defined_arity, operator_arity}
use Rattle.hol_spec.specs.Taking as taking
use Rattle.hol_spec.specs.Taking.{Takes}
use Rattle.hol_spec.specs.Proofs.{Made, symbols_of, IsProof, Step, steps_of, IsMade, Accepted}
use Rattle.hol_spec.specs.Proofs as made
use Rattle.hol_proof_laws.specs.ProofGrowth.{symbols_of-append}
use Rattle.hol_spec.specs.Lists.{IsIn}
use Rattle.hol_laws.specs.Members.{IsIn-either}
use Rattle.translate_laws.specs.MadeModules.{any_content, IsNew}
use Rattle.translate_spec.specs.Items.{Content, operator, constant, defined_constant, type_operator, type_abstraction, type_representation, unproved, step, Item, is_constant, is_operator}
use Rattle.translate_spec.specs.MadeItems.{contents_of, type_contents}
use Rattle.translate_spec.specs.Image.{symbol_name, type_definition_name}
use Rattle.lp_spec.specs.Numerals.{numeral, is_decimal_digit}
use Rattle.translate_laws.specs.NumeralLaws.{numeral-injective, numeral-digits, numeral-some}
use Rattle.image_laws.specs.Named.{SymbolHasName, first_byte, second_byte, first_digit-low, one_byte}

-- the constant that an item names
abbrev pub constant_named : Content → Option Name
constant_named (constant n a) = Some n
constant_named (defined_constant n a t) = Some n
constant_named (type_abstraction names c u j one) = Some names.abstraction
constant_named (type_representation names c u j one) = Some names.representation
constant_named c = None

-- The name of a symbol's item
pub data IsSymbolName (symbols : List Symbol) (c : Content) (name : List ℕ) : Type 0 where
  an_input : (n : Name) → IsName n → c ≡ constant n generic → name ≡ codes "i_" ++ mangled n → IsSymbolName symbols c name
  an_input_operator : (n : Name) (k : ℕ) → IsName n → c ≡ operator n k → name ≡ codes "t" ++ (numeral k ++ (codes "_" ++ mangled n))
      → IsSymbolName symbols c name
  a_constant : (n : Name) → IsName n → constant_named c ≡ Some n → name ≡ codes "c_" ++ mangled n → IsSymbolName symbols c name
  an_operator : (names : TypeNames) (a : HolType) (f : Term) (j : ℕ) (one : Sequent) → IsName names.operator
      → IsIn symbols (Symbol.defined (Definition.type_operator names a f)) → c ≡ type_operator names a f j one
      → name ≡ codes "o_" ++ mangled names.operator → IsSymbolName symbols c name

pub symbol_name-is : (symbols : List Symbol) (x : Symbol) → IsIn symbols x → SymbolHasName x → (c : Content) → IsIn (contents_of x) c
    → IsSymbolName symbols c (symbol_name x)
symbol_name-is symbols (Symbol.input_constant n) among h c (inl e) = IsSymbolName.an_input n h e refl
symbol_name-is symbols (Symbol.input_constant n) among h c (inr k) = absurd k
symbol_name-is symbols (Symbol.input_operator n j) among h c (inl e) = IsSymbolName.an_input_operator n j h e refl
symbol_name-is symbols (Symbol.input_operator n j) among h c (inr k) = absurd k
symbol_name-is symbols (Symbol.defined (Definition.constant n t)) among h c (inl e) = IsSymbolName.a_constant n h (ap constant_named e) refl
symbol_name-is symbols (Symbol.defined (Definition.constant n t)) among h c (inr k) = absurd k
symbol_name-is symbols (Symbol.defined (Definition.type_operator names a f)) among h c k = absurd k

pub definition_name-is : (symbols : List Symbol) (names : TypeNames) (a : HolType) (f : Term) (one : ℕ × Sequent)
    → IsIn symbols (Symbol.defined (Definition.type_operator names a f))
    → SymbolHasName (Symbol.defined (Definition.type_operator names a f)) → (c : Content) → IsIn (type_contents names a f one) c
    → IsSymbolName symbols c (type_definition_name c)
definition_name-is symbols names a f one among h c (inl e) = IsSymbolName.an_operator names a f one.0 one.1 h.0 among e (ap type_definition_name e)
definition_name-is symbols names a f one among h c (inr (inl e)) =
    IsSymbolName.a_constant names.abstraction h.1 (ap constant_named e) (ap type_definition_name e)
definition_name-is symbols names a f one among h c (inr (inr (inl e))) =
    IsSymbolName.a_constant names.representation h.2 (ap constant_named e) (ap type_definition_name e)
definition_name-is symbols names a f one among h c (inr (inr (inr k))) = absurd k

-- An operator is defined once: all type definitions of its name have one arity.
first-kept : (n : Name) (k : ℕ) (xs ys : List Symbol) → first_defined_arity n xs ≡ Some k → first_defined_arity n (xs ++ ys) ≡ Some k
first-kept n k [] ys e = absurd (cc)
first-kept n k (x ∷ xs) ys e = go (defined_arity n x) e (first-kept n k xs ys)
  where
    go : (o : Option ℕ) → option_or o (first_defined_arity n xs) ≡ Some k → (first_defined_arity n xs ≡ Some k → first_defined_arity n (xs ++ ys) ≡ Some k)
        → option_or o (first_defined_arity n (xs ++ ys)) ≡ Some k
    go None e rest = rest e
    go (Some j) e rest = e

first-new : (n : Name) (xs ys : List Symbol) → first_defined_arity n xs ≡ None → first_defined_arity n (xs ++ ys) ≡ first_defined_arity n ys
first-new n [] ys e = refl
first-new n (x ∷ xs) ys e = go (defined_arity n x) e (first-new n xs ys)
  where
    go : (o : Option ℕ) → option_or o (first_defined_arity n xs) ≡ None
        → (first_defined_arity n xs ≡ None → first_defined_arity n (xs ++ ys) ≡ first_defined_arity n ys)
        → option_or o (first_defined_arity n (xs ++ ys)) ≡ first_defined_arity n ys
    go None e rest = rest e
    go (Some j) e rest = absurd (cc)

second-none : {A : Type 0} (o p : Option A) → is_some (option_or o p) ≡ false → p ≡ None
second-none None None e = refl
second-none None (Some x) e = absurd (cc)
second-none (Some x) p e = absurd (cc)

first-last : (n : Name) (k : ℕ) (ss : List Symbol) (x : Symbol) → Takes ss x → defined_arity n x ≡ Some k → first_defined_arity n (ss ++ x ∷ []) ≡ Some k
first-last n k ss (Symbol.input_constant m) t e = absurd (cc)
first-last n k ss (Symbol.input_operator m j) t e = absurd (cc)
first-last n k ss (Symbol.defined (Definition.constant m u)) t e = absurd (cc)
first-last n k ss (Symbol.defined (Definition.type_operator names a f)) (taking.Takes.type_operator new typed closed variables) e =
    go (name_eq n names.operator) refl (name_eq-Decides n names.operator).0 e
  where
    x : Symbol
    x = Symbol.defined (Definition.type_operator names a f)

    go : (b : Bool) → name_eq n names.operator ≡ b → (name_eq n names.operator ≡ true → n ≡ names.operator)
        → cond b (Some (length names.variables)) None ≡ Some k → first_defined_arity n (ss ++ x ∷ []) ≡ Some k
    go false is f e = absurd (cc)
    go true is f e =
        let free : first_defined_arity n ss ≡ None =
        subst (λ (m : Name). first_defined_arity m ss ≡ None) (sym (f is))
        (second-none (primitive_arity names.operator) (first_defined_arity names.operator ss)
        (or_parts (is_some (operator_arity ss names.operator)) _ new.operator).0) in
        first-new n ss (x ∷ []) free ∙ ap (λ b. option_or (cond b (Some (length names.variables)) None) None) is ∙ e

pub arity-known : (xs : List Made) → IsProof xs → (x : Symbol) → IsIn (symbols_of xs) x → (n : Name) (k : ℕ) → defined_arity n x ≡ Some k
    → first_defined_arity n (symbols_of xs) ≡ Some k
arity-known m made.Each.empty x i n k e = absurd i
arity-known m (made.Each.more {made = before} (Made.step y) p h is) x i n k e =
    let same : symbols_of m ≡ symbols_of before = ap symbols_of is ∙ symbols_of-append before (Made.step y ∷ []) ∙ append-nil (symbols_of before) in
    ap (first_defined_arity n) same ∙ arity-known before p x (subst (λ l. IsIn l x) same i) n k e
arity-known m (made.Each.more {made = before} (Made.symbol y) p h is) x i n k e =
    let same : symbols_of m ≡ symbols_of before ++ y ∷ [] = ap symbols_of is ∙ symbols_of-append before (Made.symbol y ∷ []) in
    ap (first_defined_arity n) same ∙ elim (IsIn-either (symbols_of before) (y ∷ []) x (subst (λ l. IsIn l x) same i)) [
      | inl j ↦ first-kept n k (symbols_of before) (y ∷ []) (arity-known before p x j n k e)
      | inr (inl is_it) ↦ first-last n k (symbols_of before) y h.1 (ap (defined_arity n) (sym is_it) ∙ e)
      | inr (inr none) ↦ absurd none
    ]
arity-known m (made.Each.more {made = before} (Made.type_definition names c f l) p h is) x i n k e =
    let y = Symbol.defined (Definition.type_operator names c f) in
    let same : symbols_of m ≡ symbols_of before ++ y ∷ [] = ap symbols_of is ∙ symbols_of-append before (Made.type_definition names c f l ∷ []) in
    ap (first_defined_arity n) same ∙ elim (IsIn-either (symbols_of before) (y ∷ []) x (subst (λ l. IsIn l x) same i)) [
      | inl j ↦ first-kept n k (symbols_of before) (y ∷ []) (arity-known before p x j n k e)
      | inr (inl is_it) ↦ first-last n k (symbols_of before) y h.taken (ap (defined_arity n) (sym is_it) ∙ e)
      | inr (inr none) ↦ absurd none
    ]

defined_arity-own : (names : TypeNames) (a : HolType) (f : Term) (n : Name) → n ≡ names.operator
    → defined_arity n (Symbol.defined (Definition.type_operator names a f)) ≡ Some (length names.variables)
defined_arity-own names a f n e = ap (λ b. cond b (Some (length names.variables)) None) ((name_eq-Decides n names.operator).1 e)

-- text behind digits
pub after_digits : (ds es r s : List ℕ) → list_all is_decimal_digit ds ≡ true → list_all is_decimal_digit es ≡ true → ds ++ 95 ∷ r ≡ es ++ 95 ∷ s
    → (ds ≡ es) × (r ≡ s)
after_digits [] [] r s h k e = (refl, (let f : 95 ∷ r ≡ 95 ∷ s = e in cc))
after_digits [] (x ∷ es) r s h k e = let f : 95 ≡ x = ap first_byte e in let l = first_digit-low (x ∷ es) k in absurd (omega (arith, f, l))
after_digits (x ∷ ds) [] r s h k e = let f : x ≡ 95 = ap first_byte e in let l = first_digit-low (x ∷ ds) h in absurd (omega (arith, f, l))
after_digits (x ∷ ds) (y ∷ es) r s h k e =
    let f : x ≡ y = ap first_byte e in
    let g : ds ++ 95 ∷ r ≡ es ++ 95 ∷ s = cc in
    let rest = after_digits ds es r s (tail_all x ds h) (tail_all y es k) g in
    ((λ i. f i ∷ rest.0 i), rest.1)
  where
    tail_all : (x : ℕ) (xs : List ℕ) → list_all is_decimal_digit (x ∷ xs) ≡ true → list_all is_decimal_digit xs ≡ true
    tail_all x xs h = go (is_decimal_digit x) h
      where
        go : (b : Bool) → (b && list_all is_decimal_digit xs) ≡ true → list_all is_decimal_digit xs ≡ true
        go true e = e
        go false e = absurd (cc)

-- what an item names is new
pub not-any : (test : Content → Bool) (ps : List Item) (y : Item) → any_content test ps ≡ false → IsIn ps y → test y.content ≡ false
not-any test [] y h i = absurd i
not-any test (z ∷ zs) y h (inl e) = ap (λ (u : Item). test u.content) e ∙ (or_parts (test z.content) (any_content test zs) h).0
not-any test (z ∷ zs) y h (inr i) = not-any test zs y (or_parts (test z.content) (any_content test zs) h).1 i

constant-new : (n : Name) (c : Content) (before : List Item) → constant_named c ≡ Some n → IsNew before c → any_content (is_constant n) before ≡ false
constant-new n (operator m k) before e h = absurd (cc)
constant-new n (constant m a) before e h = subst (λ (l : Name). any_content (is_constant l) before ≡ false) (same_Some _ _ e) h.1
constant-new n (defined_constant m a t) before e h = subst (λ (l : Name). any_content (is_constant l) before ≡ false) (same_Some _ _ e) h.1
constant-new n (type_operator names c u j one) before e h = absurd (cc)
constant-new n (type_abstraction names c u j one) before e h = subst (λ (l : Name). any_content (is_constant l) before ≡ false) (same_Some _ _ e) h.1
constant-new n (type_representation names c u j one) before e h = subst (λ (l : Name). any_content (is_constant l) before ≡ false) (same_Some _ _ e) h.1
constant-new n (unproved s) before e h = absurd (cc)
constant-new n (step kind js premises given s) before e h = absurd (cc)

pub constant-is : (n : Name) (c : Content) → constant_named c ≡ Some n → is_constant n c ≡ true
constant-is n (operator m k) e = absurd (cc)
constant-is n (constant m a) e = (name_eq-Decides n m).1 (sym (same_Some _ _ e))
constant-is n (defined_constant m a t) e = (name_eq-Decides n m).1 (sym (same_Some _ _ e))
constant-is n (type_operator names c u j one) e = absurd (cc)
constant-is n (type_abstraction names c u j one) e = (name_eq-Decides n names.abstraction).1 (sym (same_Some _ _ e))
constant-is n (type_representation names c u j one) e = (name_eq-Decides n names.representation).1 (sym (same_Some _ _ e))
constant-is n (unproved s) e = absurd (cc)
constant-is n (step kind js premises given s) e = absurd (cc)

one-constant : (n m : Name) (c d : Content) (before : List Item) (y : Item) → IsNew before c → IsIn before y → y.content ≡ d → constant_named d ≡ Some m
    → constant_named c ≡ Some n → m ≡ n → ⊥
one-constant n m c d before y new i at e f same =
    let a : is_constant n y.content ≡ false = not-any (is_constant n) before y (constant-new n c before f new) i in
    let b : is_constant n y.content ≡ true = ap (is_constant n) at ∙ constant-is n d (e ∙ ap Some same) in
    let k : true ≡ false = sym b ∙ a in absurd (cc)

one-operator : (n : Name) (k : ℕ) (c : Content) (before : List Item) (y : Item) → IsNew before c → IsIn before y → y.content ≡ operator n k → c ≡ operator n k
    → ⊥
one-operator n k c before y new i at e =
    let new_one : IsNew before (operator n k) = subst (IsNew before) e new in
    let a : is_operator n k y.content ≡ false = not-any (is_operator n k) before y new_one.1 i in
    let self : (name_eq n n && (k == k)) ≡ true = rw ((name_eq-Decides n n).1 refl) ((unsigned_Decides k k).1 refl) in
    let b : is_operator n k y.content ≡ true = ap (is_operator n k) at ∙ self in
    let k : true ≡ false = sym b ∙ a in absurd (cc)

one-defined : (names others : TypeNames) (a b : HolType) (u v : Term) (j l : ℕ) (one two : Sequent) (c : Content) (before : List Item) (y : Item)
    → names.operator ≡ others.operator → length names.variables ≡ length others.variables
    → IsNew before c → IsIn before y → y.content ≡ type_operator names a u j one → c ≡ type_operator others b v l two → ⊥
one-defined names others a b u v j l one two c before y same count new i at e =
    let new_one : IsNew before (type_operator others b v l two) = subst (IsNew before) e new in
    let n = others.operator in
    let k = length others.variables in
    let a : is_operator n k y.content ≡ false = not-any (is_operator n k) before y new_one.1 i in
    let self : (name_eq n n && (k == k)) ≡ true = rw ((name_eq-Decides n n).1 refl) ((unsigned_Decides k k).1 refl) in
    let b : is_operator n k y.content ≡ true = ap (is_operator n k) at ∙ (λ t. name_eq n (same t) && (k == count t)) ∙ self in
    let k : true ≡ false = sym b ∙ a in absurd (cc)

other_front : (a b : ℕ) (r s name : List ℕ) → nat_eq a b ≡ false → name ≡ a ∷ r → name ≡ b ∷ s → ⊥
other_front a b r s name h e f =
    let same : a ≡ b = sym (ap first_byte e) ∙ ap first_byte f in
    let yes = (unsigned_Decides a b).1 same in absurd (cc)

two_fronts : (a b : ℕ) (r s name : List ℕ) → name ≡ a ∷ b ∷ r → name ≡ a ∷ b ∷ s → r ≡ s
two_fronts a b r s name e f = let g : a ∷ b ∷ r ≡ a ∷ b ∷ s = sym e ∙ f in cc

-- No two items of symbols have one name
pub symbols-apart : (made : List Made) → IsProof made → (before : List Item) (y : Item) (c : Content) (name : List ℕ) → IsNew before c → IsIn before y
    → IsSymbolName (symbols_of made) y.content name → IsSymbolName (symbols_of made) c name → ⊥
symbols-apart made p before y c name new i (IsSymbolName.an_input n is e w) (IsSymbolName.an_input m js f v) =
    one-constant m n c y.content before y new i refl (ap constant_named e) (ap constant_named f) (mangled-injective n m is js (two_fronts 105 95 _ _ name w v))
symbols-apart made p before y c name new i (IsSymbolName.an_input n is e w) (IsSymbolName.an_input_operator m k js f v) = other_front 105 116 _ _ name refl w v
symbols-apart made p before y c name new i (IsSymbolName.an_input n is e w) (IsSymbolName.a_constant m js f v) = other_front 105 99 _ _ name refl w v
symbols-apart made p before y c name new i (IsSymbolName.an_input n is e w) (IsSymbolName.an_operator names a g x s js among f v) =
    other_front 105 111 _ _ name refl w v
symbols-apart made p before y c name new i (IsSymbolName.a_constant n is e w) (IsSymbolName.a_constant m js f v) =
    one-constant m n c y.content before y new i refl e f (mangled-injective n m is js (two_fronts 99 95 _ _ name w v))
symbols-apart made p before y c name new i (IsSymbolName.a_constant n is e w) (IsSymbolName.an_input_operator m k js f v) = other_front 99 116 _ _ name refl w v
symbols-apart made p before y c name new i (IsSymbolName.a_constant n is e w) (IsSymbolName.an_input m js f v) = other_front 99 105 _ _ name refl w v
symbols-apart made p before y c name new i (IsSymbolName.a_constant n is e w) (IsSymbolName.an_operator names a g x s js among f v) =
    other_front 99 111 _ _ name refl w v
symbols-apart made p before y c name new i (IsSymbolName.an_input_operator n k is e w) (IsSymbolName.an_input_operator m j js f v) =
    let both = after_digits (numeral k) (numeral j) (mangled n) (mangled m) (numeral-digits k) (numeral-digits j) (one_byte 116 _ _ name w v) in
    let same : n ≡ m = mangled-injective n m is js both.1 in
    let count : k ≡ j = numeral-injective k j both.0 in
    one-operator m j c before y new i (e ∙ (λ t. operator (same t) (count t))) f
symbols-apart made p before y c name new i (IsSymbolName.an_input_operator n k is e w) (IsSymbolName.an_input m js f v) = other_front 116 105 _ _ name refl w v
symbols-apart made p before y c name new i (IsSymbolName.an_input_operator n k is e w) (IsSymbolName.a_constant m js f v) = other_front 116 99 _ _ name refl w v
symbols-apart made p before y c name new i (IsSymbolName.an_input_operator n k is e w) (IsSymbolName.an_operator names a g x s js among f v) =
    other_front 116 111 _ _ name refl w v
symbols-apart made p before y c name new i (IsSymbolName.an_operator names a f x s is among e w) (IsSymbolName.an_operator others b g z t js there k v) =
    let same : names.operator ≡ others.operator = mangled-injective names.operator others.operator is js (two_fronts 111 95 _ _ name w v) in
    let first = arity-known made p (Symbol.defined (Definition.type_operator names a f)) among names.operator (length names.variables)
    (defined_arity-own names a f names.operator refl) in
    let second = arity-known made p (Symbol.defined (Definition.type_operator others b g)) there names.operator (length others.variables)
    (defined_arity-own others b g names.operator same) in
    let count : length names.variables ≡ length others.variables = same_Some _ _ (sym first ∙ second) in
    one-defined names others a b f g x z s t c before y same count new i e k
symbols-apart made p before y c name new i (IsSymbolName.an_operator names a f x s is among e w) (IsSymbolName.an_input m js k v) =
    other_front 111 105 _ _ name refl w v
symbols-apart made p before y c name new i (IsSymbolName.an_operator names a f x s is among e w) (IsSymbolName.a_constant m js k v) =
    other_front 111 99 _ _ name refl w v
symbols-apart made p before y c name new i (IsSymbolName.an_operator names a f x s is among e w) (IsSymbolName.an_input_operator m j js k v) =
    other_front 111 116 _ _ name refl w v

pub symbol_name-high : (symbols : List Symbol) (c : Content) (name : List ℕ) → IsSymbolName symbols c name → (97 ≤ first_byte name) × (second_byte name ≤ 95)
symbol_name-high symbols c name (IsSymbolName.an_input n is e w) = let p = ap first_byte w in let q = ap second_byte w in (omega (arith, p), omega (arith, q))
symbol_name-high symbols c name (IsSymbolName.a_constant n is e w) = let p = ap first_byte w in let q = ap second_byte w in (omega (arith, p), omega (arith, q))
symbol_name-high symbols c name (IsSymbolName.an_operator names a f x s is among e w) = let p = ap first_byte w in let q =
    ap second_byte w in (omega (arith, p), omega (arith, q))
symbol_name-high symbols c name (IsSymbolName.an_input_operator n k is e w) =
    let p = ap first_byte w in
    let q = ap second_byte w in
    let r = front (numeral k) (codes "_" ++ mangled n) (numeral-some k) (first_digit-low (numeral k) (numeral-digits k)) in
    (omega (arith, p), omega (arith, q, r))
  where
    front : (ds rest : List ℕ) → 0 < length ds → first_byte ds ≤ 57 → first_byte (ds ++ rest) ≤ 57
    front [] rest h l = absurd (omega arith)
    front (d ∷ ds) rest h l = l
