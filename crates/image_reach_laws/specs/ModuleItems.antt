-- The items of a module: where each is declared, what it asks of those before it, and which item is a constant whose generic type mentions
-- what isn't primitive.
use Rattle.std.proofs.Common.{◌≡◌, ℕ, ◌+◌, List, [], ◌∷◌, ◌++◌, map, length, Bool, true, false, cond, ◌⊎◌, Option, Some, None, inl, inr, slice_get, refl, sym, ap, subst, ◌∙◌, append_assoc}
use Rattle.std.specs.Prelude.{unwrap_or}
use Rattle.std.specs.List.{AllByRecursion}
use Rattle.std.proofs.lemmas.List.{map-append, length-map}
use Rattle.hol_spec.specs.Names.{Name}
use Rattle.hol_spec.specs.NameEquality.{name_eq}
use Rattle.hol_spec.specs.Types.{HolType}
use Rattle.hol_spec.specs.Primitives.{bool, generic, equality_type, select_type, primitive_arity, primitive_type, equality_name, select_name}
use Rattle.hol_spec.specs.Substitution.{Instance}
use Rattle.hol_spec.specs.Terms as term
use Rattle.hol_spec.specs.Terms.{Term}
use Rattle.hol_spec.specs.Sequents.{Sequent}
use Rattle.hol_spec.specs.Lists.{IsIn}
use Rattle.hol_laws.specs.Members.{IsIn-left, All-at, All-weaker}
use Rattle.lp_spec.specs.Modules.{signature}
use Rattle.lp_spec.specs.Lemmas.{lemmas}
use Rattle.translate_spec.specs.Scopes.{SymbolMap, constant_symbol, generic_type, generic_tree}
use Rattle.translate_spec.specs.Items.{Content, operator, constant, defined_constant, type_operator, type_abstraction, type_representation, unproved, step, Item, declaration, declaration_of, is_constant, generic_of, first_symbol, first_type, symbols_of, module_of}
use Rattle.translate_spec.specs.Reach.{Key, operator_key, constant_key, number_key, type_keys, gives_of}
use Rattle.translate_laws.specs.ItemConditions.{Has, ConstantTaken, TermTaken, SequentTaken, IsContent, Tells, AreItems}
use Rattle.translate_laws.specs.ItemConditions as items
use Rattle.translate_laws.specs.MadeModules.{IsNew, AreMade, items-made}
use Rattle.translate_laws.specs.TermScopeLaws.{AreInstances}
use Rattle.translate_laws.specs.TheoremTyping.{HasInstances}
use Rattle.image_laws.specs.Uses.{symbol_of_key}
use Rattle.image_laws.specs.Standing.{skip}
use Rattle.lp_binding_laws.specs.LookUps.{slice_get-seam}

-- where an item is declared
pub record IsPlaced (xs : List Item) (z : Item) : Type 0 where
  pub number : ℕ
  pub symbol : z.symbol ≡ length signature + number
  pub at : slice_get (module_of (symbols_of xs) xs) number ≡ Some (declaration (symbols_of xs) z)

-- what an item asks of those before it
pub record IsAsked (xs : List Item) (z : Item) : Type 0 where
  pub before : List Item
  pub among : (x : Item) → IsIn before x → IsIn xs x
  pub new : IsNew before z.content
  pub content : IsContent before z.content

module _ (xs : List Item) where
  located : (before ys : List Item) (z : Item) → xs ≡ before ++ z ∷ ys
      → slice_get (module_of (symbols_of xs) xs) (length lemmas + length before) ≡ Some (declaration (symbols_of xs) z)
  located before ys z whole =
      let D = declaration (symbols_of xs) in
      skip lemmas (map D xs) (length before)
      ∙ ap (λ l. slice_get (map D l) (length before)) whole ∙ ap (λ l. slice_get l (length before)) (map-append D before (z ∷ ys))
      ∙ ap (slice_get (map D before ++ map D (z ∷ ys))) (sym (length-map before D)) ∙ slice_get-seam (map D before) (map D ys) (D z)

  placed-after : (before ys : List Item) → xs ≡ before ++ ys → AreMade before ys → (z : Item) → IsIn ys z → IsPlaced xs z
  placed-after before [] whole h z i = absurd i
  placed-after before (y ∷ ys) whole h z (inl e) =
      subst (IsPlaced xs) (sym e) (record { number = length lemmas + length before; symbol = h.0; at = located before ys y whole })
  placed-after before (y ∷ ys) whole h z (inr i) = placed-after (before ++ y ∷ []) ys (whole ∙ sym (append_assoc before (y ∷ []) ys)) h.3 z i

  asked-after : (before ys : List Item) → xs ≡ before ++ ys → AreMade before ys → (z : Item) → IsIn ys z → IsAsked xs z
  asked-after before [] whole h z i = absurd i
  asked-after before (y ∷ ys) whole h z (inl e) =
      subst (IsAsked xs) (sym e)
      (record { before = before; among = λ x k. subst (λ l. IsIn l x) (sym whole) (IsIn-left before (y ∷ ys) x k); new = h.1; content = h.2 })
  asked-after before (y ∷ ys) whole h z (inr i) = asked-after (before ++ y ∷ []) ys (whole ∙ sym (append_assoc before (y ∷ []) ys)) h.3 z i

  -- what the symbols tell of each
  told-after : (symbols : SymbolMap) (before ys : List Item) → AreItems symbols before ys → AllByRecursion (λ (z : Item). Tells symbols z.symbol z.content) ys
  told-after symbols before [] h = tt
  told-after symbols before (y ∷ ys) h = (h.1, told-after symbols (before ++ y ∷ []) ys h.3)

module _ (xs : List Item) (made : AreMade [] xs) where
  -- Each item is declared
  pub item-placed : (z : Item) → IsIn xs z → IsPlaced xs z
  item-placed z i = placed-after xs [] xs refl made z i

  -- and asks for something of those before it
  pub item-asked : (z : Item) → IsIn xs z → IsAsked xs z
  item-asked z i = asked-after xs [] xs refl made z i

  -- and the symbols tell its own
  pub item-told : (z : Item) → IsIn xs z → Tells (symbols_of xs) z.symbol z.content
  item-told z i = All-at (λ (z : Item). Tells (symbols_of xs) z.symbol z.content) xs z (told-after xs (symbols_of xs) [] xs (items-made [] xs made)) i

  -- the symbol of what an item gives is its own
  tells-key : (symbols : SymbolMap) (i : ℕ) (c : Content) → Tells symbols i c → symbol_of_key symbols (gives_of i c) ≡ i
  tells-key symbols i (operator n k) h = h
  tells-key symbols i (constant n a) h = h.0
  tells-key symbols i (defined_constant n a t) h = h.0
  tells-key symbols i (type_operator names c f j one) h = h
  tells-key symbols i (type_abstraction names c f j one) h = h.0
  tells-key symbols i (type_representation names c f j one) h = h.0
  tells-key symbols i (unproved s) h = refl
  tells-key symbols i (step kind js ss g s) h = refl

  pub item-key : (z : Item) → IsIn xs z → symbol_of_key (symbols_of xs) (gives_of z.symbol z.content) ≡ z.symbol
  item-key z i = tells-key (symbols_of xs) z.symbol z.content (item-told z i)

  -- what is among the items is told
  pub has-told : (c : Content) → Has xs c → (i : ℕ) × Tells (symbols_of xs) i c
  has-told c (x, i, e) = (x.symbol, subst (Tells (symbols_of xs) x.symbol) e (item-told x i))

  module _ (before : List Item) (among : (x : Item) → IsIn before x → IsIn xs x) where
    pub has-among : (c : Content) → Has before c → Has xs c
    has-among c (x, i, e) = (x, among x i, e)

    taken-instance : (n : Name) (t : HolType) → ConstantTaken before n t → Instance (generic_type (symbols_of xs) n) t
    taken-instance n t (items.ConstantTaken.primitive g e i) = subst (λ b. Instance b t) (sym (ap (λ o. unwrap_or o ((symbols_of xs).generic n)) e)) i
    taken-instance n t (items.ConstantTaken.declared a h i) = subst (λ b. Instance b t) (sym (has-told (constant n a) (has-among (constant n a) h)).1.1) i
    taken-instance n t (items.ConstantTaken.defined a u h i) =
        subst (λ b. Instance b t) (sym (has-told (defined_constant n a u) (has-among (defined_constant n a u) h)).1.1) i
    taken-instance n t (items.ConstantTaken.abstraction names c f j one h e i) =
        let told = (has-told (type_abstraction names c f j one) (has-among (type_abstraction names c f j one) h)).1.1 in
        subst (λ (l : Name). Instance (generic_type (symbols_of xs) l) t) (sym e) (subst (λ b. Instance b t) (sym told) i)
    taken-instance n t (items.ConstantTaken.representation names c f j one h e i) =
        let told = (has-told (type_representation names c f j one) (has-among (type_representation names c f j one) h)).1.1 in
        subst (λ (l : Name). Instance (generic_type (symbols_of xs) l) t) (sym e) (subst (λ b. Instance b t) (sym told) i)

    -- the constants of a term are instances
    pub term-instances : (t : Term) → TermTaken before t → AreInstances (symbols_of xs) t
    term-instances (term.Term.free n t) h = tt
    term-instances (term.Term.bound k) h = tt
    term-instances (term.Term.constant n t) h = taken-instance n t h.0
    term-instances (term.Term.app f x) h = (term-instances f h.0, term-instances x h.1)
    term-instances (term.Term.lam t b) h = term-instances b h.1

    pub sequent-instances : (s : Sequent) → SequentTaken before s → HasInstances (symbols_of xs) s
    sequent-instances s h = record {
      hypotheses = All-weaker (TermTaken before) (AreInstances (symbols_of xs)) term-instances s.hypotheses h.hypotheses;
      conclusion = term-instances s.conclusion h.conclusion;
    }

-- a key that isn't a primitive symbol's
abbrev pub IsNewKey : Key → Type 0
IsNewKey (operator_key n k) = primitive_arity n ≡ None
IsNewKey (constant_key n) = primitive_type n ≡ None
IsNewKey (number_key i) = Unit {0}

-- what is new gives such a key
pub gives-new : (before : List Item) (i : ℕ) (c : Content) → IsNew before c → IsNewKey (gives_of i c)
gives-new before i (operator n k) h = h.0
gives-new before i (constant n a) h = h.0
gives-new before i (defined_constant n a t) h = h.0
gives-new before i (type_operator names c f j one) h = h.0
gives-new before i (type_abstraction names c f j one) h = h.0
gives-new before i (type_representation names c f j one) h = h.0
gives-new before i (unproved s) h = tt
gives-new before i (step kind js ss g s) h = tt

-- the types of primitive constants mention no such key
no-new_bool : (k : Key) → IsIn (type_keys bool) k → IsNewKey k → ⊥
no-new_bool k (inl e) h = let f = subst IsNewKey e h in absurd (cc)
no-new_bool k (inr i) h = absurd i

no-new_equality : (k : Key) → IsIn (type_keys (equality_type generic)) k → IsNewKey k → ⊥
no-new_equality k (inl e) h = let f = subst IsNewKey e h in absurd (cc)
no-new_equality k (inr (inl e)) h = let f = subst IsNewKey e h in absurd (cc)
no-new_equality k (inr (inr (inl e))) h = let f = subst IsNewKey e h in absurd (cc)
no-new_equality k (inr (inr (inr i))) h = absurd i

no-new_select : (k : Key) → IsIn (type_keys (select_type generic)) k → IsNewKey k → ⊥
no-new_select k (inl e) h = let f = subst IsNewKey e h in absurd (cc)
no-new_select k (inr (inl e)) h = let f = subst IsNewKey e h in absurd (cc)
no-new_select k (inr (inr (inl e))) h = let f = subst IsNewKey e h in absurd (cc)
no-new_select k (inr (inr (inr i))) h = absurd i

primitive-types : (n : Name) (g : HolType) → primitive_type n ≡ Some g → (equality_type generic ≡ g) ⊎ (select_type generic ≡ g)
primitive-types n g h = go (name_eq n equality_name) (name_eq n select_name) h
  where
    go : (b c : Bool) → cond b (Some (equality_type generic)) (cond c (Some (select_type generic)) None) ≡ Some g
        → (equality_type generic ≡ g) ⊎ (select_type generic ≡ g)
    go true c e = inl (cc)
    go false true e = inr (cc)
    go false false e = absurd (cc)

no-new_primitive : (n : Name) (g : HolType) → primitive_type n ≡ Some g → (k : Key) → IsIn (type_keys g) k → IsNewKey k → ⊥
no-new_primitive n g e k i h = elim (primitive-types n g e) [
  | inl same ↦ no-new_equality k (subst (λ t. IsIn (type_keys t) k) (sym same) i) h
  | inr same ↦ no-new_select k (subst (λ t. IsIn (type_keys t) k) (sym same) i) h
]

-- the first item that passes a test gives its symbol and its generic type
data First (test : Content → Bool) (xs : List Item) : Type 0 where
  an_item : (x : Item) → IsIn xs x → test x.content ≡ true → first_symbol test xs ≡ x.symbol → first_type test xs ≡ generic_of x.content → First test xs
  no_item : first_type test xs ≡ bool → First test xs

First-each : (test : Content → Bool) (xs : List Item) → First test xs
First-each test [] = First.no_item refl
First-each test (x ∷ xs) = go (test x.content) refl (First-each test xs)
  where
    chosen : (b : Bool) → test x.content ≡ b
        → (first_symbol test (x ∷ xs) ≡ cond b x.symbol (first_symbol test xs))
        × (first_type test (x ∷ xs) ≡ cond b (generic_of x.content) (first_type test xs))
    chosen b e = (ap (λ c. cond c x.symbol (first_symbol test xs)) e, ap (λ c. cond c (generic_of x.content) (first_type test xs)) e)

    go : (b : Bool) → test x.content ≡ b → First test xs → First test (x ∷ xs)
    go true e rest = First.an_item x (inl refl) e (chosen true e).0 (chosen true e).1
    go false e (First.an_item y i t s g) = First.an_item y (inr i) t ((chosen false e).0 ∙ s) ((chosen false e).1 ∙ g)
    go false e (First.no_item g) = First.no_item ((chosen false e).1 ∙ g)

-- a name that isn't primitive has the symbol and the type that the symbols give
constant-input : (symbols : SymbolMap) (n : Name) → primitive_type n ≡ None → constant_symbol symbols n ≡ symbols.constant n
constant-input symbols n h = go (name_eq n equality_name) (name_eq n select_name) refl refl
  where
    go : (b c : Bool) → name_eq n equality_name ≡ b → name_eq n select_name ≡ c → constant_symbol symbols n ≡ symbols.constant n
    go true c f g = let a : primitive_type n ≡ Some (equality_type generic) = rw f refl in absurd (cc)
    go false true f g = let a : primitive_type n ≡ Some (select_type generic) = rw (f, g) refl in absurd (cc)
    go false false f g = rw (f, g) refl

constant-type : (symbols : SymbolMap) (name : List ℕ) (c : Content) (n : Name) → is_constant n c ≡ true
    → (declaration_of symbols name c).ty ≡ generic_tree symbols (generic_of c)
constant-type symbols name (operator m k) n e = absurd (cc)
constant-type symbols name (constant m a) n e = refl
constant-type symbols name (defined_constant m a t) n e = refl
constant-type symbols name (type_operator names c f j one) n e = absurd (cc)
constant-type symbols name (type_abstraction names c f j one) n e = refl
constant-type symbols name (type_representation names c f j one) n e = refl
constant-type symbols name (unproved s) n e = absurd (cc)
constant-type symbols name (step kind js ss g s) n e = absurd (cc)

-- the item of a constant whose generic type mentions what isn't primitive
pub record IsConstantOf (xs : List Item) (n : Name) : Type 0 where
  pub item : Item
  pub among : IsIn xs item
  pub symbol : constant_symbol (symbols_of xs) n ≡ item.symbol
  pub ty : (declaration (symbols_of xs) item).ty ≡ generic_tree (symbols_of xs) (generic_type (symbols_of xs) n)

pub constant-of : (xs : List Item) (n : Name) (k : Key) → IsNewKey k → IsIn (type_keys (generic_type (symbols_of xs) n)) k → IsConstantOf xs n
constant-of xs n k new i = go (primitive_type n) refl
  where
    input : primitive_type n ≡ None → First (is_constant n) xs → IsConstantOf xs n
    input e (First.no_item g) = absurd (no-new_bool k (subst (λ t. IsIn (type_keys t) k) (ap (λ o. unwrap_or o ((symbols_of xs).generic n)) e ∙ g) i) new)
    input e (First.an_item x there t s g) = record {
      item = x;
      among = there;
      symbol = constant-input (symbols_of xs) n e ∙ s;
      ty = constant-type (symbols_of xs) x.name x.content n t
          ∙ ap (generic_tree (symbols_of xs)) (sym (ap (λ o. unwrap_or o ((symbols_of xs).generic n)) e ∙ g));
    }

    go : (o : Option HolType) → primitive_type n ≡ o → IsConstantOf xs n
    go (Some g) e = absurd (no-new_primitive n g e k (subst (λ t. IsIn (type_keys t) k) (ap (λ o. unwrap_or o ((symbols_of xs).generic n)) e) i) new)
    go None e = input e (First-each (is_constant n) xs)
