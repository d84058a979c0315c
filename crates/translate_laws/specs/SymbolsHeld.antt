-- What the machine has taken is among the items, where each symbol's contents are; and what the machine finds new is new among them.
use Rattle.std.proofs.Common.{◌≡◌, ℕ, List, [], ◌∷◌, ◌++◌, Bool, true, false, cond, ◌&&◌, ◌||◌, Option, None, Some, refl, sym, ap, subst, ◌∙◌}
use Rattle.std.specs.Prelude.{length, ◌==◌, is_some}
use Rattle.std.specs.Cmp.{unsigned_Decides}
use Rattle.std.specs.Option.{option_or, unwrap_or}
use Rattle.std.specs.List.{AllByRecursion, list_any}
use Rattle.std.proofs.lemmas.Option.{same_Some}
use Rattle.std.proofs.lemmas.Bool.{and_parts, or_parts, false_from_ne_true}
use Rattle.hol_spec.specs.Names.{Name}
use Rattle.hol_spec.specs.NameEquality.{name_eq}
use Rattle.hol_laws.specs.NameEqualityLaws.{name_eq-Decides}
use Rattle.hol_spec.specs.Types as type
use Rattle.hol_spec.specs.Types.{HolType, HolTypes, count}
use Rattle.hol_spec.specs.Primitives.{bool, generic, generic_variable, primitive_arity, primitive_type}
use Rattle.hol_spec.specs.Substitution.{Instance}
use Rattle.hol_spec.specs.Terms as term
use Rattle.hol_spec.specs.Terms.{Term, type_of}
use Rattle.hol_spec.specs.Sequents.{Sequent, IsSequent}
use Rattle.hol_spec.specs.Definitions.{Definition, TypeNames}
use Rattle.hol_spec.specs.NewTypes.{abstraction_type, representation_type}
use Rattle.hol_spec.specs.Symbols.{Symbol, defined_type, defined_arity, first_defined_type, first_defined_arity, generic_type, operator_arity, is_input_constant, is_input_operator, is_taken_constant}
use Rattle.hol_proof_laws.specs.SymbolGrowth.{operator-more, constant-more}
use Rattle.hol_spec.specs.Taken as machine
use Rattle.hol_laws.specs.Members.{All-weaker}
use Rattle.translate_spec.specs.Rows.{type_or}
use Rattle.translate_spec.specs.Items.{Content, operator, constant, defined_constant, type_operator, type_abstraction, type_representation, unproved, step, Item, is_operator, is_constant}
use Rattle.translate_laws.specs.ItemConditions.{Has, OperatorTaken, ConstantTaken, TypeTaken, TypesTaken, TermTaken, SequentTaken}
use Rattle.translate_laws.specs.ItemConditions as items
use Rattle.translate_laws.specs.MadeModules.{any_content}
use Rattle.translate_spec.specs.MadeItems.{contents_of}

-- the type definition with these names from the type c, by the theorem of a symbol
pub record HasTypeDefinition (ps : List Item) (names : TypeNames) (c : HolType) (f : Term) : Type 0 where
  pub j : ℕ
  pub one : Sequent
  pub operator : Has ps (type_operator names c f j one)
  pub abstraction : Has ps (type_abstraction names c f j one)
  pub representation : Has ps (type_representation names c f j one)

module _ (ps : List Item) where
  abbrev pub IsHeld : Symbol → Type 0
  IsHeld (Symbol.defined (Definition.type_operator names c f)) = HasTypeDefinition ps names c f
  IsHeld x = AllByRecursion (Has ps) (contents_of x)

  symbol-operator : (n : Name) (k : ℕ) (x : Symbol) → IsHeld x → defined_arity n x ≡ Some k → OperatorTaken ps n k
  symbol-operator n k (Symbol.input_constant m) h e = absurd (cc)
  symbol-operator n k (Symbol.input_operator m j) h e = absurd (cc)
  symbol-operator n k (Symbol.defined (Definition.constant m t)) h e = absurd (cc)
  symbol-operator n k (Symbol.defined (Definition.type_operator names c f)) h e = go (name_eq n names.operator) (name_eq-Decides n names.operator).0 e
    where
      go : (b : Bool) → (b ≡ true → n ≡ names.operator) → cond b (Some (length names.variables)) None ≡ Some k → OperatorTaken ps n k
      go true same e = let i : length names.variables ≡ k = same_Some _ _ e in items.OperatorTaken.part names c f h.j h.one h.operator (same refl) (sym i)
      go false same e = absurd (cc)

  symbol-constant : (n : Name) (g : HolType) (x : Symbol) → IsHeld x → defined_type n x ≡ Some g → (t : HolType) → Instance g t → ConstantTaken ps n t
  symbol-constant n g (Symbol.input_constant m) h e t i = absurd (cc)
  symbol-constant n g (Symbol.input_operator m j) h e t i = absurd (cc)
  symbol-constant n g (Symbol.defined (Definition.constant m u)) h e t i = go (name_eq n m) (name_eq-Decides n m).0 e
    where
      go : (b : Bool) → (b ≡ true → n ≡ m) → cond b (type_of u) None ≡ Some g → ConstantTaken ps n t
      go true same e =
          let a : type_or u ≡ g = ap (λ o. unwrap_or o bool) e in
          items.ConstantTaken.defined (type_or u) u (subst (λ (l : Name). Has ps (defined_constant l (type_or u) u)) (sym (same refl)) h.0)
          (subst (λ b. Instance b t) (sym a) i)
      go false same e = absurd (cc)
  symbol-constant n g (Symbol.defined (Definition.type_operator names c f)) h e t i = go (name_eq n names.abstraction) (name_eq-Decides n names.abstraction).0 e
    where
      second : (b : Bool) → (b ≡ true → n ≡ names.representation) → cond b (Some (representation_type names c)) None ≡ Some g → ConstantTaken ps n t
      second true same e =
          let a : representation_type names c ≡ g = same_Some _ _ e in
          items.ConstantTaken.representation names c f h.j h.one h.representation (same refl) (subst (λ b. Instance b t) (sym a) i)
      second false same e = absurd (cc)

      go : (b : Bool) → (b ≡ true → n ≡ names.abstraction)
          → cond b (Some (abstraction_type names c)) (cond (name_eq n names.representation) (Some (representation_type names c)) None) ≡ Some g
          → ConstantTaken ps n t
      go true same e =
          let a : abstraction_type names c ≡ g = same_Some _ _ e in
          items.ConstantTaken.abstraction names c f h.j h.one h.abstraction (same refl) (subst (λ b. Instance b t) (sym a) i)
      go false same e = second (name_eq n names.representation) (name_eq-Decides n names.representation).0 e

  symbol-input_operator : (n : Name) (k : ℕ) (x : Symbol) → IsHeld x → is_input_operator n k x ≡ true → OperatorTaken ps n k
  symbol-input_operator n k (Symbol.input_constant m) h e = absurd (cc)
  symbol-input_operator n k (Symbol.input_operator m j) h e =
      let parts = and_parts (name_eq n m) (k == j) e in
      let a : n ≡ m = (name_eq-Decides n m).0 parts.0 in
      let b : k ≡ j = (unsigned_Decides k j).0 parts.1 in
      items.OperatorTaken.declared (subst (Has ps) (λ i. operator (sym a i) (sym b i)) h.0)
  symbol-input_operator n k (Symbol.defined d) h e = absurd (cc)

  symbol-input_constant : (n : Name) (t : HolType) (x : Symbol) → IsHeld x → is_input_constant n x ≡ true → ConstantTaken ps n t
  symbol-input_constant n t (Symbol.input_constant m) h e =
      items.ConstantTaken.declared generic (subst (λ (l : Name). Has ps (constant l generic)) (sym ((name_eq-Decides n m).0 e)) h.0)
      ((generic_variable, t) ∷ [], refl)
  symbol-input_constant n t (Symbol.input_operator m j) h e = absurd (cc)
  symbol-input_constant n t (Symbol.defined d) h e = absurd (cc)

  any-held : {R : Type 0} (p : Symbol → Bool) → ((x : Symbol) → IsHeld x → p x ≡ true → R) → (ss : List Symbol) → AllByRecursion IsHeld ss
      → list_any p ss ≡ true → R
  any-held p f [] h e = absurd (cc)
  any-held {R} p f (x ∷ ss) h e = go (p x) refl e (any-held p f ss h.1)
    where
      go : (b : Bool) → p x ≡ b → (b || list_any p ss) ≡ true → (list_any p ss ≡ true → R) → R
      go true is e rest = f x h.0 is
      go false is e rest = rest e

  first-operator : (n : Name) (k : ℕ) (ss : List Symbol) → AllByRecursion IsHeld ss → first_defined_arity n ss ≡ Some k → OperatorTaken ps n k
  first-operator n k [] h e = absurd (cc)
  first-operator n k (x ∷ ss) h e = go (defined_arity n x) refl e (first-operator n k ss h.1)
    where
      go : (o : Option ℕ) → defined_arity n x ≡ o → option_or o (first_defined_arity n ss) ≡ Some k → (first_defined_arity n ss ≡ Some k → OperatorTaken ps n k)
          → OperatorTaken ps n k
      go None is e rest = rest e
      go (Some j) is e rest = symbol-operator n k x h.0 (is ∙ e)

  first-constant : (n : Name) (g : HolType) (ss : List Symbol) → AllByRecursion IsHeld ss → first_defined_type n ss ≡ Some g → (t : HolType) → Instance g t
      → ConstantTaken ps n t
  first-constant n g [] h e t i = absurd (cc)
  first-constant n g (x ∷ ss) h e t i = go (defined_type n x) refl e (λ e. first-constant n g ss h.1 e t i)
    where
      go : (o : Option HolType) → defined_type n x ≡ o → option_or o (first_defined_type n ss) ≡ Some g
          → (first_defined_type n ss ≡ Some g → ConstantTaken ps n t) → ConstantTaken ps n t
      go None is e rest = rest e
      go (Some j) is e rest = symbol-constant n g x h.0 (is ∙ e) t i

  module _ (ss : List Symbol) (held : AllByRecursion IsHeld ss) where
    pub held-operator : (n : Name) (k : ℕ) → machine.OperatorTaken ss n k → OperatorTaken ps n k
    held-operator n k (machine.OperatorTaken.of_arity e) = go (primitive_arity n) refl e
      where
        go : (o : Option ℕ) → primitive_arity n ≡ o → option_or o (first_defined_arity n ss) ≡ Some k → OperatorTaken ps n k
        go None is e = first-operator n k ss held e
        go (Some j) is e = items.OperatorTaken.primitive (is ∙ e)
    held-operator n k (machine.OperatorTaken.input e) = any-held (is_input_operator n k) (symbol-input_operator n k) ss held e

    pub held-constant : (n : Name) (t : HolType) → machine.ConstantTaken ss n t → ConstantTaken ps n t
    held-constant n t (machine.ConstantTaken.instance g e i) = go (primitive_type n) refl e
      where
        go : (o : Option HolType) → primitive_type n ≡ o → option_or o (first_defined_type n ss) ≡ Some g → ConstantTaken ps n t
        go None is e = first-constant n g ss held e t i
        go (Some j) is e = items.ConstantTaken.primitive g (is ∙ e) i
    held-constant n t (machine.ConstantTaken.input e) = any-held (is_input_constant n) (symbol-input_constant n t) ss held e

    mutual
      pub held-type : (t : HolType) → machine.TypeTaken ss t → TypeTaken ps t
      held-type (type.HolType.variable n) h = tt
      held-type (type.HolType.operator n ts) h = (held-operator n (count ts) h.0, held-types ts h.1)

      pub held-types : (ts : HolTypes) → machine.TypesTaken ss ts → TypesTaken ps ts
      held-types type.HolTypes.none h = tt
      held-types (type.HolTypes.more t ts) h = (held-type t h.0, held-types ts h.1)

    pub held-term : (t : Term) → machine.TermTaken ss t → TermTaken ps t
    held-term (term.Term.free n t) h = held-type t h
    held-term (term.Term.bound k) h = tt
    held-term (term.Term.constant n t) h = (held-constant n t h.0, held-type t h.1)
    held-term (term.Term.app f x) h = (held-term f h.0, held-term x h.1)
    held-term (term.Term.lam t b) h = (held-type t h.0, held-term b h.1)

    pub held-sequent : (s : Sequent) → IsSequent s → machine.TermsTaken ss s → SequentTaken ps s
    held-sequent s is h =
        record {
          is = is;
          hypotheses = All-weaker (machine.TermTaken ss) (TermTaken ps) held-term s.hypotheses h.hypotheses;
          conclusion =
              held-term s.conclusion h.conclusion;
        }

-- What an item names is taken in the machine.
abbrev pub IsNamed : List Symbol → Content → Type 0
IsNamed ss (operator n k) = machine.OperatorTaken ss n k
IsNamed ss (constant n a) = machine.ConstantTaken ss n a
IsNamed ss (defined_constant n a t) = machine.ConstantTaken ss n a
IsNamed ss (type_operator names c u j one) = machine.OperatorTaken ss names.operator (length names.variables)
IsNamed ss (type_abstraction names c u j one) = machine.ConstantTaken ss names.abstraction (abstraction_type names c)
IsNamed ss (type_representation names c u j one) = machine.ConstantTaken ss names.representation (representation_type names c)
IsNamed ss (unproved s) = Unit {0}
IsNamed ss (step kind js premises given s) = Unit {0}

pub named-more : (ss xs : List Symbol) (c : Content) → IsNamed ss c → IsNamed (ss ++ xs) c
named-more ss xs (operator n k) h = operator-more ss xs n k h
named-more ss xs (constant n a) h = constant-more ss xs n a h
named-more ss xs (defined_constant n a t) h = constant-more ss xs n a h
named-more ss xs (type_operator names c u j one) h = operator-more ss xs names.operator (length names.variables) h
named-more ss xs (type_abstraction names c u j one) h = constant-more ss xs names.abstraction (abstraction_type names c) h
named-more ss xs (type_representation names c u j one) h = constant-more ss xs names.representation (representation_type names c) h
named-more ss xs (unproved s) h = tt
named-more ss xs (step kind js premises given s) h = tt

module _ (ss : List Symbol) (n : Name) where
  no_such-constant : is_taken_constant ss n ≡ false → (a : HolType) → machine.ConstantTaken ss n a → ⊥
  no_such-constant new a (machine.ConstantTaken.instance g e i) = let h =
      (or_parts (is_some (generic_type ss n)) (list_any (is_input_constant n) ss) new).0 in let k : true ≡ false = ap is_some (sym e) ∙ h in absurd (cc)
  no_such-constant new a (machine.ConstantTaken.input e) = let h =
      (or_parts (is_some (generic_type ss n)) (list_any (is_input_constant n) ss) new).1 in let k : true ≡ false = sym e ∙ h in absurd (cc)

  no_such-operator : (k : ℕ) → is_some (operator_arity ss n) ≡ false → list_any (is_input_operator n k) ss ≡ false → machine.OperatorTaken ss n k → ⊥
  no_such-operator k undefined new (machine.OperatorTaken.of_arity e) = let k : true ≡ false = ap is_some (sym e) ∙ undefined in absurd (cc)
  no_such-operator k undefined new (machine.OperatorTaken.input e) = let k : true ≡ false = sym e ∙ new in absurd (cc)

  other-constant : is_taken_constant ss n ≡ false → (c : Content) → IsNamed ss c → is_constant n c ≡ false
  other-constant new (operator m k) h = refl
  other-constant new (constant m a) h = false_from_ne_true (name_eq n m)
      (λ e. no_such-constant new a (subst (λ (l : Name). machine.ConstantTaken ss l a) (sym ((name_eq-Decides n m).0 e)) h))
  other-constant new (defined_constant m a t) h = false_from_ne_true (name_eq n m)
      (λ e. no_such-constant new a (subst (λ (l : Name). machine.ConstantTaken ss l a) (sym ((name_eq-Decides n m).0 e)) h))
  other-constant new (type_operator names c u j one) h = refl
  other-constant new (type_abstraction names c u j one) h =
      false_from_ne_true (name_eq n names.abstraction)
      (λ e. no_such-constant new (abstraction_type names c)
      (subst (λ (l : Name). machine.ConstantTaken ss l (abstraction_type names c)) (sym ((name_eq-Decides n names.abstraction).0 e)) h))
  other-constant new (type_representation names c u j one) h =
      false_from_ne_true (name_eq n names.representation)
      (λ e. no_such-constant new (representation_type names c)
      (subst (λ (l : Name). machine.ConstantTaken ss l (representation_type names c)) (sym ((name_eq-Decides n names.representation).0 e)) h))
  other-constant new (unproved s) h = refl
  other-constant new (step kind js premises given s) h = refl

  another : (k : ℕ) (m : Name) (j : ℕ) → is_some (operator_arity ss n) ≡ false → list_any (is_input_operator n k) ss ≡ false → machine.OperatorTaken ss m j
      → (name_eq n m && (k == j)) ≡ false
  another k m j undefined new h =
      false_from_ne_true (name_eq n m && (k == j))
      (λ e. let parts = and_parts (name_eq n m) (k == j) e in
      let a : n ≡ m = (name_eq-Decides n m).0 parts.0 in
      let b : k ≡ j = (unsigned_Decides k j).0 parts.1 in
      no_such-operator k undefined new (subst (λ (l : Name). machine.OperatorTaken ss l k) (sym a) (subst (machine.OperatorTaken ss m) (sym b) h)))

  other-operator : (k : ℕ) → is_some (operator_arity ss n) ≡ false → list_any (is_input_operator n k) ss ≡ false → (c : Content) → IsNamed ss c
      → is_operator n k c ≡ false
  other-operator k undefined new (operator m j) h = another k m j undefined new h
  other-operator k undefined new (constant m a) h = refl
  other-operator k undefined new (defined_constant m a t) h = refl
  other-operator k undefined new (type_operator names c u j one) h = another k names.operator (length names.variables) undefined new h
  other-operator k undefined new (type_abstraction names c u j one) h = refl
  other-operator k undefined new (type_representation names c u j one) h = refl
  other-operator k undefined new (unproved s) h = refl
  other-operator k undefined new (step kind js premises given s) h = refl

  none-such : (test : Content → Bool) → ((c : Content) → IsNamed ss c → test c ≡ false) → (ps : List Item)
      → AllByRecursion (λ (z : Item). IsNamed ss z.content) ps → any_content test ps ≡ false
  none-such test f [] h = refl
  none-such test f (z ∷ zs) h = ap (λ b. b || any_content test zs) (f z.content h.0) ∙ none-such test f zs h.1

  no-primitive : {A : Type 0} (o p : Option A) → is_some (option_or o p) ≡ false → o ≡ None
  no-primitive None p e = refl
  no-primitive (Some x) p e = absurd (cc)

  -- what the machine finds new
  pub new-constant : is_taken_constant ss n ≡ false → (ps : List Item) → AllByRecursion (λ (z : Item). IsNamed ss z.content) ps → (primitive_type n ≡ None)
      × (any_content (is_constant n) ps ≡ false)
  new-constant new ps h = (
    no-primitive (primitive_type n) (first_defined_type n ss) (or_parts (is_some (generic_type ss n)) (list_any (is_input_constant n) ss) new).0,
    none-such (is_constant n) (other-constant new) ps h,
  )

  pub new-operator : (k : ℕ) → is_some (operator_arity ss n) ≡ false → list_any (is_input_operator n k) ss ≡ false → (ps : List Item)
      → AllByRecursion (λ (z : Item). IsNamed ss z.content) ps
      → (primitive_arity n ≡ None) × (any_content (is_operator n k) ps ≡ false)
  new-operator k undefined new ps h =
      (no-primitive (primitive_arity n) (first_defined_arity n ss) undefined, none-such (is_operator n k) (other-operator k undefined new) ps h)
