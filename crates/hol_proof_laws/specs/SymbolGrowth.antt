-- What is taken stays taken when symbols are added, and a symbol that is newly taken is taken at its generic type or arity.
use Rattle.std.proofs.Common.{◌≡◌, ℕ, List, [], ◌∷◌, ◌++◌, length, Bool, true, false, cond, Option, None, Some, refl, sym, ap, ◌∙◌}
use Rattle.std.specs.Prelude.{is_some}
use Rattle.std.specs.Bool.{Decides}
use Rattle.std.specs.Option.{option_or}
use Rattle.std.specs.List.{list_any}
use Rattle.std.proofs.lemmas.List.Folds.{list_any-append}
use Rattle.std.proofs.lemmas.Bool.{or_right, or_left, or_parts}
use Rattle.hol_spec.specs.Names.{Name}
use Rattle.hol_spec.specs.NameEquality.{name_eq}
use Rattle.hol_laws.specs.NameEqualityLaws.{name_eq-Decides, name_eq-refl}
use Rattle.hol_spec.specs.Types.{HolType, HolTypes, none, more, count}
use Rattle.hol_spec.specs.Primitives.{primitive_type, primitive_arity}
use Rattle.hol_spec.specs.Substitution.{Instance}
use Rattle.hol_spec.specs.Terms.{Term, free, bound, app, lam, type_of}
use Rattle.hol_spec.specs.Sequents.{Sequent}
use Rattle.hol_spec.specs.Definitions.{Definition, TypeNames}
use Rattle.hol_spec.specs.NewTypes.{abstraction_type, representation_type}
use Rattle.hol_laws.specs.Members.{All-weaker}
use Rattle.hol_laws.specs.TermInstances.{substitute-nothing}
use Rattle.hol_spec.specs.Symbols.{Symbol, defined, generic_type, operator_arity, defined_type, defined_arity, first_defined_type, first_defined_arity, is_input_constant, is_input_operator, is_input_operator_named, is_taken_constant, is_taken_operator}
use Rattle.hol_spec.specs.Taken.{OperatorTaken, ConstantTaken, TypeTaken, TypesTaken, TermTaken, TermsTaken, DefinitionTaken}
use Rattle.hol_spec.specs.Taken as taken

pub symmetric : {A : Type 0} (same : A → A → Bool) → ((x y : A) → Decides (same x y) (x ≡ y)) → (x y : A) → same x y ≡ false → same y x ≡ false
symmetric same decides x y h = go (same y x) (decides y x).0 (decides x y).1
  where
    go : (b : Bool) → (b ≡ true → y ≡ x) → (x ≡ y → same x y ≡ true) → b ≡ false
    go true f g = absurd (let e = g (sym (f refl)) in cc)
    go false f g = refl

or-assoc : {A : Type 0} (o p q : Option A) → option_or o (option_or p q) ≡ option_or (option_or o p) q
or-assoc None p q = refl
or-assoc (Some x) p q = refl

or-more : {A : Type 0} (o p q : Option A) (g : A) → option_or o p ≡ Some g → option_or o (option_or p q) ≡ Some g
or-more None (Some y) q g e = e
or-more None None q g e = absurd (cc)
or-more (Some x) p q g e = e

or-new : {A : Type 0} (o p q : Option A) → is_some (option_or o p) ≡ false → option_or o (option_or p q) ≡ q
or-new None None q e = refl
or-new None (Some y) q e = absurd (cc)
or-new (Some x) p q e = absurd (cc)

first_defined_type-append : (n : Name) (xs ys : List Symbol) → first_defined_type n (xs ++ ys) ≡ option_or (first_defined_type n xs) (first_defined_type n ys)
first_defined_type-append n [] ys = refl
first_defined_type-append n (x ∷ xs) ys = ap (option_or (defined_type n x)) (first_defined_type-append n xs ys) ∙ or-assoc (defined_type n x)
    (first_defined_type n xs) (first_defined_type n ys)

first_defined_arity-append : (n : Name) (xs ys : List Symbol)
    → first_defined_arity n (xs ++ ys) ≡ option_or (first_defined_arity n xs) (first_defined_arity n ys)
first_defined_arity-append n [] ys = refl
first_defined_arity-append n (x ∷ xs) ys = ap (option_or (defined_arity n x)) (first_defined_arity-append n xs ys) ∙ or-assoc (defined_arity n x)
    (first_defined_arity n xs) (first_defined_arity n ys)

generic_type-more : (xs ys : List Symbol) (n : Name) (g : HolType) → generic_type xs n ≡ Some g → generic_type (xs ++ ys) n ≡ Some g
generic_type-more xs ys n g e = ap (option_or (primitive_type n)) (first_defined_type-append n xs ys) ∙ or-more (primitive_type n) (first_defined_type n xs)
    (first_defined_type n ys) g e

operator_arity-more : (xs ys : List Symbol) (n : Name) (k : ℕ) → operator_arity xs n ≡ Some k → operator_arity (xs ++ ys) n ≡ Some k
operator_arity-more xs ys n k e = ap (option_or (primitive_arity n)) (first_defined_arity-append n xs ys) ∙ or-more (primitive_arity n)
    (first_defined_arity n xs) (first_defined_arity n ys) k e

pub generic_type-new : (xs ys : List Symbol) (n : Name) → is_some (generic_type xs n) ≡ false → generic_type (xs ++ ys) n ≡ first_defined_type n ys
generic_type-new xs ys n e = ap (option_or (primitive_type n)) (first_defined_type-append n xs ys) ∙ or-new (primitive_type n) (first_defined_type n xs)
    (first_defined_type n ys) e

pub operator_arity-new : (xs ys : List Symbol) (n : Name) → is_some (operator_arity xs n) ≡ false → operator_arity (xs ++ ys) n ≡ first_defined_arity n ys
operator_arity-new xs ys n e = ap (option_or (primitive_arity n)) (first_defined_arity-append n xs ys) ∙ or-new (primitive_arity n) (first_defined_arity n xs)
    (first_defined_arity n ys) e

pub any-left : {A : Type 0} (p : A → Bool) (xs ys : List A) → list_any p xs ≡ true → list_any p (xs ++ ys) ≡ true
any-left p xs ys e = list_any-append p xs ys ∙ or_left (list_any p xs) (list_any p ys) e

pub any-right : {A : Type 0} (p : A → Bool) (xs ys : List A) → list_any p ys ≡ true → list_any p (xs ++ ys) ≡ true
any-right p xs ys e = list_any-append p xs ys ∙ or_right (list_any p xs) (list_any p ys) e

module _ (xs ys : List Symbol) where
  pub operator-more : (n : Name) (k : ℕ) → OperatorTaken xs n k → OperatorTaken (xs ++ ys) n k
  operator-more n k (taken.OperatorTaken.of_arity e) = taken.OperatorTaken.of_arity (operator_arity-more xs ys n k e)
  operator-more n k (taken.OperatorTaken.input e) = taken.OperatorTaken.input (any-left (is_input_operator n k) xs ys e)

  pub constant-more : (n : Name) (t : HolType) → ConstantTaken xs n t → ConstantTaken (xs ++ ys) n t
  constant-more n t (taken.ConstantTaken.instance g e i) = taken.ConstantTaken.instance g (generic_type-more xs ys n g e) i
  constant-more n t (taken.ConstantTaken.input e) = taken.ConstantTaken.input (any-left (is_input_constant n) xs ys e)

  mutual
    pub type-more : (t : HolType) → TypeTaken xs t → TypeTaken (xs ++ ys) t
    type-more (HolType.variable n) h = tt
    type-more (HolType.operator n ts) h = (operator-more n (count ts) h.0, types-more ts h.1)

    pub types-more : (ts : HolTypes) → TypesTaken xs ts → TypesTaken (xs ++ ys) ts
    types-more none h = tt
    types-more (more t ts) h = (type-more t h.0, types-more ts h.1)

  pub term-more : (t : Term) → TermTaken xs t → TermTaken (xs ++ ys) t
  term-more (free n t) h = type-more t h
  term-more (bound k) h = tt
  term-more (Term.constant n t) h = (constant-more n t h.0, type-more t h.1)
  term-more (app f x) h = (term-more f h.0, term-more x h.1)
  term-more (lam t b) h = (type-more t h.0, term-more b h.1)

  pub terms-more : (s : Sequent) → TermsTaken xs s → TermsTaken (xs ++ ys) s
  terms-more s h = record {
    hypotheses = All-weaker (TermTaken xs) (TermTaken (xs ++ ys)) term-more s.hypotheses h.hypotheses;
    conclusion =
        term-more s.conclusion h.conclusion;
  }

  pub definition-more : (d : Definition) → DefinitionTaken xs d → DefinitionTaken (xs ++ ys) d
  definition-more (Definition.constant n t) h = λ a e. constant-more n a (h a e)
  definition-more (Definition.type_operator names c f) h = (
    operator-more names.operator (length names.variables) h.0,
    constant-more names.abstraction (abstraction_type names c) h.1,
    constant-more names.representation (representation_type names c) h.2,
  )

-- a type is an instance of itself
pub Instance-own : (t : HolType) → Instance t t
Instance-own t = ([], substitute-nothing t)

or-nothing : {A : Type 0} (o : Option A) → option_or o None ≡ o
or-nothing None = refl
or-nothing (Some x) = refl

-- a definition of a new name is taken
pub new-constant-taken : (xs : List Symbol) (n : Name) (t : Term) → is_taken_constant xs n ≡ false
    → DefinitionTaken (xs ++ defined (Definition.constant n t) ∷ []) (Definition.constant n t)
new-constant-taken xs n t new a h =
    let unknown = (or_parts (is_some (generic_type xs n)) (list_any (is_input_constant n) xs) new).0 in
    let d = defined (Definition.constant n t) in
    taken.ConstantTaken.instance a
    (generic_type-new xs (d ∷ []) n unknown ∙ or-nothing (defined_type n d) ∙ ap (λ b. cond b (type_of t) None) (name_eq-refl n) ∙ h) (Instance-own a)

pub new-operator-taken : (xs : List Symbol) (names : TypeNames) (c : HolType) (f : Term) → is_taken_operator xs names.operator ≡ false
    → is_taken_constant xs names.abstraction ≡ false → is_taken_constant xs names.representation ≡ false
    → name_eq names.abstraction names.representation ≡ false
    → DefinitionTaken (xs ++ defined (Definition.type_operator names c f) ∷ []) (Definition.type_operator names c f)
new-operator-taken xs names c f new_operator new_abstraction new_representation apart =
    let d = defined (Definition.type_operator names c f) in
    let operator = (or_parts (is_some (operator_arity xs names.operator)) (list_any (is_input_operator_named names.operator) xs) new_operator).0 in
    let abstraction = (or_parts (is_some (generic_type xs names.abstraction)) (list_any (is_input_constant names.abstraction) xs) new_abstraction).0 in
    let representation = (or_parts (is_some (generic_type xs names.representation)) (list_any (is_input_constant names.representation) xs) new_representation).0
    in
    let others : name_eq names.representation names.abstraction ≡ false = symmetric name_eq name_eq-Decides names.abstraction names.representation apart in (
      taken.OperatorTaken.of_arity (operator_arity-new xs (d ∷ []) names.operator operator ∙ or-nothing (defined_arity names.operator d)
          ∙ (rw (name_eq-refl names.operator) refl)),
      taken.ConstantTaken.instance (abstraction_type names c)
          (generic_type-new xs (d ∷ []) names.abstraction abstraction ∙ or-nothing (defined_type names.abstraction d)
          ∙ (rw (name_eq-refl names.abstraction) refl)) (Instance-own (abstraction_type names c)),
      taken.ConstantTaken.instance (representation_type names c)
          (generic_type-new xs (d ∷ []) names.representation representation ∙ or-nothing (defined_type names.representation d)
          ∙ (rw (others, name_eq-refl names.representation) refl)) (Instance-own (representation_type names c)),
    )
