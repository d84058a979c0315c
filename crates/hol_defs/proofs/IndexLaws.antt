-- Where symbols are found, and which symbols these are.
use Rattle.std.proofs.Common.{◌≡◌, ℕ, ◌<◌, refl, ap, sym, ◌∙◌, arith, List, [], ◌∷◌, map, length, get_or, Bool, true, false, cond, Option, None, Some}
use Rattle.std.specs.Prelude.{◌||◌, is_some, slice_get, IfSome}
use Rattle.std.specs.List.{list_any}
use Rattle.std.proofs.lemmas.List.{length-map}
use Rattle.std.proofs.lemmas.Option.{slice_get-get_or, slice_get-map}
use Rattle.std.specs.Map.{lookup}
use Rattle.std.specs.Option.{option_or, option_map}
use Rattle.std.proofs.Math.Path.{ap₂}
use Rattle.hol_spec.specs.Names.{Name}
use Rattle.hol_spec.specs.NameEquality.{name_eq}
use Rattle.hol_spec.specs.Lists.{is_in}
use Rattle.hol_spec.specs.Primitives.{primitive_type, primitive_arity}
use Rattle.hol_spec.specs.Symbols.{Symbol, is_input_constant, is_input_operator, is_input_operator_named, first_defined_type, first_defined_arity, is_taken_constant, is_taken_operator}
use Rattle.hol_type.specs.declared.table.TypeId.{TypeId}
use Rattle.hol_term.specs.Tables.{Trees}
use Rattle.hol_defs.specs.declared.entry.Entry.{Entry}
use Rattle.hol_defs.specs.Generics.{number_at}
use Rattle.hol_defs.specs.Indexes.{taken_of, inputs_of, generics_of, uses_of, arities_of, same_use, is_used}
use Rattle.hol_defs.specs.Kinds.{constant_kind, operator_kind, first_kind}
use Rattle.hol_defs.specs.Symbols.{Taken, symbols_at, AreKnownSymbols}
use Rattle.hol_defs.specs.Symbols as one

pub some-mapped : {A B : Type 0} (f : A → B) (o : Option A) → is_some (option_map f o) ≡ is_some o
some-mapped f None = refl
some-mapped f (Some x) = refl

chosen : {A B : Type 0} (f : A → B) (b : Bool) (x : A) (o : Option A) → option_or (cond b (Some (f x)) None) (option_map f o) ≡ option_map f (cond b (Some x) o)
chosen f true x o = refl
chosen f false x o = refl

chosen_twice : {A B : Type 0} (f : A → B) (b c : Bool) (x y : A) (o : Option A) → option_or (cond b (Some (f x)) (cond c (Some (f y)) None)) (option_map f o)
    ≡ option_map f (cond b (Some x) (cond c (Some y) o))
chosen_twice f true c x y o = refl
chosen_twice f false true x y o = refl
chosen_twice f false false x y o = refl

alone : {A : Type 0} (b : Bool) (x : A) (o : Option A) → option_or (cond b (Some x) None) o ≡ cond b (Some x) o
alone true x o = refl
alone false x o = refl

module _ (trees : Trees) (n : Name) where
  -- input constants are found among the inputs
  pub inputs-found : (xs : List Taken) → list_any (is_input_constant n) (symbols_at trees xs) ≡ is_in name_eq n (inputs_of xs)
  inputs-found [] = refl
  inputs-found (one.input_constant m ∷ xs) = ap (λ b. name_eq n m || b) (inputs-found xs)
  inputs-found (one.input_operator m k ∷ xs) = inputs-found xs
  inputs-found (one.constant m t a ∷ xs) = inputs-found xs
  inputs-found (one.type_operator names c f abs rep ∷ xs) = inputs-found xs

  -- input operators are found among the uses, at their numbers of arguments
  pub uses-found : (k : ℕ) (xs : List Taken) → list_any (is_input_operator n k) (symbols_at trees xs) ≡ is_in same_use (n, k) (uses_of xs)
  uses-found k [] = refl
  uses-found k (one.input_constant m ∷ xs) = uses-found k xs
  uses-found k (one.input_operator m j ∷ xs) = ap (λ b. same_use (n, k) (m, j) || b) (uses-found k xs)
  uses-found k (one.constant m t a ∷ xs) = uses-found k xs
  uses-found k (one.type_operator names c f abs rep ∷ xs) = uses-found k xs

  -- and by their names
  pub names-found : (xs : List Taken) → list_any (is_input_operator_named n) (symbols_at trees xs) ≡ is_used n (uses_of xs)
  names-found [] = refl
  names-found (one.input_constant m ∷ xs) = names-found xs
  names-found (one.input_operator m j ∷ xs) = ap (λ b. name_eq n m || b) (names-found xs)
  names-found (one.constant m t a ∷ xs) = names-found xs
  names-found (one.type_operator names c f abs rep ∷ xs) = names-found xs

  -- defined operators are found among the arities
  pub arities-found : (xs : List Taken) → first_defined_arity n (symbols_at trees xs) ≡ lookup (name_eq n) (arities_of xs)
  arities-found [] = refl
  arities-found (one.input_constant m ∷ xs) = arities-found xs
  arities-found (one.input_operator m j ∷ xs) = arities-found xs
  arities-found (one.constant m t a ∷ xs) = arities-found xs
  arities-found (one.type_operator names c f abs rep ∷ xs) =
      ap (option_or (cond (name_eq n names.operator) (Some (length names.variables)) None)) (arities-found xs)
      ∙ alone (name_eq n names.operator) (length names.variables) (lookup (name_eq n) (arities_of xs))

  known_either : (b : Bool) (a : TypeId) (o : Option TypeId) → a.0 < length trees.types → IfSome o (λ a. a.0 < length trees.types)
      → IfSome (cond b (Some a) o) (λ a. a.0 < length trees.types)
  known_either true a o h k = h
  known_either false a o h k = k

  -- defined constants are found among the generic types, whose numbers are of the table
  pub generics-found : (xs : List Taken) → AreKnownSymbols trees xs → first_defined_type n (symbols_at trees xs)
      ≡ option_map (number_at trees.types) (lookup (name_eq n) (generics_of xs))
  generics-found [] h = refl
  generics-found (one.input_constant m ∷ xs) h = generics-found xs h.1
  generics-found (one.input_operator m j ∷ xs) h = generics-found xs h.1
  generics-found (one.constant m t a ∷ xs) h =
      ap₂ (λ o p. option_or (cond (name_eq n m) o None) p) h.0.typed (generics-found xs h.1)
      ∙ chosen (number_at trees.types) (name_eq n m) a (lookup (name_eq n) (generics_of xs))
  generics-found (one.type_operator names c f abs rep ∷ xs) h =
      ap (option_or (cond (name_eq n names.abstraction) (Some _) (cond (name_eq n names.representation) (Some _) None))) (generics-found xs h.1)
      ∙ ap₂ (λ a b. option_or (cond (name_eq n names.abstraction) (Some a) (cond (name_eq n names.representation) (Some b) None))
      (option_map (number_at trees.types) (lookup (name_eq n) (generics_of xs)))) (sym h.0.constants.from) (sym h.0.constants.to)
      ∙ chosen_twice (number_at trees.types) (name_eq n names.abstraction) (name_eq n names.representation) abs rep (lookup (name_eq n) (generics_of xs))

  -- what is found of a constant has a number of the table
  pub generics-known : (xs : List Taken) → AreKnownSymbols trees xs → IfSome (lookup (name_eq n) (generics_of xs)) (λ a. a.0 < length trees.types)
  generics-known [] h = tt
  generics-known (one.input_constant m ∷ xs) h = generics-known xs h.1
  generics-known (one.input_operator m j ∷ xs) h = generics-known xs h.1
  generics-known (one.constant m t a ∷ xs) h = known_either (name_eq n m) a (lookup (name_eq n) (generics_of xs)) h.0.ty (generics-known xs h.1)
  generics-known (one.type_operator names c f abs rep ∷ xs) h =
      known_either (name_eq n names.abstraction) abs (cond (name_eq n names.representation) (Some rep) (lookup (name_eq n) (generics_of xs)))
      h.0.constants.abstraction
      (known_either (name_eq n names.representation) rep (lookup (name_eq n) (generics_of xs)) h.0.constants.representation (generics-known xs h.1))

pub constant_kind-found : (trees : Trees) (n : Name) (xs : List Taken) → AreKnownSymbols trees xs → constant_kind (symbols_at trees xs) n
    ≡ first_kind (is_some (primitive_type n)) (is_some (lookup (name_eq n) (generics_of xs))) (is_in name_eq n (inputs_of xs))
constant_kind-found trees n xs h =
    ap₂ (first_kind (is_some (primitive_type n))) (ap is_some (generics-found trees n xs h)
    ∙ some-mapped (number_at trees.types) (lookup (name_eq n) (generics_of xs))) (inputs-found trees n xs)

pub operator_kind-found : (trees : Trees) (n : Name) (xs : List Taken) → operator_kind (symbols_at trees xs) n
    ≡ first_kind (is_some (primitive_arity n)) (is_some (lookup (name_eq n) (arities_of xs))) (is_used n (uses_of xs))
operator_kind-found trees n xs = ap₂ (first_kind (is_some (primitive_arity n))) (ap is_some (arities-found trees n xs)) (names-found trees n xs)

taken_by : (p d i : Bool) → is_some (first_kind p d i) ≡ ((p || d) || i)
taken_by true d i = refl
taken_by false true i = refl
taken_by false false true = refl
taken_by false false false = refl

some-either : {A : Type 0} (o p : Option A) → (is_some o || is_some p) ≡ is_some (option_or o p)
some-either None p = refl
some-either (Some x) p = refl

-- a name with a kind is taken
pub constant_kind-taken : (symbols : List Symbol) (n : Name) → is_some (constant_kind symbols n) ≡ is_taken_constant symbols n
constant_kind-taken symbols n =
    taken_by (is_some (primitive_type n)) (is_some (first_defined_type n symbols)) (list_any (is_input_constant n) symbols)
    ∙ ap (λ b. b || list_any (is_input_constant n) symbols) (some-either (primitive_type n) (first_defined_type n symbols))

pub operator_kind-taken : (symbols : List Symbol) (n : Name) → is_some (operator_kind symbols n) ≡ is_taken_operator symbols n
operator_kind-taken symbols n =
    taken_by (is_some (primitive_arity n)) (is_some (first_defined_arity n symbols)) (list_any (is_input_operator_named n) symbols)
    ∙ ap (λ b. b || list_any (is_input_operator_named n) symbols) (some-either (primitive_arity n) (first_defined_arity n symbols))

-- a defined or primitive constant has no other
pub undefined : (trees : Trees) (n : Name) (xs : List Taken) → AreKnownSymbols trees xs → is_taken_constant (symbols_at trees xs) n ≡ false
    → lookup (name_eq n) (generics_of xs) ≡ None
undefined trees n xs h e = none_mapped (number_at trees.types) (lookup (name_eq n) (generics_of xs))
    (sym (generics-found trees n xs h) ∙ second_none (primitive_type n) (first_defined_type n (symbols_at trees xs))
    (list_any (is_input_constant n) (symbols_at trees xs)) e)
  where
    none_mapped : {A B : Type 0} (f : A → B) (o : Option A) → option_map f o ≡ None → o ≡ None
    none_mapped f None e = refl
    none_mapped f (Some x) e = absurd (cc)

    second_none : {A : Type 0} (o p : Option A) (b : Bool) → (is_some (option_or o p) || b) ≡ false → p ≡ None
    second_none None None b e = refl
    second_none None (Some x) b e = absurd (cc)
    second_none (Some x) p b e = absurd (cc)

pub unsettled : (trees : Trees) (n : Name) (xs : List Taken) → is_taken_operator (symbols_at trees xs) n ≡ false → lookup (name_eq n) (arities_of xs) ≡ None
unsettled trees n xs e = sym (arities-found trees n xs) ∙ second_none (primitive_arity n) (first_defined_arity n (symbols_at trees xs))
    (list_any (is_input_operator_named n) (symbols_at trees xs)) e
  where
    second_none : {A : Type 0} (o p : Option A) (b : Bool) → (is_some (option_or o p) || b) ≡ false → p ≡ None
    second_none None None b e = refl
    second_none None (Some x) b e = absurd (cc)
    second_none (Some x) p b e = absurd (cc)

-- the symbol at a place is that of the entry there
pub entry-shown : (entries : List Entry) (now : List Taken) (place : ℕ) (x y : Entry) → map taken_of entries ≡ now → place < length now → x
    ≡ get_or entries place x → x ≡ y → slice_get now place ≡ Some (taken_of y)
entry-shown entries now place x y is inside at e =
    let l : place < length entries = omega (arith, inside, ap length is, length-map entries taken_of) in
    sym (ap (λ l. slice_get l place) is) ∙ slice_get-map taken_of entries place
    ∙ ap (option_map taken_of) (slice_get-get_or entries place x l ∙ ap Some (sym at ∙ e))
