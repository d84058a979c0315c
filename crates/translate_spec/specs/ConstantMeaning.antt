-- Which symbols of a module stand for which constants: those of the signature for the primitive ones, and the others by their
-- names and types (Assaf and Burel, "Translating HOL to Dedukti", 3).
use Rattle.std.specs.Prelude.{ℕ, ◌≡◌, List, [], ◌∷◌, ◌++◌, suc, zero, nat_eq, replicate, Some, None, codes}
use Rattle.hol_spec.specs.Names.{Name}
use Rattle.hol_spec.specs.Lists.{distinct}
use Rattle.hol_spec.specs.Primitives.{arrow_name, bool_name, equality_name, select_name, primitive_type}
use Rattle.hol_spec.specs.ClosedForm.{ClosedType, ClosedTypes, parameter, operator, none, more}
use Rattle.lp_spec.specs.Trees.{Tree, Var, Pi}
use Rattle.lp_spec.specs.Modules.{Declaration, eq_symbol, select_symbol, symbol_name, symbol_type, products, types, term_of}
use Rattle.hol_spec.specs.Mangling.{mangled, IsName}
use Rattle.translate_spec.specs.TypeEnc.{place, StandsForType}

-- the type of functions from one closed type to another, and that of truth values
abbrev pub closed_function : ClosedType → ClosedType → ClosedType
closed_function a b = operator arrow_name (more a (more b none))

abbrev pub closed_bool : ClosedType
closed_bool = operator bool_name none

-- the generic types of equality and of choice: `a -> a -> bool` and `(a -> bool) -> a`
abbrev pub equality_type : ClosedType
equality_type = closed_function (parameter 0) (closed_function (parameter 0) closed_bool)

abbrev pub choice_type : ClosedType
choice_type = closed_function (closed_function (parameter 0) closed_bool) (parameter 0)

-- the variables at their places, from left to right
abbrev mutual
  pub parameter_places : ClosedType → List ℕ
  parameter_places (parameter i) = i ∷ []
  parameter_places (operator n ts) = parameter_places_of_all ts

  pub parameter_places_of_all : ClosedTypes → List ℕ
  parameter_places_of_all none = []
  parameter_places_of_all (more t ts) = parameter_places t ++ parameter_places_of_all ts

-- so many numbers from one on
abbrev pub numbers : ℕ → ℕ → List ℕ
numbers i zero = []
numbers i (suc k) = i ∷ numbers (suc i) k

-- A symbol is named by this text and the mangled name of a constant that isn't primitive.
pub record NamesConstant (declarations : List Declaration) (s : ℕ) (front : List ℕ) (name : Name) : Type 0 where
  pub is_name : IsName name
  pub not_primitive : primitive_type name ≡ None
  pub text : symbol_name declarations s ≡ front ++ mangled name

-- The type of a symbol is the product over so many types that ends in the terms of a type, which has exactly these variables,
-- in order of first occurrence.
pub record HasGenericType (declarations : List Declaration) (s : ℕ) (variables : ℕ) (generic : ClosedType) : Type 0 where
  pub tree : Tree
  pub ty : symbol_type declarations s ≡ Some (products (replicate variables types) (term_of tree))
  pub stands : StandsForType declarations generic (place variables 0 0 0) tree
  pub in_order : distinct nat_eq (parameter_places generic) ≡ numbers 0 variables

-- A symbol stands for the constant with this name, whose generic type has so many type variables: `i_` begins the name of an
-- input constant, which has every type, and `c_` that of a defined one.
pub data MeansConstant (declarations : List Declaration) (s : ℕ) : Name → ℕ → ClosedType → Type 0 where
  equality : s ≡ eq_symbol → MeansConstant declarations s equality_name 1 equality_type
  choice : s ≡ select_symbol → MeansConstant declarations s select_name 1 choice_type
  input : {name : Name} → NamesConstant declarations s (codes "i_") name → symbol_type declarations s ≡ Some (Pi types (term_of (Var 0)))
      → MeansConstant declarations s name 1 (parameter 0)
  defined : {name : Name} {variables : ℕ} {generic : ClosedType} → NamesConstant declarations s (codes "c_") name
      → HasGenericType declarations s variables generic → MeansConstant declarations s name variables generic

-- the type at a place of a list of arguments
abbrev pub argument : ClosedTypes → ℕ → ClosedType
argument none i = parameter i
argument (more t ts) zero = t
argument (more t ts) (suc i) = argument ts i

-- a generic type with arguments for its variables
abbrev mutual
  pub instance_of : ClosedTypes → ClosedType → ClosedType
  instance_of ts (parameter i) = argument ts i
  instance_of ts (operator n us) = operator n (instances_of ts us)

  pub instances_of : ClosedTypes → ClosedTypes → ClosedTypes
  instances_of ts none = none
  instances_of ts (more u us) = more (instance_of ts u) (instances_of ts us)
