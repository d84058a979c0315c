-- Symbols: the constants and type operators that are taken beside the primitive ones. A name that is neither primitive nor defined is an input, taken where it is first used.
-- Source: HOL Light's kernel, `get_const_type` and `get_type_arity`; OpenTheory article file format, version 6, `constTerm` and `opType`.
use Rattle.std.specs.Prelude.{ℕ, ◌==◌, List, [], ◌∷◌, Bool, false, ◌&&◌, ◌||◌, is_some, if◌then◌else◌, length, Option, None, Some}
use Rattle.std.specs.Option.{option_or}
use Rattle.std.specs.List.{list_any}
use Rattle.hol_spec.specs.Names.{Name}
use Rattle.hol_spec.specs.NameEquality.{name_eq}
use Rattle.hol_spec.specs.Types.{HolType}
use Rattle.hol_spec.specs.Terms.{type_of}
use Rattle.hol_spec.specs.Primitives.{primitive_arity, primitive_type}
use Rattle.hol_spec.specs.Definitions.{Definition}
use Rattle.hol_spec.specs.NewTypes.{abstraction_type, representation_type}

pub data Symbol : Type 0 where
  input_constant : Name → Symbol
  input_operator : Name → ℕ → Symbol
  defined : Definition → Symbol

-- The generic type of a constant that a symbol defines.
abbrev pub defined_type : Name → Symbol → Option HolType
defined_type n (input_constant m) = None
defined_type n (input_operator m k) = None
defined_type n (defined (Definition.constant m t)) = if name_eq n m then type_of t else None
defined_type n (defined (Definition.type_operator names c f)) =
    if name_eq n names.abstraction then Some (abstraction_type names c)
    else if name_eq n names.representation then Some (representation_type names c)
    else None

-- How many arguments an operator takes that a symbol defines.
abbrev pub defined_arity : Name → Symbol → Option ℕ
defined_arity n (input_constant m) = None
defined_arity n (input_operator m k) = None
defined_arity n (defined (Definition.constant m t)) = None
defined_arity n (defined (Definition.type_operator names c f)) = if name_eq n names.operator then Some (length names.variables) else None

abbrev pub first_defined_type : Name → List Symbol → Option HolType
first_defined_type n [] = None
first_defined_type n (x ∷ xs) = option_or (defined_type n x) (first_defined_type n xs)

abbrev pub first_defined_arity : Name → List Symbol → Option ℕ
first_defined_arity n [] = None
first_defined_arity n (x ∷ xs) = option_or (defined_arity n x) (first_defined_arity n xs)

-- The generic type of a primitive or defined constant.
abbrev pub generic_type : List Symbol → Name → Option HolType
generic_type symbols n = option_or (primitive_type n) (first_defined_type n symbols)

-- How many arguments a primitive or defined operator takes.
abbrev pub operator_arity : List Symbol → Name → Option ℕ
operator_arity symbols n = option_or (primitive_arity n) (first_defined_arity n symbols)

-- Whether a symbol is this input.
abbrev pub is_input_constant : Name → Symbol → Bool
is_input_constant n (input_constant m) = name_eq n m
is_input_constant n (input_operator m k) = false
is_input_constant n (defined d) = false

abbrev pub is_input_operator : Name → ℕ → Symbol → Bool
is_input_operator n k (input_constant m) = false
is_input_operator n k (input_operator m j) = name_eq n m && (k == j)
is_input_operator n k (defined d) = false

-- Whether a symbol is an input operator of this name, at any arity.
abbrev pub is_input_operator_named : Name → Symbol → Bool
is_input_operator_named n (input_constant m) = false
is_input_operator_named n (input_operator m j) = name_eq n m
is_input_operator_named n (defined d) = false

-- Whether a name is taken as a constant, and as an operator: it is primitive, defined or an input.
abbrev pub is_taken_constant : List Symbol → Name → Bool
is_taken_constant symbols n = is_some (generic_type symbols n) || list_any (is_input_constant n) symbols

abbrev pub is_taken_operator : List Symbol → Name → Bool
is_taken_operator symbols n = is_some (operator_arity symbols n) || list_any (is_input_operator_named n) symbols

-- The symbols that the use of a constant, or of an operator with k arguments, newly takes.
abbrev pub new_constant : List Symbol → Name → List Symbol
new_constant symbols n = if is_taken_constant symbols n then [] else input_constant n ∷ []

abbrev pub new_operator : List Symbol → Name → ℕ → List Symbol
new_operator symbols n k = if is_some (operator_arity symbols n) || list_any (is_input_operator n k) symbols then [] else input_operator n k ∷ []
