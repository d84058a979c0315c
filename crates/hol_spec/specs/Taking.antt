-- When a symbol may be taken: no name is taken twice, and a definition is one.
-- Source: HOL Light's kernel, `new_constant`, `new_type`, `new_basic_definition`, `new_basic_type_definition`.
use Rattle.std.specs.Prelude.{◌≡◌, ℕ, List, false, is_some, IsTrue}
use Rattle.std.specs.List.{list_any}
use Rattle.hol_spec.specs.Names.{Name}
use Rattle.hol_spec.specs.NameEquality.{name_eq}
use Rattle.hol_spec.specs.Types.{HolType}
use Rattle.hol_spec.specs.Primitives.{bool, function}
use Rattle.hol_spec.specs.Terms.{Term, HasType}
use Rattle.hol_spec.specs.Definitions.{Definition, TypeNames}
use Rattle.hol_spec.specs.Defining.{is_closed}
use Rattle.hol_spec.specs.TypeDefinitions.{are_type_variables_of}
use Rattle.hol_spec.specs.Rules.{IsDefining}
use Rattle.hol_spec.specs.Symbols.{Symbol, operator_arity, is_input_operator, is_taken_constant, is_taken_operator}

-- Names of a type definition of which none is taken, nor the constants' one name.
pub record AreNew (symbols : List Symbol) (names : TypeNames) : Type 0 where
  pub operator : is_taken_operator symbols names.operator ≡ false
  pub abstraction : is_taken_constant symbols names.abstraction ≡ false
  pub representation : is_taken_constant symbols names.representation ≡ false
  pub apart : name_eq names.abstraction names.representation ≡ false

pub data Takes (symbols : List Symbol) : Symbol → Type 0 where
  -- an input constant, at any type
  input_constant : {n : Name} → is_taken_constant symbols n ≡ false → Takes symbols (Symbol.input_constant n)
  -- an input operator, one for each arity
  input_operator : {n : Name} {k : ℕ} → is_some (operator_arity symbols n) ≡ false → list_any (is_input_operator n k) symbols ≡ false
      → Takes symbols (Symbol.input_operator n k)
  -- a constant by its term
  constant : {n : Name} {a : HolType} {t : Term} → is_taken_constant symbols n ≡ false → IsDefining a t
      → Takes symbols (Symbol.defined (Definition.constant n t))
  -- an operator by its predicate
  type_operator : {names : TypeNames} {c : HolType} {f : Term} → AreNew symbols names → HasType f (function c bool) → IsTrue (is_closed f)
      → IsTrue (are_type_variables_of names.variables f) → Takes symbols (Symbol.defined (Definition.type_operator names c f))
