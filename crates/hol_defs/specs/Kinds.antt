-- How a name is taken: as primitive, as an input or as defined, as a constant and as an operator by itself.
-- Source: HOL Light's kernel, `get_const_type` and `get_type_arity`; OpenTheory article file format, version 6, `constTerm` and `opType`.
use Rattle.std.specs.Prelude.{List, Bool, Option, None, Some, is_some, if◌then◌else◌}
use Rattle.std.specs.List.{list_any}
use Rattle.hol_spec.specs.Names.{Name}
use Rattle.hol_spec.specs.Primitives.{primitive_arity, primitive_type}
use Rattle.hol_spec.specs.Symbols.{Symbol, first_defined_type, first_defined_arity, is_input_constant, is_input_operator_named}
use Rattle.hol_defs.specs.declared.SymbolKind.{SymbolKind}
use Rattle.hol_defs.specs.declared.SymbolKind.TheVariants.{Primitive, Input, Defined}

-- how a name is taken that is primitive, or else defined, or else an input
abbrev pub first_kind : Bool → Bool → Bool → Option SymbolKind
first_kind primitive defined input = if primitive then Some Primitive else (if defined then Some Defined else (if input then Some Input else None))

-- how a name is taken as a constant, if it is
abbrev pub constant_kind : List Symbol → Name → Option SymbolKind
constant_kind symbols n = first_kind (is_some (primitive_type n)) (is_some (first_defined_type n symbols)) (list_any (is_input_constant n) symbols)

-- how a name is taken as an operator, if it is
abbrev pub operator_kind : List Symbol → Name → Option SymbolKind
operator_kind symbols n = first_kind (is_some (primitive_arity n)) (is_some (first_defined_arity n symbols)) (list_any (is_input_operator_named n) symbols)
