-- The type that a type definition makes, and the types of the constants between it and the type c that it is a part of.
-- Source: HOL Light's kernel, `new_basic_type_definition`.
use Rattle.std.specs.Prelude.{map}
use Rattle.hol_spec.specs.Types.{HolType, variable, operator, types_of}
use Rattle.hol_spec.specs.Primitives.{function}
use Rattle.hol_spec.specs.Definitions.{TypeNames}

-- The operator applied to its type variables.
abbrev pub new_type : TypeNames → HolType
new_type names = operator names.operator (types_of (map variable names.variables))

abbrev pub abstraction_type : TypeNames → HolType → HolType
abstraction_type names c = function c (new_type names)

abbrev pub representation_type : TypeNames → HolType → HolType
representation_type names c = function (new_type names) c
