-- What is said of the generic type of a constant.
-- Source: HOL Light's kernel, `get_const_type` and `the_term_constants`.
use Rattle.std.specs.Prelude.{◌≡◌, ◌<◌, List, length}
use Rattle.hol_spec.specs.Types.{HolType}
use Rattle.hol_spec.specs.Primitives.{generic, equality_type, select_type}
use Rattle.hol_type.specs.declared.table.TypeId.{TypeId}
use Rattle.hol_type.specs.Tables.{tree_at}
use Rattle.hol_defs.specs.declared.Generic.{Generic}
use Rattle.hol_defs.specs.declared.Generic.TheVariants.{Eq, Select, Defined}
use Rattle.hol_defs.specs.declared.primitive.Primitive.{Primitive}
use Rattle.hol_defs.specs.declared.primitive.Primitive.TheVariants.{Equality, Choice}

-- the generic type of a primitive constant
abbrev pub generic_of : Primitive → HolType
generic_of Equality = equality_type generic
generic_of Choice = select_type generic

-- the type is that of equality, or of choice, over some type
abbrev pub IsEqualityType : HolType → Type 0
IsEqualityType t = (a : HolType) × (t ≡ equality_type a)

abbrev pub IsSelectType : HolType → Type 0
IsSelectType t = (a : HolType) × (t ≡ select_type a)

-- the type of a number among these
abbrev pub number_at : List HolType → TypeId → HolType
number_at types id = tree_at types id.0

-- the generic type that an answer tells: that of equality, that of choice, or one with a number among these types
abbrev pub generic_at : List HolType → Generic → HolType
generic_at types Eq = equality_type generic
generic_at types Select = select_type generic
generic_at types (Defined id) = number_at types id

-- its number is of the table
abbrev pub IsGenericKnown : List HolType → Generic → Type 0
IsGenericKnown types Eq = Unit {0}
IsGenericKnown types Select = Unit {0}
IsGenericKnown types (Defined id) = id.0 < length types
