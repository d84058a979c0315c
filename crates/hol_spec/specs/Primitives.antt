-- The primitive type operators and constants.
-- Source: HOL Light's kernel, `the_type_constants` and `the_term_constants`; `ind` and `select` are names of the standard theory of OpenTheory.
use Rattle.std.specs.Prelude.{ℕ, [], ◌∷◌, Option, None, Some, if◌then◌else◌, codes}
use Rattle.hol_spec.specs.Names.{Name}
use Rattle.hol_spec.specs.NameEquality.{name_eq}
use Rattle.hol_spec.specs.Types.{HolType, variable, operator, none, more}

abbrev pub arrow_name : Name
arrow_name = codes "->" ∷ []

abbrev pub bool_name : Name
bool_name = codes "bool" ∷ []

abbrev pub ind_name : Name
ind_name = codes "ind" ∷ []

abbrev pub equality_name : Name
equality_name = codes "=" ∷ []

abbrev pub select_name : Name
select_name = codes "select" ∷ []

-- The type of truth values.
abbrev pub bool : HolType
bool = operator bool_name none

-- The type of functions from one type to another.
abbrev pub function : HolType → HolType → HolType
function a b = operator arrow_name (more a (more b none))

-- The argument's and the result's type, where a type is one of functions.
abbrev pub function_parts : HolType → Option (HolType × HolType)
function_parts (variable n) = None
function_parts (operator n none) = None
function_parts (operator n (more a none)) = None
function_parts (operator n (more a (more b none))) = if name_eq n arrow_name then Some (a, b) else None
function_parts (operator n (more a (more b (more c ts)))) = None

-- How many arguments a primitive operator takes.
abbrev pub primitive_arity : Name → Option ℕ
primitive_arity n =
    if name_eq n arrow_name then Some 2
    else (if name_eq n bool_name then Some 0
    else (if name_eq n ind_name then Some 0
    else None))

-- The types at which equality and choice stand over a type.
abbrev pub equality_type : HolType → HolType
equality_type a = function a (function a bool)

abbrev pub select_type : HolType → HolType
select_type a = function (function a bool) a

-- A type variable, over which a primitive constant is generic.
abbrev pub generic_variable : Name
generic_variable = codes "A" ∷ []

abbrev pub generic : HolType
generic = variable generic_variable

-- The generic type of a primitive constant.
abbrev pub primitive_type : Name → Option HolType
primitive_type n =
    if name_eq n equality_name then Some (equality_type generic)
    else (if name_eq n select_name then Some (select_type generic)
    else None)
