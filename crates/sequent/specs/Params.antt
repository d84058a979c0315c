-- Parameters by name and number.
use Rattle.std.specs.Prelude.{◌==◌, Bool, ◌&&◌}
use Rattle.hol_spec.specs.Names.{Name}
use Rattle.hol_spec.specs.NameEquality.{name_eq}
use Rattle.hol_type.specs.declared.table.TypeId.{TypeId}
use Rattle.hol_term.specs.declared.Variable.{Variable}

-- whether two variables are one: they have one name, and one number of a type
abbrev pub same_variable : Variable → Variable → Bool
same_variable v w = name_eq v.name w.name && (v.ty.0 == w.ty.0)

-- whether a variable has this name and this number of a type
abbrev pub is_variable : Name → TypeId → Variable → Bool
is_variable n ty v = name_eq n v.name && (ty.0 == v.ty.0)
