-- The test whether two names are the same.
use Rattle.std.specs.Prelude.{Bool}
use lib.Pointwise.{pointwise}
use Rattle.std.specs.Str.{bytes_eq}
use Rattle.hol_spec.specs.Names.{Name}

-- whether two names have the same components
abbrev pub name_eq : Name → Name → Bool
name_eq = pointwise bytes_eq
