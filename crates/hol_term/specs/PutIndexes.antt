-- The pairs of a substitution, made ready to be put.
use Rattle.std.specs.Prelude.{◌≡◌, ◌<◌, ◌==◌, Bool, ◌&&◌, List, length}
use Rattle.std.specs.Map.{lookup}
use Rattle.hol_spec.specs.NameEquality.{name_eq}
use Rattle.hol_term.specs.declared.TermId.{TermId}
use Rattle.hol_term.specs.declared.Variable.{Variable}
use Rattle.hol_term.specs.declared.pairs.PutIndex.{PutIndex}
use Rattle.hol_term.specs.Masks.{with_pairs}

-- whether two variables are one: they have one name, and one number of a type
abbrev pub same_variable : Variable → Variable → Bool
same_variable v w = name_eq v.name w.name && (v.ty.0 == w.ty.0)

-- the index has the bits of the pairs' variables, and where there are more than eight pairs, for each variable what its first pair puts
pub record IsIndexOf (index : PutIndex) (pairs : List (Variable × TermId)) : Type 0 where
  pub mask : index.mask ≡ with_pairs 0 pairs
  pub firsts : 8 < length pairs → (v : Variable) → lookup (same_variable v) index.firsts ≡ lookup (same_variable v) pairs
