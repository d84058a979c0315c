-- Type substitution: every variable is replaced at once by what the first pair of its name gives.
-- Source: HOL Light's kernel, `type_subst`.
use Rattle.std.specs.Prelude.{◌≡◌, List, Bool, ◌++◌, [], ◌∷◌, map}
use Rattle.std.specs.Option.{unwrap_or}
use Rattle.std.specs.Map.{lookup}
use Rattle.hol_spec.specs.Names.{Name}
use Rattle.hol_spec.specs.NameEquality.{name_eq}
use Rattle.hol_spec.specs.Types.{HolType, HolTypes, variable, operator, none, more, type_eq, type_variables}

abbrev pub TypePairs : Type 0
TypePairs = List (Name × HolType)

-- What stands for a variable: itself, where no pair has its name.
abbrev pub image : TypePairs → Name → HolType
image pairs n = unwrap_or (lookup (name_eq n) pairs) (variable n)

abbrev mutual
  pub substitute : TypePairs → HolType → HolType
  substitute pairs (variable n) = image pairs n
  substitute pairs (operator n ts) = operator n (substitute_all pairs ts)

  pub substitute_all : TypePairs → HolTypes → HolTypes
  substitute_all pairs none = none
  substitute_all pairs (more t ts) = more (substitute pairs t) (substitute_all pairs ts)

-- What stands in a type at the places where a general one has its variables.
abbrev mutual
  pub read_off : HolType → HolType → TypePairs
  read_off (variable n) t = (n, t) ∷ []
  read_off (operator m ts) (variable n) = []
  read_off (operator m ts) (operator n us) = read_off_all ts us

  pub read_off_all : HolTypes → HolTypes → TypePairs
  read_off_all none us = []
  read_off_all (more t ts) none = []
  read_off_all (more t ts) (more u us) = read_off t u ++ read_off_all ts us

-- Whether a type is an instance of a general one: what is read off gives it back.
-- That it decides whether any substitution gives the type is `is_instance-Decides`.
abbrev pub is_instance : HolType → HolType → Bool
is_instance general t = type_eq (substitute (read_off general t) general) t

-- The type that some substitution makes of the general one.
abbrev pub Instance : HolType → HolType → Type 0
Instance general t = (pairs : TypePairs) × (substitute pairs general ≡ t)

-- What the type variables of a generic type, in order of first occurrence, have in an instance of it.
abbrev pub type_arguments : HolType → HolType → List HolType
type_arguments generic t = map (image (read_off generic t)) (type_variables generic)
