-- Types: a variable with a name, or an operator with a name and a list of arguments.
-- Source: HOL Light's kernel, `hol_type`; Assaf and Burel, "Translating HOL to Dedukti".
use Rattle.std.specs.Prelude.{ℕ, ◌+◌, List, [], ◌∷◌, ◌++◌, Bool, true, false, ◌&&◌}
use Rattle.hol_spec.specs.Names.{Name}
use Rattle.hol_spec.specs.NameEquality.{name_eq}
use Rattle.hol_spec.specs.Lists.{distinct}

mutual
  pub data HolType : Type 0 where
    variable : Name → HolType
    operator : Name → HolTypes → HolType

  pub data HolTypes : Type 0 where
    none : HolTypes
    more : HolType → HolTypes → HolTypes

-- The arguments as a list, and a list as arguments.
abbrev pub listed : HolTypes → List HolType
listed none = []
listed (more t ts) = t ∷ listed ts

abbrev pub types_of : List HolType → HolTypes
types_of [] = none
types_of (t ∷ ts) = more t (types_of ts)

abbrev pub count : HolTypes → ℕ
count none = 0
count (more t ts) = count ts + 1

-- Whether two types are one. That it decides equality is `type_eq-Decides`.
abbrev mutual
  pub type_eq : HolType → HolType → Bool
  type_eq (variable m) (variable n) = name_eq m n
  type_eq (operator m ts) (operator n us) = name_eq m n && types_eq ts us
  type_eq (variable m) (operator n us) = false
  type_eq (operator m ts) (variable n) = false

  pub types_eq : HolTypes → HolTypes → Bool
  types_eq none none = true
  types_eq (more t ts) (more u us) = type_eq t u && types_eq ts us
  types_eq none (more u us) = false
  types_eq (more t ts) none = false

-- The variables at their places, from left to right.
abbrev mutual
  pub variable_places : HolType → List Name
  variable_places (variable n) = n ∷ []
  variable_places (operator n ts) = variable_places_of_all ts

  pub variable_places_of_all : HolTypes → List Name
  variable_places_of_all none = []
  variable_places_of_all (more t ts) = variable_places t ++ variable_places_of_all ts

-- The variables in order of first occurrence.
abbrev pub type_variables : HolType → List Name
type_variables t = distinct name_eq (variable_places t)
