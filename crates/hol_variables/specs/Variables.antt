-- Variables by number: a type variable by that of its type, a free variable by that of its term.
use Rattle.std.specs.Prelude.{◌≡◌, ℕ, ◌+◌, List, [], map, length}
use Rattle.std.specs.List.{AllByRecursion}
use Rattle.hol_spec.specs.Names.{Name}
use Rattle.hol_spec.specs.NameEquality.{name_eq}
use Rattle.hol_spec.specs.Lists.{distinct}
use Rattle.hol_spec.specs.Types.{HolType, variable, operator}
use Rattle.hol_spec.specs.Terms.{Term, free, bound, constant, app, lam, Variable as AVariable, variable_eq, type_variable_places, free_places}
use Rattle.hol_type.specs.Tables.{tree_at, Holds as HoldsType}
use Rattle.hol_term.specs.declared.Variable.{Variable}
use Rattle.hol_term.specs.Tables.{Trees, term_at, type_at, Holds}

-- a variable of the table, as one of trees
abbrev pub variable_view : Trees → Variable → AVariable
variable_view trees v = (v.name, type_at trees v.ty.0)

-- the name of a type variable; no name for another type
abbrev pub name_of : HolType → Name
name_of (variable n) = n
name_of (operator n ts) = []

-- the name of the type variable with a number
abbrev pub name_at : List HolType → ℕ → Name
name_at types i = name_of (tree_at types i)

-- the number is of a type variable
pub record IsNameAt (types : List HolType) (i : ℕ) : Type 0 where
  pub name : Name
  pub is : HoldsType types i (variable name)

-- the numbers are those of the type variables at these places, each where it occurs first
pub record AreNames (types : List HolType) (places : List Name) (ids : List ℕ) : Type 0 where
  pub each : AllByRecursion (IsNameAt types) ids
  pub are : map (name_at types) ids ≡ distinct name_eq places

-- the variable that a term is; a variable without a name for another term
abbrev pub variable_of : Term → AVariable
variable_of (free n t) = (n, t)
variable_of (bound k) = ([], variable [])
variable_of (constant n t) = ([], variable [])
variable_of (app f x) = ([], variable [])
variable_of (lam t b) = ([], variable [])

-- the free variable with a number
abbrev pub variable_at : Trees → ℕ → AVariable
variable_at trees i = variable_of (term_at trees i)

-- the number is of a free variable
pub record IsVariableAt (trees : Trees) (i : ℕ) : Type 0 where
  pub name : Name
  pub ty : HolType
  pub is : Holds trees i (free name ty)

-- the numbers are those of the free variables at these places, each where it occurs first
pub record AreVariables (trees : Trees) (places : List AVariable) (ids : List ℕ) : Type 0 where
  pub each : AllByRecursion (IsVariableAt trees) ids
  pub are : map (variable_at trees) ids ≡ distinct variable_eq places

-- how many type variables and free variables a term has
abbrev pub variable_count : Term → ℕ
variable_count t = length (distinct name_eq (type_variable_places t)) + length (distinct variable_eq (free_places t))
