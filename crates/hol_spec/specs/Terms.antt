-- Terms, locally nameless: what a binder binds is a number, counted in binders from within, so that equality of trees is equality up to renaming.
-- Source: HOL Light's kernel, `term` and `type_of`.
use Rattle.std.specs.Prelude.{◌≡◌, ℕ, ◌==◌, List, [], ◌∷◌, ◌++◌, Bool, false, ◌&&◌, if◌then◌else◌, Option, None, Some, IsSome, slice_get}
use Rattle.std.specs.Option.{option_map}
use Rattle.hol_spec.specs.Names.{Name}
use Rattle.hol_spec.specs.NameEquality.{name_eq}
use Rattle.hol_spec.specs.Types.{HolType, type_eq, variable_places}
use Rattle.hol_spec.specs.Primitives.{function, function_parts, equality_name, equality_type}

pub data Term : Type 0 where
  free : Name → HolType → Term
  bound : ℕ → Term
  constant : Name → HolType → Term
  app : Term → Term → Term
  lam : HolType → Term → Term

-- A variable has a name and a type.
abbrev pub Variable : Type 0
Variable = Name × HolType

abbrev pub variable_eq : Variable → Variable → Bool
variable_eq v w = name_eq v.0 w.0 && type_eq v.1 w.1

-- Whether two terms are one. That it decides equality is `term_eq-Decides`.
abbrev pub term_eq : Term → Term → Bool
term_eq (free m t) (free n u) = name_eq m n && type_eq t u
term_eq (bound j) (bound k) = j == k
term_eq (constant m t) (constant n u) = name_eq m n && type_eq t u
term_eq (app f x) (app g y) = term_eq f g && term_eq x y
term_eq (lam t b) (lam u c) = type_eq t u && term_eq b c
term_eq t u = false

-- The type of an application, from those of its parts.
abbrev pub result_type : Option (HolType × HolType) → HolType → Option HolType
result_type None x = None
result_type (Some parts) x = if type_eq parts.0 x then Some parts.1 else None

abbrev pub application_type : Option HolType → Option HolType → Option HolType
application_type None x = None
application_type (Some f) None = None
application_type (Some f) (Some x) = result_type (function_parts f) x

-- The type of a term under binders of these types, the innermost first. There is none where the term isn't well typed.
abbrev pub type_under : List HolType → Term → Option HolType
type_under binders (free n t) = Some t
type_under binders (bound k) = slice_get binders k
type_under binders (constant n t) = Some t
type_under binders (app f x) = application_type (type_under binders f) (type_under binders x)
type_under binders (lam t b) = option_map (function t) (type_under (t ∷ binders) b)

-- The type of a term. It has one exactly where it is well typed and no bound number is loose.
abbrev pub type_of : Term → Option HolType
type_of t = type_under [] t

abbrev pub IsTerm : Term → Type 0
IsTerm t = IsSome (type_of t)

abbrev pub HasType : Term → HolType → Type 0
HasType t a = type_of t ≡ Some a

-- The equation of two terms of a type.
abbrev pub equation : HolType → Term → Term → Term
equation a t u = app (app (constant equality_name (equality_type a)) t) u

-- The type variables at their places, from left to right, a binder's type before its body.
abbrev pub type_variable_places : Term → List Name
type_variable_places (free n t) = variable_places t
type_variable_places (bound k) = []
type_variable_places (constant n t) = variable_places t
type_variable_places (app f x) = type_variable_places f ++ type_variable_places x
type_variable_places (lam t b) = variable_places t ++ type_variable_places b

-- The free variables at their places, from left to right.
abbrev pub free_places : Term → List Variable
free_places (free n t) = (n, t) ∷ []
free_places (bound k) = []
free_places (constant n t) = []
free_places (app f x) = free_places f ++ free_places x
free_places (lam t b) = free_places b
