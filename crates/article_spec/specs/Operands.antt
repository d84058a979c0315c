-- The operands of a command: it takes them from the top of the stack, each judged first to be there, then to be of its kind.
-- Source: the OpenTheory article file format, version 6, "Commands".
use Rattle.std.specs.Prelude.{ℕ, ℤ, List, [], ◌∷◌, Result, Ok, Err}
use Rattle.hol_spec.specs.Names.{Name}
use Rattle.hol_spec.specs.Types.{HolType}
use Rattle.hol_spec.specs.Terms.{Term, Variable}
use Rattle.hol_spec.specs.Substitution.{TypePairs}
use Rattle.hol_spec.specs.TermSubstitution.{TermPairs}
use Rattle.hol_spec.specs.DefinitionLists.{ConstantPairs}
use Rattle.common.specs.declared.faults.Kind.{Kind}
use Rattle.common.specs.declared.faults.Kind.TheVariants.{StackShort, WrongKind, EmptyList}
use Rattle.article_spec.specs.State.{Object, Objects, number, name, list, type_operator, type, constant, variable, term, theorem, none, more}
use Rattle.article_spec.specs.Results.{◌>>=◌}

abbrev pub as_number : Object → Result ℤ Kind
as_number (number z) = Ok z
as_number x = Err WrongKind

abbrev pub as_name : Object → Result Name Kind
as_name (name n) = Ok n
as_name x = Err WrongKind

abbrev pub as_list : Object → Result Objects Kind
as_list (list xs) = Ok xs
as_list x = Err WrongKind

abbrev pub as_type_operator : Object → Result Name Kind
as_type_operator (type_operator n) = Ok n
as_type_operator x = Err WrongKind

abbrev pub as_type : Object → Result HolType Kind
as_type (type t) = Ok t
as_type x = Err WrongKind

abbrev pub as_constant : Object → Result Name Kind
as_constant (constant n) = Ok n
as_constant x = Err WrongKind

abbrev pub as_variable : Object → Result Variable Kind
as_variable (variable v) = Ok v
as_variable x = Err WrongKind

abbrev pub as_term : Object → Result Term Kind
as_term (term t) = Ok t
as_term x = Err WrongKind

abbrev pub as_theorem : Object → Result ℕ Kind
as_theorem (theorem i) = Ok i
as_theorem x = Err WrongKind

-- A list whose elements are all of one kind.
abbrev pub each : {A : Type 0} → (Object → Result A Kind) → Objects → Result (List A) Kind
each as_one none = Ok []
each as_one (more x xs) = do
  first ← as_one x
  rest ← each as_one xs
  Ok (first ∷ rest)

-- A list of objects of one kind.
abbrev pub list_of : {A : Type 0} → (Object → Result A Kind) → Object → Result (List A) Kind
list_of as_one x = do
  xs ← as_list x
  each as_one xs

-- A list of two objects, of one kind and another.
abbrev pub pair_of : {A B : Type 0} → (Object → Result A Kind) → (Object → Result B Kind) → Object → Result (A × B) Kind
pair_of as_one as_two (list (more x (more y none))) = do
  first ← as_one x
  second ← as_two y
  Ok (first, second)
pair_of as_one as_two x = Err WrongKind

abbrev pub as_types : Object → Result (List HolType) Kind
as_types x = list_of as_type x

abbrev pub as_terms : Object → Result (List Term) Kind
as_terms x = list_of as_term x

abbrev pub as_names : Object → Result (List Name) Kind
as_names x = list_of as_name x

-- What `subst` puts: pairs of a name and a type, then pairs of a variable and a term.
abbrev pub as_substitution : Object → Result (TypePairs × TermPairs) Kind
as_substitution x = pair_of (list_of (pair_of as_name as_type)) (list_of (pair_of as_variable as_term)) x

-- The constants of a list, each with the variable for which it is put.
abbrev pub as_constant_pairs : Object → Result ConstantPairs Kind
as_constant_pairs x = list_of (pair_of as_name as_variable) x

-- What stands on top, as an object of a kind, and the stack below it.
abbrev pub pop : {A : Type 0} → (Object → Result A Kind) → List Object → Result (A × List Object) Kind
pop as_one [] = Err StackShort
pop as_one (x ∷ below) = do
  top ← as_one x
  Ok (top, below)

abbrev pub any_object : Object → Result Object Kind
any_object x = Ok x

-- The first element of a list, and the rest of it.
abbrev pub head_and_tail : Objects → Result (Object × Objects) Kind
head_and_tail none = Err EmptyList
head_and_tail (more x xs) = Ok (x, xs)
