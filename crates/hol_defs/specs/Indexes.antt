-- Where the tables of the symbols have each of them.
use Rattle.std.specs.Prelude.{◌≡◌, ℕ, ◌==◌, List, [], ◌∷◌, length, Bool, ◌&&◌}
use Rattle.std.specs.List.{flat_map, list_any}
use Rattle.hol_spec.specs.Names.{Name}
use Rattle.hol_spec.specs.NameEquality.{name_eq}
use Rattle.hol_spec.specs.Lists.{is_in}
use Rattle.hol_spec.specs.Definitions.{TypeNames}
use Rattle.hol_type.specs.declared.table.TypeId.{TypeId}
use Rattle.hol_defs.specs.declared.entry.Entry.{Entry}
use Rattle.hol_defs.specs.declared.entry.Entry.TheVariants as entry
use Rattle.hol_defs.specs.declared.entry.NewType.{NewType}
use Rattle.hol_defs.specs.Symbols.{Taken, input_constant, input_operator, constant, type_operator}

-- the names of a type operator
abbrev pub names_of : NewType → TypeNames
names_of x = record { operator = x.op; abstraction = x.abs; representation = x.rep; variables = x.names.items }

-- the symbol that an entry keeps
abbrev pub taken_of : Entry → Taken
taken_of (entry.InputConst n) = input_constant n
taken_of (entry.InputOp n k) = input_operator n k
taken_of (entry.Const n t a) = constant n t a
taken_of (entry.TypeOp x) = type_operator (names_of x) x.whole x.predicate x.abs_type x.rep_type

-- the input constants
abbrev pub inputs_in : Taken → List Name
inputs_in (input_constant n) = n ∷ []
inputs_in (input_operator n k) = []
inputs_in (constant n t a) = []
inputs_in (type_operator names c f abs rep) = []

abbrev pub inputs_of : List Taken → List Name
inputs_of taken = flat_map inputs_in taken

-- the defined constants, with their generic types
abbrev pub generics_in : Taken → List (Name × TypeId)
generics_in (input_constant n) = []
generics_in (input_operator n k) = []
generics_in (constant n t a) = (n, a) ∷ []
generics_in (type_operator names c f abs rep) = (names.abstraction, abs) ∷ (names.representation, rep) ∷ []

abbrev pub generics_of : List Taken → List (Name × TypeId)
generics_of taken = flat_map generics_in taken

-- the input operators, each at the numbers of arguments that it was used with
abbrev pub uses_in : Taken → List (Name × ℕ)
uses_in (input_constant n) = []
uses_in (input_operator n k) = (n, k) ∷ []
uses_in (constant n t a) = []
uses_in (type_operator names c f abs rep) = []

abbrev pub uses_of : List Taken → List (Name × ℕ)
uses_of taken = flat_map uses_in taken

-- the defined operators, with their numbers of arguments
abbrev pub arities_in : Taken → List (Name × ℕ)
arities_in (input_constant n) = []
arities_in (input_operator n k) = []
arities_in (constant n t a) = []
arities_in (type_operator names c f abs rep) = (names.operator, length names.variables) ∷ []

abbrev pub arities_of : List Taken → List (Name × ℕ)
arities_of taken = flat_map arities_in taken

-- whether two operators are one, with one number of arguments
abbrev pub same_use : Name × ℕ → Name × ℕ → Bool
same_use u v = name_eq u.0 v.0 && (u.1 == v.1)

-- whether an operator has this name, whatever its number of arguments
abbrev pub is_used : Name → List (Name × ℕ) → Bool
is_used n uses = list_any (λ u. name_eq n u.0) uses

-- the tables have the symbols
pub record IsIndexed (taken : List Taken) (inputs : List Name) (generics : List (Name × TypeId)) (uses : List (Name × ℕ)) (names : List Name)
    (arities : List (Name × ℕ)) : Type 0 where
  pub inputs_are : inputs ≡ inputs_of taken
  pub generics_are : generics ≡ generics_of taken
  pub uses_are : uses ≡ uses_of taken
  pub names_are : (n : Name) → is_in name_eq n names ≡ is_used n (uses_of taken)
  pub arities_are : arities ≡ arities_of taken
