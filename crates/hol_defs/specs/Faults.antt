-- What is judged of a definition, in order: the first condition that fails names the refusal.
-- Source: the OpenTheory article file format, version 6, `defineConst`, `defineConstList` and `defineTypeOp`; HOL Light's kernel, `new_basic_definition` and `new_basic_type_definition`.
use Rattle.std.specs.Prelude.{◌≡◌, ℕ, List, length, [], ◌∷◌, Bool, not, ◌||◌, if◌then◌else◌, nat_le, Option, None, Some, unwrap_or}
use Rattle.std.specs.List.{list_all, list_any}
use Rattle.hol_spec.specs.Names.{Name}
use Rattle.hol_spec.specs.NameEquality.{name_eq}
use Rattle.hol_spec.specs.Types.{HolType}
use Rattle.hol_spec.specs.Primitives.{bool}
use Rattle.hol_spec.specs.Terms.{Term, type_of}
use Rattle.hol_spec.specs.Limits.{greatest_size, greatest_depth, type_size, type_depth}
use Rattle.hol_spec.specs.Sequents.{Sequent}
use Rattle.hol_spec.specs.Definitions.{TypeNames}
use Rattle.hol_spec.specs.Defining.{is_closed, has_type_variables_of}
use Rattle.hol_spec.specs.DefinitionLists.{ConstantPairs, names_of, defining_equations, is_definition_list}
use Rattle.hol_spec.specs.NewTypes.{new_type, abstraction_type, representation_type}
use Rattle.hol_spec.specs.TypeDefinitions.{are_type_variables_of}
use Rattle.hol_spec.specs.Symbols.{Symbol, is_taken_constant, is_taken_operator}
use Rattle.hol_type.specs.declared.table.TypeId.{TypeId}
use Rattle.hol_type.specs.Tables.{tree_at}
use Rattle.common.specs.declared.faults.Fault.{Fault}
use Rattle.common.specs.declared.faults.Fault.TheVariants.{Refused, Memory}
use Rattle.common.specs.declared.faults.Kind.{Kind}
use Rattle.common.specs.declared.faults.Kind.TheVariants.{NameTaken, NotClosed, ExtraTypeVars, BadDefinitionList, BadTypeVars, TooLarge, TooDeep}

-- the kind of the first condition that fails, if one does
abbrev pub first_failing : List (Bool × Kind) → Option Kind
first_failing [] = None
first_failing (c ∷ cs) = if c.0 then first_failing cs else Some c.1

-- whether the type of a term has each of its type variables
abbrev pub has_own_variables : Term → Bool
has_own_variables t = has_type_variables_of (unwrap_or (type_of t) bool) t

-- a constant of this name that stands for a term: the name isn't taken, the term is closed, and its type has each of its type variables
abbrev pub constant_fault : List Symbol → Name → Term → Option Kind
constant_fault symbols n t = first_failing
    ((not (is_taken_constant symbols n), NameTaken) ∷ (is_closed t, NotClosed) ∷ (has_own_variables t, ExtraTypeVars) ∷ [])

-- whether none of the names is taken, and the two constants have two names
abbrev pub are_new : List Symbol → TypeNames → Bool
are_new symbols names =
    not (is_taken_operator symbols names.operator || is_taken_constant symbols names.abstraction || is_taken_constant symbols names.representation
    || name_eq names.abstraction names.representation)

-- an operator with its two constants, by a predicate: the names are new, the predicate is closed, and the operator's variables are those of the predicate, each once
abbrev pub operator_fault : List Symbol → TypeNames → Term → Option Kind
operator_fault symbols names f = first_failing
    ((are_new symbols names, NameTaken) ∷ (is_closed f, NotClosed) ∷ (are_type_variables_of names.variables f, BadTypeVars) ∷ [])

-- the limits on types that are made at once: every size is judged before any depth
abbrev pub limit_fault : List HolType → Option Kind
limit_fault types = first_failing
    ((list_all (λ t. nat_le (type_size t) greatest_size) types, TooLarge) ∷ (list_all (λ t. nat_le (type_depth t) greatest_depth) types, TooDeep) ∷ [])

-- the types that a type definition makes
abbrev pub types_made : TypeNames → HolType → List HolType
types_made names c = new_type names ∷ abstraction_type names c ∷ representation_type names c ∷ []

-- constants that the hypotheses of a sequent define: no name is taken, each defining term is closed, its variable's type has each of its type variables, and the list is one of definitions
abbrev pub list_fault : List Symbol → ConstantPairs → Sequent → Option Kind
list_fault symbols pairs one =
    first_failing
    ((not (list_any (is_taken_constant symbols) (names_of pairs)), NameTaken) ∷
    (list_all (λ e. is_closed e.1) (defining_equations pairs one.hypotheses), NotClosed)
    ∷ (list_all (λ e. has_type_variables_of e.0.1 e.1) (defining_equations pairs one.hypotheses), ExtraTypeVars) ∷
    (is_definition_list pairs one, BadDefinitionList) ∷ [])

-- a fault of a call that judges: the kind of the first condition that fails, or memory ran out
abbrev pub Refuses : Fault → Option Kind → Type 0
Refuses (Refused kind) judged = judged ≡ Some kind
Refuses Memory judged = Unit {0}

-- the limits refuse what a definition makes, with whatever names of so many variables
abbrev pub RefusesMade : List HolType → ℕ → TypeId → Fault → Type 0
RefusesMade types count whole fault =
    (names : TypeNames) → length names.variables ≡ count → Refuses fault (limit_fault (types_made names (tree_at types whole.0)))
