-- The closed sequent that a type of a module stands for, where it stands for one.
use Rattle.std.specs.Prelude.{ℕ, suc, ◌-◌, nat_lt, nat_eq, List, [], ◌∷◌, ◌++◌, length, replicate, Bool, true, false, not, ◌&&◌, Option, None, Some, codes}
use Rattle.std.specs.Option.{option_map}
use lib.Pointwise.{pointwise}
use Rattle.hol_spec.specs.Names.{Name}
use Rattle.hol_spec.specs.Lists.{distinct}
use Rattle.hol_spec.specs.Primitives.{arrow_name, bool_name, ind_name, equality_name, select_name, primitive_arity, primitive_type}
use Rattle.hol_spec.specs.ClosedForm.{ClosedType, ClosedTypes, ClosedTerm, ClosedSequent}
use Rattle.lp_spec.specs.Trees.{Tree, SortType, SortKind, Var, Sym, App, Lam, Pi, tree_eq}
use Rattle.lp_spec.specs.Modules.{Declaration, type_symbol, arr_symbol, bool_symbol, ind_symbol, eq_symbol, select_symbol, term_symbol, proof_symbol, symbol_name, symbol_type, products, types, term_of}
use Rattle.lp_spec.specs.Numerals.{numeral}
use Rattle.translate_spec.specs.TypeEnc.{Place, place, depth_of, inside}
use Rattle.translate_spec.specs.ConstantMeaning.{equality_type, choice_type, parameter_places, numbers, instance_of}
use Rattle.decode_spec.specs.Options.{bind, both, or_else, provided}
use Rattle.decode_spec.specs.Demangled.{demangled}
use Rattle.decode_spec.specs.Opened.{own_name}
use Rattle.decode_spec.specs.ClosedFormTest.{is_closed_form}

-- what stands behind a front of a text
abbrev pub behind : List ℕ → List ℕ → Option (List ℕ)
behind [] text = Some text
behind (a ∷ front) [] = None
behind (a ∷ front) (b ∷ text) = provided (nat_eq a b) (behind front text)

-- the name behind a front of a symbol's name
abbrev pub name_behind : List Declaration → ℕ → List ℕ → Option Name
name_behind declarations s front = bind (behind front (symbol_name declarations s)) demangled

-- whether the type of a symbol is this tree
abbrev pub has_type : Option Tree → Tree → Bool
has_type None A = false
has_type (Some B) A = tree_eq B A

abbrev pub is_lacking : {A : Type 0} → Option A → Bool
is_lacking None = true
is_lacking (Some x) = false

-- the operator that a symbol stands for, at so many arguments
abbrev pub named_operator : List Declaration → ℕ → List ℕ → ℕ → Option Name
named_operator declarations s front arity =
    bind (name_behind declarations s front) (λ name.
    provided (is_lacking (primitive_arity name) && has_type (symbol_type declarations s) (products (replicate arity types) types)) (Some name))

abbrev pub primitive_operator : ℕ → ℕ → Option Name
primitive_operator s k =
    or_else (provided (nat_eq s arr_symbol && nat_eq k 2) (Some arrow_name))
    (or_else (provided (nat_eq s bool_symbol && nat_eq k 0) (Some bool_name))
    (provided (nat_eq s ind_symbol && nat_eq k 0) (Some ind_name)))

abbrev pub operator_at : List Declaration → ℕ → ℕ → Option Name
operator_at declarations s k =
    or_else (primitive_operator s k)
    (or_else (named_operator declarations s (codes "t" ++ numeral k ++ codes "_") k) (named_operator declarations s (codes "o_") k))

abbrev pub closed_count : ClosedTypes → ℕ
closed_count ClosedTypes.none = 0
closed_count (ClosedTypes.more t ts) = suc (closed_count ts)

-- the type variable that a variable stands for
abbrev pub type_parameter : Place → ℕ → Option ClosedType
type_parameter at v =
    provided (nat_lt v (depth_of at) && nat_lt (depth_of at - suc v) at.type_variables) (Some (ClosedType.parameter (depth_of at - suc v)))

-- the type that a tree stands for, applied to these arguments
abbrev pub type_from : List Declaration → Place → Tree → ClosedTypes → Option ClosedType
type_from declarations at SortType args = None
type_from declarations at SortKind args = None
type_from declarations at (Var v) ClosedTypes.none = type_parameter at v
type_from declarations at (Var v) (ClosedTypes.more t ts) = None
type_from declarations at (Sym s) args = option_map (λ n. ClosedType.operator n args) (operator_at declarations s (closed_count args))
type_from declarations at (App f x) args = bind (type_from declarations at x ClosedTypes.none) (λ t. type_from declarations at f (ClosedTypes.more t args))
type_from declarations at (Lam a b) args = None
type_from declarations at (Pi a b) args = None

abbrev pub type_of_tree : List Declaration → Place → Tree → Option ClosedType
type_of_tree declarations at A = type_from declarations at A ClosedTypes.none

-- the tree in `term A`, and in `proof A`
abbrev pub symbol_argument : ℕ → Tree → Option Tree
symbol_argument s (App (Sym r) a) = provided (nat_eq r s) (Some a)
symbol_argument s A = None

abbrev pub term_part : Tree → Option Tree
term_part A = symbol_argument term_symbol A

abbrev pub proof_part : Tree → Option Tree
proof_part A = symbol_argument proof_symbol A

abbrev pub is_types : Tree → Bool
is_types (Sym s) = nat_eq s type_symbol
is_types A = false

-- how many products over `type` a tree begins with, and what they end in
abbrev pub peel_one : Bool → Tree → ℕ × Tree → ℕ × Tree
peel_one true A rest = (suc rest.0, rest.1)
peel_one false A rest = (0, A)

abbrev pub peel_types : Tree → ℕ × Tree
peel_types (Pi a b) = peel_one (is_types a) (Pi a b) (peel_types b)
peel_types A = (0, A)

-- the domains of this kind with which a tree begins, and what the products over them end in
abbrev pub peel_on : Option Tree → Tree → List Tree × Tree → List Tree × Tree
peel_on None A rest = ([], A)
peel_on (Some x) A rest = (x ∷ rest.0, rest.1)

abbrev pub peel : ℕ → Tree → List Tree × Tree
peel s (Pi a b) = peel_on (symbol_argument s a) (Pi a b) (peel s b)
peel s A = ([], A)

-- a constant with so many type variables, and its generic type
pub record Constant : Type 0 where
  pub name : Name
  pub variables : ℕ
  pub generic : ClosedType

abbrev pub constant_with : Name → ℕ → ClosedType → Constant
constant_with n k t = record { name = n; variables = k; generic = t }

-- the generic type that a declared type tells, with the number of its variables
abbrev pub generic_of : List Declaration → Option Tree → Option (ℕ × ClosedType)
generic_of declarations None = None
generic_of declarations (Some A) =
    bind (term_part (peel_types A).1) (λ T.
    bind (type_of_tree declarations (place (peel_types A).0 0 0 0) T) (λ t.
    provided (pointwise nat_eq (distinct nat_eq (parameter_places t)) (numbers 0 (peel_types A).0)) (Some ((peel_types A).0, t))))

abbrev pub primitive_constant : ℕ → Option Constant
primitive_constant s =
    or_else (provided (nat_eq s eq_symbol) (Some (constant_with equality_name 1 equality_type)))
    (provided (nat_eq s select_symbol) (Some (constant_with select_name 1 choice_type)))

abbrev pub input_constant : List Declaration → ℕ → Option Constant
input_constant declarations s =
    bind (name_behind declarations s (codes "i_")) (λ n.
    provided (is_lacking (primitive_type n) && has_type (symbol_type declarations s) (Pi types (term_of (Var 0))))
    (Some (constant_with n 1 (ClosedType.parameter 0))))

abbrev pub defined_constant : List Declaration → ℕ → Option Constant
defined_constant declarations s =
    bind (name_behind declarations s (codes "c_")) (λ n.
    provided (is_lacking (primitive_type n))
    (option_map (λ (g : ℕ × ClosedType). constant_with n g.0 g.1) (generic_of declarations (symbol_type declarations s))))

abbrev pub constant_at : List Declaration → ℕ → Option Constant
constant_at declarations s = or_else (primitive_constant s) (or_else (input_constant declarations s) (defined_constant declarations s))

-- the constant that a tree stands for, applied to the trees of these types
abbrev pub constant_from : List Declaration → Place → Tree → ClosedTypes → Option ClosedTerm
constant_from declarations at (Sym s) args =
    bind (constant_at declarations s) (λ c. provided (nat_eq c.variables (closed_count args)) (Some (ClosedTerm.constant c.name (instance_of args c.generic))))
constant_from declarations at (App f x) args = bind (type_of_tree declarations at x) (λ t. constant_from declarations at f (ClosedTypes.more t args))
constant_from declarations at SortType args = None
constant_from declarations at SortKind args = None
constant_from declarations at (Var v) args = None
constant_from declarations at (Lam a b) args = None
constant_from declarations at (Pi a b) args = None

abbrev pub term_parameter : Place → ℕ → Option ClosedTerm
term_parameter at v =
    or_else (provided (nat_lt v at.binders) (Some (ClosedTerm.bound v)))
    (provided (nat_lt v (depth_of at) &&
    (not (nat_lt (depth_of at - suc v) at.type_variables) && nat_lt (depth_of at - suc v - at.type_variables) at.free_variables))
    (Some (ClosedTerm.parameter (depth_of at - suc v - at.type_variables))))

-- the term that a tree stands for
abbrev pub term_from : List Declaration → Tree → Place → Option ClosedTerm
term_from declarations (Var v) at = term_parameter at v
term_from declarations (Sym s) at = constant_from declarations at (Sym s) ClosedTypes.none
term_from declarations (App f x) at =
    or_else (constant_from declarations at (App f x) ClosedTypes.none) (both ClosedTerm.app (term_from declarations f at) (term_from declarations x at))
term_from declarations (Lam a b) at = both ClosedTerm.lam (bind (term_part a) (type_of_tree declarations at)) (term_from declarations b (inside at))
term_from declarations SortType at = None
term_from declarations SortKind at = None
term_from declarations (Pi a b) at = None

-- the types of free variables, each under the binders of those before it, and hypotheses likewise
abbrev pub variables_from : List Declaration → List Tree → ℕ → ℕ → Option (List ClosedType)
variables_from declarations [] n m = Some []
variables_from declarations (A ∷ As) n m = both (λ t ts. t ∷ ts) (type_of_tree declarations (place n m 0 0) A) (variables_from declarations As n (suc m))

abbrev pub hypotheses_from : List Declaration → List Tree → ℕ → ℕ → ℕ → Option (List ClosedTerm)
hypotheses_from declarations [] n m l = Some []
hypotheses_from declarations (A ∷ As) n m l = both (λ t ts. t ∷ ts) (term_from declarations A (place n m l 0)) (hypotheses_from declarations As n m (suc l))

abbrev pub closed_sequent : ℕ → List ClosedType → List ClosedTerm → ClosedTerm → ClosedSequent
closed_sequent n variables hypotheses conclusion =
    record { type_variable_count = n; free_variable_types = variables; hypotheses = hypotheses; conclusion = conclusion }

-- the parts of a product over type variables, free variables and hypotheses
pub record Parts : Type 0 where
  pub type_variables : ℕ
  pub variables : List Tree
  pub hypotheses : List Tree
  pub end : Tree

abbrev pub parts : Tree → Parts
parts A = record {
  type_variables = (peel_types A).0;
  variables = (peel term_symbol (peel_types A).1).0;
  hypotheses = (peel proof_symbol (peel term_symbol (peel_types A).1).1).0;
  end = (peel proof_symbol (peel term_symbol (peel_types A).1).1).1;
}

-- the sequent that the parts stand for, of whatever size and type
abbrev pub sequent_from : List Declaration → Parts → Option ClosedSequent
sequent_from declarations p =
    bind (variables_from declarations p.variables p.type_variables 0) (λ variables.
    bind (hypotheses_from declarations p.hypotheses p.type_variables (length p.variables) 0) (λ hypotheses.
    bind (proof_part p.end) (λ C.
    option_map (closed_sequent p.type_variables variables hypotheses)
    (term_from declarations C (place p.type_variables (length p.variables) (length p.hypotheses) 0)))))

-- The closed sequent that a type stands for
abbrev pub decode : List Declaration → Tree → Option ClosedSequent
decode declarations A = bind (sequent_from declarations (parts A)) (λ s. provided (is_closed_form own_name s) (Some s))
