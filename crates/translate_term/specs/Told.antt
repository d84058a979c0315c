-- What the calls of this crate are given: which symbols a module tells for the operators and constants of a type or a term, and what stands for
-- type variables and free variables.
use Rattle.std.specs.Prelude.{◌≡◌, ℕ, ◌<◌, List, [], ◌∷◌, length, Option, None, Some, if◌then◌else◌}
use Rattle.std.specs.List.{AllByRecursion}
use Rattle.hol_spec.specs.Names.{Name}
use Rattle.hol_spec.specs.NameEquality.{name_eq}
use Rattle.hol_spec.specs.Types.{HolType, HolTypes, variable, operator, none, more, count}
use Rattle.hol_spec.specs.Primitives.{arrow_name, bool_name, ind_name, equality_name, select_name}
use Rattle.hol_spec.specs.Substitution.{Instance}
use Rattle.hol_spec.specs.Terms.{Term, free, bound, constant, app, lam, Variable}
use Rattle.hol_spec.specs.Sequents.{Sequent, IsSequent}
use Rattle.hol_spec.specs.ClosedForm.{ClosedSequent, closed_form}
use Rattle.hol_term.specs.declared.Variable.{Variable as AVariable}
use Rattle.lp_spec.specs.Trees.{Tree}
use Rattle.lp_spec.specs.Modules.{Declaration, arr_symbol, bool_symbol, ind_symbol, eq_symbol, select_symbol}
use Rattle.lp_term.specs.declared.LpId.{LpId}
use Rattle.lp_term.specs.Tables.{tree_at}
use Rattle.hol_type.specs.Tables as type
use Rattle.holide_sig.specs.Modules.{symbol_number}
use Rattle.translate_spec.specs.Image.{input_constant_name, input_operator_name, constant_name, operator_name}
use Rattle.translate_spec.specs.Scopes.{SymbolMap, operator_symbol, constant_symbol, generic_type}
use Rattle.translate_laws.specs.ScopeTyping.{DeclaresConstant}

-- the first of two that there is
abbrev pub either_number : Option ℕ → Option ℕ → Option ℕ
either_number (Some s) other = Some s
either_number None other = other

-- the symbol that a module has for an operator with so many arguments: the signature's for a primitive one, else the one of an input's name, else that of a
-- definition's
abbrev pub told_operator : List Declaration → Name → ℕ → Option ℕ
told_operator declarations n k =
    if name_eq n arrow_name then Some arr_symbol
    else (if name_eq n bool_name then Some bool_symbol
    else (if name_eq n ind_name then Some ind_symbol
    else either_number (symbol_number declarations (input_operator_name k n)) (symbol_number declarations (operator_name n))))

-- and for a constant
abbrev pub told_constant : List Declaration → Name → Option ℕ
told_constant declarations n =
    if name_eq n equality_name then Some eq_symbol
    else (if name_eq n select_name then Some select_symbol
    else either_number (symbol_number declarations (input_constant_name n)) (symbol_number declarations (constant_name n)))

-- a module tells the symbol of each operator in a type
abbrev mutual
  pub TellsType : List Declaration → SymbolMap → HolType → Type 0
  TellsType declarations symbols (variable n) = Unit {0}
  TellsType declarations symbols (operator n ts) =
      (told_operator declarations n (count ts) ≡ Some (operator_symbol symbols n (count ts))) × TellsTypes declarations symbols ts

  pub TellsTypes : List Declaration → SymbolMap → HolTypes → Type 0
  TellsTypes declarations symbols none = Unit {0}
  TellsTypes declarations symbols (more t ts) = TellsType declarations symbols t × TellsTypes declarations symbols ts

-- it tells the symbol of a constant and declares it at its generic type, of which the constant's type is an instance
pub record TellsConstant (declarations : List Declaration) (symbols : SymbolMap) (n : Name) (t : HolType) : Type 0 where
  pub named : told_constant declarations n ≡ Some (constant_symbol symbols n)
  pub declared : DeclaresConstant declarations symbols n
  pub instance : Instance (generic_type symbols n) t
  pub ty : TellsType declarations symbols t

-- it tells the symbol of each operator and each constant in a term
abbrev pub TellsTerm : List Declaration → SymbolMap → Term → Type 0
TellsTerm declarations symbols (free n t) = TellsType declarations symbols t
TellsTerm declarations symbols (bound k) = Unit {0}
TellsTerm declarations symbols (constant n t) = TellsConstant declarations symbols n t
TellsTerm declarations symbols (app f x) = TellsTerm declarations symbols f × TellsTerm declarations symbols x
TellsTerm declarations symbols (lam t b) = TellsType declarations symbols t × TellsTerm declarations symbols b

-- this is the closed form of a sequent, and the module tells the symbol of each operator and each constant in it
pub record TellsClosed (declarations : List Declaration) (symbols : SymbolMap) (s : Sequent) (form : ClosedSequent) : Type 0 where
  pub is_sequent : IsSequent s
  pub hypotheses : AllByRecursion (TellsTerm declarations symbols) s.hypotheses
  pub conclusion : TellsTerm declarations symbols s.conclusion
  pub closed : closed_form s ≡ form

-- what stands for each of some type variables, and for each of some free variables of a table
abbrev pub types_in : List Tree → List (Name × LpId) → List (Name × Tree)
types_in trees [] = []
types_in trees (e ∷ es) = (e.0, tree_at trees e.1.0) ∷ types_in trees es

abbrev pub terms_in : List HolType → List Tree → List (AVariable × LpId) → List (Variable × Tree)
terms_in types trees [] = []
terms_in types trees (e ∷ es) = ((e.0.name, type.tree_at types e.0.ty.0), tree_at trees e.1.0) ∷ terms_in types trees es

-- the numbers of what stands for type variables are of the module's table
abbrev pub AreTypesKnown : List Tree → List (Name × LpId) → Type 0
AreTypesKnown trees [] = Unit {0}
AreTypesKnown trees (e ∷ es) = (e.1.0 < length trees) × AreTypesKnown trees es

-- and those for free variables, whose types are of the table of types
abbrev pub AreTermsKnown : List HolType → List Tree → List (AVariable × LpId) → Type 0
AreTermsKnown types trees [] = Unit {0}
AreTermsKnown types trees (e ∷ es) = (e.0.ty.0 < length types) × (e.1.0 < length trees) × AreTermsKnown types trees es
