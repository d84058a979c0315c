-- Types, terms and sequents over the symbols that are taken: each operator at its arity, each constant at an instance of its generic type, an input as it was used.
-- Source: HOL Light's kernel, `mk_type` and `mk_const`.
use Rattle.std.specs.Prelude.{◌≡◌, ℕ, List, true, Some, length}
use Rattle.std.specs.List.{AllByRecursion, list_any}
use Rattle.hol_spec.specs.Names.{Name}
use Rattle.hol_spec.specs.Types.{HolType, HolTypes, none, more, count}
use Rattle.hol_spec.specs.Substitution.{Instance}
use Rattle.hol_spec.specs.Terms.{Term, Variable, free, bound, app, lam, HasType}
use Rattle.hol_spec.specs.Sequents.{Sequent}
use Rattle.hol_spec.specs.Definitions.{Definition}
use Rattle.hol_spec.specs.NewTypes.{abstraction_type, representation_type}
use Rattle.hol_spec.specs.Symbols.{Symbol, generic_type, operator_arity, is_input_constant, is_input_operator}
use Rattle.hol_spec.specs.Rules.{Parameters}

-- An operator with so many arguments.
pub data OperatorTaken (symbols : List Symbol) (n : Name) (k : ℕ) : Type 0 where
  of_arity : operator_arity symbols n ≡ Some k → OperatorTaken symbols n k
  input : list_any (is_input_operator n k) symbols ≡ true → OperatorTaken symbols n k

-- A constant at a type.
pub data ConstantTaken (symbols : List Symbol) (n : Name) (t : HolType) : Type 0 where
  instance : (g : HolType) → generic_type symbols n ≡ Some g → Instance g t → ConstantTaken symbols n t
  input : list_any (is_input_constant n) symbols ≡ true → ConstantTaken symbols n t

abbrev mutual
  pub TypeTaken : List Symbol → HolType → Type 0
  TypeTaken symbols (HolType.variable n) = Unit {0}
  TypeTaken symbols (HolType.operator n ts) = OperatorTaken symbols n (count ts) × TypesTaken symbols ts

  pub TypesTaken : List Symbol → HolTypes → Type 0
  TypesTaken symbols none = Unit {0}
  TypesTaken symbols (more t ts) = TypeTaken symbols t × TypesTaken symbols ts

abbrev pub TermTaken : List Symbol → Term → Type 0
TermTaken symbols (free n t) = TypeTaken symbols t
TermTaken symbols (bound k) = Unit {0}
TermTaken symbols (Term.constant n t) = ConstantTaken symbols n t × TypeTaken symbols t
TermTaken symbols (app f x) = TermTaken symbols f × TermTaken symbols x
TermTaken symbols (lam t b) = TypeTaken symbols t × TermTaken symbols b

-- The terms of a sequent.
pub record TermsTaken (symbols : List Symbol) (s : Sequent) : Type 0 where
  pub hypotheses : AllByRecursion (TermTaken symbols) s.hypotheses
  pub conclusion : TermTaken symbols s.conclusion

-- What a rule is given; the names that it defines are judged with its definitions.
abbrev pub ParametersTaken : List Symbol → Parameters → Type 0
ParametersTaken symbols Parameters.nothing = Unit {0}
ParametersTaken symbols (Parameters.term t) = TermTaken symbols t
ParametersTaken symbols (Parameters.variable v) = TypeTaken symbols v.1
ParametersTaken symbols (Parameters.substitution types terms) =
    AllByRecursion (λ (p : Name × HolType). TypeTaken symbols p.1) types
    × AllByRecursion (λ (p : Variable × Term). TypeTaken symbols p.0.1 × TermTaken symbols p.1) terms
ParametersTaken symbols (Parameters.sequent s) = TermsTaken symbols s
ParametersTaken symbols (Parameters.constant n t) = TermTaken symbols t
ParametersTaken symbols (Parameters.constants pairs) = AllByRecursion (λ (p : Name × Variable). TypeTaken symbols p.1.1) pairs
ParametersTaken symbols (Parameters.type_operator names version) = Unit {0}

-- What a definition defines stands among the symbols, at its generic type or arity.
abbrev pub DefinitionTaken : List Symbol → Definition → Type 0
DefinitionTaken symbols (Definition.constant n t) = (a : HolType) → HasType t a → ConstantTaken symbols n a
DefinitionTaken symbols (Definition.type_operator names c f) =
    OperatorTaken symbols names.operator (length names.variables)
    × ConstantTaken symbols names.abstraction (abstraction_type names c) × ConstantTaken symbols names.representation (representation_type names c)

-- What a symbol is defined by.
abbrev pub SymbolTaken : List Symbol → Symbol → Type 0
SymbolTaken symbols (Symbol.input_constant n) = Unit {0}
SymbolTaken symbols (Symbol.input_operator n k) = Unit {0}
SymbolTaken symbols (Symbol.defined (Definition.constant n t)) = TermTaken symbols t
SymbolTaken symbols (Symbol.defined (Definition.type_operator names c f)) = TypeTaken symbols c × TermTaken symbols f
