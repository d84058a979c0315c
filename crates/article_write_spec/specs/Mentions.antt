-- What types, terms and sequents mention: type operators and constants. Primitives and inputs are mentioned like others; what is needed of them is nothing.
use Rattle.std.specs.Prelude.{ℕ, ◌==◌, Bool, false, List, [], ◌∷◌, ◌++◌}
use Rattle.std.specs.List.{flat_map}
use Rattle.hol_spec.specs.Names.{Name}
use Rattle.hol_spec.specs.NameEquality.{name_eq}
use Rattle.hol_spec.specs.Types.{HolType, HolTypes}
use Rattle.hol_spec.specs.Terms.{Term}
use Rattle.hol_spec.specs.Sequents.{Sequent, terms_of}
use Rattle.hol_spec.specs.Rules.{Parameters}

-- what a step can need: what defines an operator or a constant, or a step by its number
pub data Need : Type 0 where
  operator : Name → Need
  constant : Name → Need
  step : ℕ → Need

abbrev pub need_eq : Need → Need → Bool
need_eq (operator m) (operator n) = name_eq m n
need_eq (constant m) (constant n) = name_eq m n
need_eq (step i) (step j) = i == j
need_eq x y = false

abbrev mutual
  pub type_mentions : HolType → List Need
  type_mentions (HolType.variable n) = []
  type_mentions (HolType.operator n ts) = operator n ∷ types_mention ts

  pub types_mention : HolTypes → List Need
  types_mention HolTypes.none = []
  types_mention (HolTypes.more t ts) = type_mentions t ++ types_mention ts

abbrev pub term_mentions : Term → List Need
term_mentions (Term.free n t) = type_mentions t
term_mentions (Term.bound k) = []
term_mentions (Term.constant n t) = constant n ∷ type_mentions t
term_mentions (Term.app f x) = term_mentions f ++ term_mentions x
term_mentions (Term.lam t b) = type_mentions t ++ term_mentions b

abbrev pub sequent_mentions : Sequent → List Need
sequent_mentions s = flat_map term_mentions (terms_of s)

-- what a rule is given; the names that it defines are its own
abbrev pub given_mentions : Parameters → List Need
given_mentions Parameters.nothing = []
given_mentions (Parameters.term t) = term_mentions t
given_mentions (Parameters.variable v) = type_mentions v.1
given_mentions (Parameters.substitution types terms) = flat_map (λ p. type_mentions p.1) types ++ flat_map (λ p. type_mentions p.0.1 ++ term_mentions p.1) terms
given_mentions (Parameters.sequent s) = sequent_mentions s
given_mentions (Parameters.constant n t) = term_mentions t
given_mentions (Parameters.constants pairs) = flat_map (λ p. type_mentions p.1.1) pairs
given_mentions (Parameters.type_operator names version) = []
