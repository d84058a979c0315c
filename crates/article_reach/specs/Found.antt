-- What is found in types, terms and steps: what they need, and the names of their variables.
use Rattle.std.specs.Prelude.{ℕ, ◌<◌, ◌^◌, Bool, false, List, [], ◌∷◌, ◌++◌, map}
use Rattle.std.specs.List.{flat_map, list_any}
use Rattle.hol_spec.specs.Names.{Name}
use Rattle.hol_spec.specs.Types.{HolType, HolTypes}
use Rattle.hol_spec.specs.Terms.{Term}
use Rattle.hol_spec.specs.Sequents.{Sequent, terms_of}
use Rattle.hol_spec.specs.Rules.{Parameters}
use Rattle.hol_spec.specs.Proofs.{Step}
use Rattle.article_write_spec.specs.Mentions.{Need, operator, constant, step, need_eq}
use Rattle.article_write_spec.specs.BinderNames.{is_binder_name}

-- a need, or the name of a variable
pub data Found : Type 0 where
  needed : Need → Found
  named : Name → Found

-- what is asked: whether something is needed, or whether a variable has the name of a binder of this number
pub data Asked : Type 0 where
  need : Need → Asked
  number : ℕ → Asked

abbrev pub answers : Asked → Found → Bool
answers (need m) (needed n) = need_eq m n
answers (number q) (named n) = is_binder_name q n
answers x f = false

abbrev pub is_found : List Found → Asked → Bool
is_found fs x = list_any (answers x) fs

-- the number is one that a machine can tell
abbrev pub IsAsked : Asked → Type 0
IsAsked (need m) = Unit {0}
IsAsked (number q) = q < 2 ^ 64

abbrev mutual
  pub type_found : HolType → List Found
  type_found (HolType.variable n) = []
  type_found (HolType.operator n ts) = needed (operator n) ∷ types_found ts

  pub types_found : HolTypes → List Found
  types_found HolTypes.none = []
  types_found (HolTypes.more t ts) = type_found t ++ types_found ts

abbrev pub term_found : Term → List Found
term_found (Term.free n t) = named n ∷ type_found t
term_found (Term.bound k) = []
term_found (Term.constant n t) = needed (constant n) ∷ type_found t
term_found (Term.app f x) = term_found f ++ term_found x
term_found (Term.lam t b) = type_found t ++ term_found b

abbrev pub sequent_found : Sequent → List Found
sequent_found s = flat_map term_found (terms_of s)

-- what a rule is given; the names that it defines are its own
abbrev pub given_found : Parameters → List Found
given_found Parameters.nothing = []
given_found (Parameters.term t) = term_found t
given_found (Parameters.variable v) = named v.0 ∷ type_found v.1
given_found (Parameters.substitution types terms) =
    flat_map (λ p. type_found p.1) types ++ flat_map (λ p. named p.0.0 ∷ type_found p.0.1 ++ term_found p.1) terms
given_found (Parameters.sequent s) = sequent_found s
given_found (Parameters.constant n t) = term_found t
given_found (Parameters.constants pairs) = flat_map (λ p. named p.1.0 ∷ type_found p.1.1) pairs
given_found (Parameters.type_operator names version) = []

abbrev pub steps_found : List ℕ → List Found
steps_found ids = map (λ i. needed (step i)) ids

abbrev pub step_found : Step → List Found
step_found x = steps_found x.premises ++ (given_found x.parameters ++ sequent_found x.sequent)
