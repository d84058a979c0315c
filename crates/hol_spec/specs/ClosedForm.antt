-- The closed form of a sequent: its type variables, free variables and hypotheses are parameters, numbered in the order of the walk.
-- Source: Assaf and Burel, "Translating HOL to Dedukti", where a theorem is closed before it is translated.
use Rattle.std.specs.Prelude.{ℕ, List, length, map}
use Rattle.std.specs.List.{position_or_len}
use Rattle.hol_spec.specs.Names.{Name}
use Rattle.hol_spec.specs.NameEquality.{name_eq}
use Rattle.hol_spec.specs.Types as type
use Rattle.hol_spec.specs.Types.{HolType, HolTypes}
use Rattle.hol_spec.specs.Terms as term
use Rattle.hol_spec.specs.Terms.{Term, Variable, variable_eq}
use Rattle.hol_spec.specs.Sequents.{Sequent, type_variables_of, free_variables_of}

-- Types whose variables are numbers.
mutual
  pub data ClosedType : Type 0 where
    parameter : ℕ → ClosedType
    operator : Name → ClosedTypes → ClosedType

  pub data ClosedTypes : Type 0 where
    none : ClosedTypes
    more : ClosedType → ClosedTypes → ClosedTypes

-- Terms whose type variables and free variables are numbers.
pub data ClosedTerm : Type 0 where
  parameter : ℕ → ClosedTerm
  bound : ℕ → ClosedTerm
  constant : Name → ClosedType → ClosedTerm
  app : ClosedTerm → ClosedTerm → ClosedTerm
  lam : ClosedType → ClosedTerm → ClosedTerm

pub record ClosedSequent : Type 0 where
  pub type_variable_count : ℕ
  pub free_variable_types : List ClosedType
  pub hypotheses : List ClosedTerm
  pub conclusion : ClosedTerm

-- A type over a list of type variables: each is its place in the list.
abbrev mutual
  pub close_type : List Name → HolType → ClosedType
  close_type names (type.HolType.variable n) = parameter (position_or_len (name_eq n) names)
  close_type names (type.HolType.operator n ts) = operator n (close_types names ts)

  pub close_types : List Name → HolTypes → ClosedTypes
  close_types names type.HolTypes.none = none
  close_types names (type.HolTypes.more t ts) = more (close_type names t) (close_types names ts)

-- A term over a list of type variables and one of free variables.
abbrev pub close_term : List Name → List Variable → Term → ClosedTerm
close_term names variables (term.Term.free n t) = parameter (position_or_len (variable_eq (n, t)) variables)
close_term names variables (term.Term.bound k) = bound k
close_term names variables (term.Term.constant n t) = constant n (close_type names t)
close_term names variables (term.Term.app f x) = app (close_term names variables f) (close_term names variables x)
close_term names variables (term.Term.lam t b) = lam (close_type names t) (close_term names variables b)

-- A sequent over its own parameters.
abbrev pub closed_form : Sequent → ClosedSequent
closed_form s = record {
  type_variable_count = length (type_variables_of s);
  free_variable_types = map (λ v. close_type (type_variables_of s) v.1) (free_variables_of s);
  hypotheses = map (close_term (type_variables_of s) (free_variables_of s)) s.hypotheses;
  conclusion = close_term (type_variables_of s) (free_variables_of s) s.conclusion;
}
