-- A sequent of which a closed sequent is the closed form, where there is one: each parameter gets a name of its own.
use Rattle.std.specs.Prelude.{ℕ, zero, suc, ◌≡◌, List, [], ◌∷◌, map}
use Rattle.hol_spec.specs.Names.{Name}
use Rattle.hol_spec.specs.Types as type
use Rattle.hol_spec.specs.Types.{HolType, HolTypes}
use Rattle.hol_spec.specs.Terms as term
use Rattle.hol_spec.specs.Terms.{Term, Variable}
use Rattle.hol_spec.specs.Sequents.{Sequent, IsSequent, type_variables_of, free_variables_of}
use Rattle.hol_spec.specs.Limits.{SequentWithin}
use Rattle.hol_spec.specs.ClosedForm.{ClosedType, ClosedTypes, ClosedTerm, ClosedSequent}
use Rattle.translate_spec.specs.ConstantMeaning.{numbers}

-- a name for each number: one component, which is the number
abbrev pub own_name : ℕ → Name
own_name i = (i ∷ []) ∷ []

-- no two numbers have one name
abbrev pub AreApart : (ℕ → Name) → Type 0
AreApart named = (i j : ℕ) → named i ≡ named j → i ≡ j

-- a type whose variables have these names
abbrev mutual
  pub open_type : (ℕ → Name) → ClosedType → HolType
  open_type named (ClosedType.parameter i) = type.HolType.variable (named i)
  open_type named (ClosedType.operator n ts) = type.HolType.operator n (open_types named ts)

  pub open_types : (ℕ → Name) → ClosedTypes → HolTypes
  open_types named ClosedTypes.none = type.HolTypes.none
  open_types named (ClosedTypes.more t ts) = type.HolTypes.more (open_type named t) (open_types named ts)

-- the type of the free variable at a place; past the end it is the first parameter
abbrev pub type_at : List ClosedType → ℕ → ClosedType
type_at [] j = ClosedType.parameter 0
type_at (t ∷ ts) zero = t
type_at (t ∷ ts) (suc j) = type_at ts j

-- a term whose type variables and free variables have these names
abbrev pub open_term : (ℕ → Name) → List ClosedType → ClosedTerm → Term
open_term named types (ClosedTerm.parameter j) = term.Term.free (named j) (open_type named (type_at types j))
open_term named types (ClosedTerm.bound k) = term.Term.bound k
open_term named types (ClosedTerm.constant n t) = term.Term.constant n (open_type named t)
open_term named types (ClosedTerm.app f x) = term.Term.app (open_term named types f) (open_term named types x)
open_term named types (ClosedTerm.lam t b) = term.Term.lam (open_type named t) (open_term named types b)

-- the free variables of these types, with the names of the numbers from j on
abbrev pub open_variables : (ℕ → Name) → ℕ → List ClosedType → List Variable
open_variables named j [] = []
open_variables named j (t ∷ ts) = (named j, open_type named t) ∷ open_variables named (suc j) ts

-- the sequent of a closed one with these names
abbrev pub opened : (ℕ → Name) → ClosedSequent → Sequent
opened named s = record {
  hypotheses = map (open_term named s.free_variable_types) s.hypotheses;
  conclusion = open_term named s.free_variable_types s.conclusion;
}

-- The closed sequent, opened with these names, is a sequent within the limits, and its parameters are those of the closed sequent: each occurs, and they
-- are numbered in the order of first occurrence.
pub record IsOpen (named : ℕ → Name) (s : ClosedSequent) : Type 0 where
  pub is_sequent : IsSequent (opened named s)
  pub within : SequentWithin (opened named s)
  pub type_variables : type_variables_of (opened named s) ≡ map named (numbers 0 s.type_variable_count)
  pub free_variables : free_variables_of (opened named s) ≡ open_variables named 0 s.free_variable_types
