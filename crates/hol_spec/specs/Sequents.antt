-- Sequents: hypotheses without repeats and a conclusion, all of type `bool`.
-- Source: HOL Light's kernel, `thm`.
use Rattle.std.specs.Prelude.{ℕ, List, [], ◌∷◌, ◌++◌, length, ◌+◌, Bool, ◌&&◌}
use Rattle.std.specs.List.{list_all, flat_map, AllByRecursion, IsDistinct}
use Rattle.hol_spec.specs.Names.{Name}
use Rattle.hol_spec.specs.NameEquality.{name_eq}
use Rattle.hol_spec.specs.Lists.{is_in, distinct}
use Rattle.hol_spec.specs.Primitives.{bool}
use Rattle.hol_spec.specs.Terms.{Term, Variable, HasType, term_eq, variable_eq, type_variable_places, free_places}

pub record Sequent : Type 0 where
  pub hypotheses : List Term
  pub conclusion : Term

pub record IsSequent (s : Sequent) : Type 0 where
  pub no_repeats : IsDistinct term_eq s.hypotheses
  pub hypotheses : AllByRecursion (λ h. HasType h bool) s.hypotheses
  pub conclusion : HasType s.conclusion bool

-- Whether the conclusions are equal and the first's hypotheses are among the second's.
abbrev pub within : Sequent → Sequent → Bool
within s t = list_all (λ h. is_in term_eq h t.hypotheses) s.hypotheses && term_eq s.conclusion t.conclusion

-- Whether the conclusions are equal and the hypotheses are equal as sets.
abbrev pub same : Sequent → Sequent → Bool
same s t = within s t && within t s

-- The walk of a sequent: its hypotheses in order, then its conclusion.
abbrev pub terms_of : Sequent → List Term
terms_of s = s.hypotheses ++ s.conclusion ∷ []

-- The type variables in order of first occurrence in the walk.
abbrev pub type_variables_of : Sequent → List Name
type_variables_of s = distinct name_eq (flat_map type_variable_places (terms_of s))

-- The free variables in order of first occurrence in the walk.
abbrev pub free_variables_of : Sequent → List Variable
free_variables_of s = distinct variable_eq (flat_map free_places (terms_of s))

-- How many parameters a sequent has: type variables, free variables and hypotheses.
abbrev pub parameter_count : Sequent → ℕ
parameter_count s = length (type_variables_of s) + length (free_variables_of s) + length s.hypotheses
