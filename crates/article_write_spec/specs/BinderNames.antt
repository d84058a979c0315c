-- The names of binders. A binder under d others is named `_<q>_<d>`, for the least q of which no free variable has such a name.
use Rattle.std.specs.Prelude.{ℕ, zero, suc, ◌&&◌, Bool, false, if◌then◌else◌, List, [], ◌∷◌, ◌++◌, map, length, drop, codes, nat_eq}
use Rattle.std.specs.Fmt.{decimal}
use Rattle.std.specs.List.{list_all, list_any, flat_map, starts_with}
use Rattle.hol_spec.specs.Names.{Name}
use Rattle.hol_spec.specs.NameEquality.{name_eq}
use Rattle.hol_spec.specs.Lists.{distinct}
use Rattle.hol_spec.specs.Terms.{Variable, free_places}
use Rattle.hol_spec.specs.Sequents.{terms_of}
use Rattle.hol_spec.specs.DefinitionLists.{variables_of}
use Rattle.hol_spec.specs.Rules.{Parameters}
use Rattle.hol_spec.specs.Proofs.{Step}
use Rattle.article_spec.specs.Numbers.{is_digit}
use Rattle.article_write_spec.specs.ReachedSteps.{Numbered}

abbrev pub binder_front : ℕ → List ℕ
binder_front q = codes "_" ++ decimal q ++ codes "_"

abbrev pub binder_name : ℕ → ℕ → Name
binder_name q d = (binder_front q ++ decimal d) ∷ []

-- whether these are digits, and there is one
abbrev pub are_digits : List ℕ → Bool
are_digits [] = false
are_digits (b ∷ bytes) = is_digit b && list_all is_digit bytes

-- whether a name is `_<q>_` and digits
abbrev pub is_binder_name : ℕ → Name → Bool
is_binder_name q (bytes ∷ []) = starts_with nat_eq bytes (binder_front q) && are_digits (drop (length (binder_front q)) bytes)
is_binder_name q name = false

-- the variables that a step is given, and those that are free in the terms that it is given
abbrev pub given_variables : Parameters → List Variable
given_variables Parameters.nothing = []
given_variables (Parameters.term t) = free_places t
given_variables (Parameters.variable v) = v ∷ []
given_variables (Parameters.substitution types terms) = flat_map (λ p. p.0 ∷ free_places p.1) terms
given_variables (Parameters.sequent s) = flat_map free_places (terms_of s)
given_variables (Parameters.constant n t) = free_places t
given_variables (Parameters.constants pairs) = variables_of pairs
given_variables (Parameters.type_operator names version) = []

abbrev pub step_variables : Step → List Variable
step_variables x = given_variables x.parameters ++ flat_map free_places (terms_of x.sequent)

-- the names of all variables that are given, or are free in terms that are given or said, each once
abbrev pub variable_names : List Numbered → List Name
variable_names steps = distinct name_eq (map (λ v. v.0) (flat_map (λ x. step_variables x.step) steps))

-- the least number from q on for which none of these is the name of a binder; of so many names some number at most so far away is free
abbrev pub first_free : ℕ → ℕ → List Name → ℕ
first_free zero q names = q
first_free (suc more) q names = if list_any (is_binder_name q) names then first_free more (suc q) names else q

abbrev pub binder_number : List Numbered → ℕ
binder_number steps = first_free (length (variable_names steps)) 0 (variable_names steps)
