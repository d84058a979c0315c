-- The test whether a closed sequent is the closed form of a sequent within the limits: one for each condition.
use Rattle.std.specs.Prelude.{ℕ, List, [], ◌∷◌, map, Bool, true, false, not, nat_lt, ◌&&◌, Option, None, Some}
use Rattle.std.specs.List.{list_all}
use lib.Pointwise.{pointwise}
use Rattle.hol_spec.specs.Names.{Name}
use Rattle.hol_spec.specs.NameEquality.{name_eq}
use Rattle.hol_spec.specs.Types.{HolType, type_eq}
use Rattle.hol_spec.specs.Primitives.{bool}
use Rattle.hol_spec.specs.Terms.{Term, type_of, term_eq, variable_eq}
use Rattle.hol_spec.specs.Sequents.{Sequent, type_variables_of, free_variables_of, parameter_count}
use Rattle.hol_spec.specs.Limits.{sequent_size, sequent_depth, greatest_size, greatest_depth, greatest_parameter_count}
use Rattle.hol_spec.specs.ClosedForm.{ClosedSequent}
use Rattle.translate_spec.specs.ConstantMeaning.{numbers}
use Rattle.decode_spec.specs.Opened.{opened, open_variables}

-- a term is well typed and of type `bool`
abbrev pub is_of_type : Option HolType → HolType → Bool
is_of_type None a = false
is_of_type (Some b) a = type_eq b a

abbrev pub is_formula : Term → Bool
is_formula t = is_of_type (type_of t) bool

-- no two elements are one
abbrev pub no_repeats : {A : Type 0} → (A → A → Bool) → List A → Bool
no_repeats same [] = true
no_repeats same (x ∷ xs) = list_all (λ y. not (same x y)) xs && no_repeats same xs

abbrev pub at_most : ℕ → ℕ → Bool
at_most limit n = not (nat_lt limit n)

abbrev pub is_sequent : Sequent → Bool
is_sequent s = no_repeats term_eq s.hypotheses && (list_all is_formula s.hypotheses && is_formula s.conclusion)

abbrev pub is_within : Sequent → Bool
is_within s = at_most greatest_size (sequent_size s) && (at_most greatest_depth (sequent_depth s) && at_most greatest_parameter_count (parameter_count s))

-- each parameter occurs, and they are numbered in the order of first occurrence
abbrev pub is_numbered : (ℕ → Name) → ClosedSequent → Bool
is_numbered named s =
    pointwise name_eq (type_variables_of (opened named s)) (map named (numbers 0 s.type_variable_count))
    && pointwise variable_eq (free_variables_of (opened named s)) (open_variables named 0 s.free_variable_types)

abbrev pub is_closed_form : (ℕ → Name) → ClosedSequent → Bool
is_closed_form named s = is_sequent (opened named s) && (is_within (opened named s) && is_numbered named s)
