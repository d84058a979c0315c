-- The closed sequents of the tests.
use Rattle.std.specs.Prelude.{ℕ, zero, suc, ◌+◌, List, [], ◌∷◌, ◌++◌, replicate, codes}
use Rattle.hol_spec.specs.ClosedForm.{ClosedSequent, ClosedTerm, ClosedType, operator, none, more, parameter, constant, app, lam}
use Rattle.hol_spec.specs.Primitives.{arrow_name, bool_name}
use Rattle.hol_spec.specs.Sequents.{Sequent}
use Rattle.translate_term.specs.Told.{TellsClosed}
use Rattle.translate_term_tests.specs.Inputs.{input_module, input_symbols}

abbrev pub closed_bool : ClosedType
closed_bool = operator bool_name none

abbrev pub closed_function : ClosedType → ClosedType → ClosedType
closed_function a b = operator arrow_name (more a (more b none))

-- the first free variables
abbrev pub parameters : ℕ → List ClosedTerm
parameters zero = []
parameters (suc n) = parameters n ++ parameter n ∷ []

-- so many truth values, from which one more follows
abbrev pub assumed : ℕ → ClosedSequent
assumed n = record { type_variable_count = 0; free_variable_types = replicate (n + 1) closed_bool; hypotheses = parameters n; conclusion = parameter n }

-- u (\y. x), of truth values
abbrev pub quantified : ClosedSequent
quantified = record {
  type_variable_count = 0;
  free_variable_types = closed_bool ∷ [];
  hypotheses = [];
  conclusion = app (constant (codes "u" ∷ []) (closed_function (closed_function closed_bool closed_bool) closed_bool)) (lam closed_bool (parameter 0));
}

-- the closed form of a sequent whose symbols the module tells
pub record IsToldClosed (form : ClosedSequent) : Type 0 where
  pub sequent : Sequent
  pub told : TellsClosed input_module input_symbols sequent form
