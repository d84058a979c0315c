-- What commands change in a state: the stack, the symbols that are taken, and one more step.
-- Source: the OpenTheory article file format, version 6, "The Virtual Machine".
use Rattle.std.specs.Prelude.{ℕ, List, [], ◌∷◌, ◌++◌, map, length, Option, Result, Ok}
use Rattle.std.specs.List.{find}
use Rattle.hol_spec.specs.Types.{HolType}
use Rattle.hol_spec.specs.Terms.{Term}
use Rattle.hol_spec.specs.Sequents.{Sequent, same}
use Rattle.hol_spec.specs.Definitions.{TypeNames}
use Rattle.common.specs.declared.faults.Kind.{Kind}
use Rattle.hol_spec.specs.Symbols.{Symbol}
use Rattle.hol_spec.specs.Proofs.{Made, Step, steps_of, sequent_at}
use Rattle.article_spec.specs.State.{Object, theorem, State}
use Rattle.article_spec.specs.Results.{◌>>=◌, ◌>>◌}
use Rattle.article_spec.specs.Conditions.{sequent_in_limits}
use Rattle.article_spec.specs.RuleSteps.{NewType}

-- the state with another stack
abbrev pub with_stack : State → List Object → State
with_stack s stack = record s { stack = stack }

-- the state with these symbols taken
abbrev pub with_symbols : State → List Symbol → State
with_symbols s symbols = record s { made = s.made ++ map Made.symbol symbols }

-- the state with a type operator and its two constants, defined by the predicate of what the step of this number says
abbrev pub with_type_definition : State → TypeNames → HolType → Term → ℕ → State
with_type_definition s names c f i = record s { made = s.made ++ Made.type_definition names c f i ∷ [] }

-- the state with one step more, and the number that the step has
abbrev pub with_step : State → Step → State
with_step s x = record s { made = s.made ++ Made.step x ∷ [] }

abbrev pub next_step : State → ℕ
next_step s = length (steps_of s.made)

-- the state with one step more, whose theorem is on top of the stack
abbrev pub with_theorem : State → Step → State
with_theorem s x = with_step (with_stack s (theorem (next_step s) ∷ s.stack)) x

-- A step is made where its sequent is within the limits.
abbrev pub conclude : State → Step → Result State Kind
conclude s x = do
  sequent_in_limits x.sequent
  Ok (with_theorem s x)

-- a rule's step is concluded
abbrev pub by_step : Result Step Kind → State → Result State Kind
by_step rule s = do
  x ← rule
  conclude s x

-- symbols are taken, and then a rule's step is concluded
abbrev pub defining : List Symbol → Result Step Kind → State → Result State Kind
defining symbols rule s = do
  x ← rule
  conclude (with_symbols s symbols) x

-- a type operator is defined with its constants, and its two laws are pushed
abbrev pub with_type : State → NewType → State
with_type s x = with_theorem (with_theorem (record s { made = s.made ++ x.definition ∷ [] }) x.first) x.second

abbrev pub defining_type : Result NewType Kind → State → Result State Kind
defining_type rule s = do
  x ← rule
  Ok (with_type s x)

-- the first of these steps with the same sequent
abbrev pub first_same : State → List ℕ → Sequent → Option ℕ
first_same s steps sequent = find (λ i. same (sequent_at s.made i) sequent) steps
