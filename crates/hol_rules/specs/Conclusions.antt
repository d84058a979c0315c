-- A rule concludes a step, or is refused; so does a definition, which takes symbols before.
use Rattle.std.specs.Prelude.{◌≡◌, ℕ, ◌+◌, List, [], ◌∷◌, ◌++◌, map, Result, Ok, IfOk, IfErr, OnErr}
use Rattle.common.specs.declared.faults.Fault.{Fault}
use Rattle.common.specs.declared.faults.Kind.{Kind}
use Rattle.hol_spec.specs.Proofs.{Made, Step}
use Rattle.hol_term.specs.Tables.{Keeps}
use Rattle.article_spec.specs.Results.{◌>>=◌, ◌>>◌, Fails}
use Rattle.article_spec.specs.Conditions.{sequent_in_limits}
use Rattle.hol_spec.specs.Symbols.{Symbol}
use Rattle.hol_rules.specs.Kept.{Kept, step_count}
use Rattle.article_spec.specs.RuleSteps.{NewType}

-- A step within the limits: of its sequent the size is judged first, then the depth, then the number of parameters.
abbrev pub limited : Result Step Kind → Result Step Kind
limited rule = do
  x ← rule
  sequent_in_limits x.sequent
  Ok x

-- The step becomes the last, and the answer is its number; or the rule is refused for the first condition that fails,
-- a limit last, or for want of memory. After a fault nothing is made. What had a number keeps it.
pub record Concludes (old : Kept) (rule : Result Step Kind) (new : Kept) (result : Result ℕ Fault) : Type 0 where
  pub concluded : IfOk result (λ id. (id ≡ step_count old) × ((x : Step) × (limited rule ≡ Ok x) × (new.made ≡ old.made ++ Made.step x ∷ [])))
  pub refused : IfErr result (λ fault. Fails fault (limited rule))
  pub unchanged : OnErr result (new.made ≡ old.made)
  pub keeps : Keeps old.trees new.trees

-- The same of a definition: these symbols are taken, and then the step is made.
pub record Defines (old : Kept) (symbols : List Symbol) (rule : Result Step Kind) (new : Kept) (result : Result ℕ Fault) : Type 0 where
  pub concluded : IfOk result (λ id. (id ≡ step_count old)
      × ((x : Step) × (limited rule ≡ Ok x) × (new.made ≡ (old.made ++ map Made.symbol symbols) ++ Made.step x ∷ [])))
  pub refused : IfErr result (λ fault. Fails fault (limited rule))
  pub unchanged : OnErr result (new.made ≡ old.made)
  pub keeps : Keeps old.trees new.trees

-- the symbols are taken, and then the step is made
abbrev pub with_definition : Kept → List Symbol → Step → Kept
with_definition k symbols x = record k { made = (k.made ++ map Made.symbol symbols) ++ Made.step x ∷ [] }

-- what was made, then a type operator, and then the steps of its laws
abbrev pub with_type : List Made → NewType → List Made
with_type made x = ((made ++ x.definition ∷ []) ++ Made.step x.first ∷ []) ++ Made.step x.second ∷ []

-- The same of the definition of a type operator, which makes two steps: the answer is their numbers. Its limits are among its conditions.
pub record DefinesType (old : Kept) (rule : Result NewType Kind) (new : Kept) (result : Result (ℕ × ℕ) Fault) : Type 0 where
  pub concluded : IfOk result (λ ids. (ids.0 ≡ step_count old) × ((ids.1 ≡ step_count old + 1)
      × ((x : NewType) × (rule ≡ Ok x) × (new.made ≡ with_type old.made x))))
  pub refused : IfErr result (λ fault. Fails fault rule)
  pub unchanged : OnErr result (new.made ≡ old.made)
  pub keeps : Keeps old.trees new.trees
