-- The numbers of a run's steps stay where more is made.
use Rattle.std.proofs.Common.{◌≡◌, ℕ, ◌<◌, ◌≤◌, ◌+◌, ap, ◌∙◌, arith, List, [], ◌∷◌, ◌++◌, length, map, length-append}
use Rattle.hol_spec.specs.Symbols.{Symbol}
use Rattle.hol_spec.specs.Proofs.{Made, Step, steps_of}
use Rattle.hol_laws.specs.Members.{All-append}
use Rattle.hol_proof_laws.specs.ProofLaws.{steps_of-push, steps_of-symbols}
use Rattle.stack_machine.specs.Making.{AreSteps, IsRunKnown}

-- as many steps where nothing but symbols is taken, and one more where a step is made
pub count-symbols : (made : List Made) (xs : List Symbol) → length (steps_of (made ++ map Made.symbol xs)) ≡ length (steps_of made)
count-symbols made xs = ap length (steps_of-symbols made xs)

pub count-step : (made : List Made) (x : Step) → length (steps_of (made ++ Made.step x ∷ [])) ≡ length (steps_of made) + 1
count-step made x = ap length (steps_of-push made x) ∙ length-append (steps_of made) (x ∷ [])

module _ (a b : List Made) (l : length (steps_of a) ≤ length (steps_of b)) where
  pub AreSteps-more : (ids : List ℕ) → AreSteps a ids → AreSteps b ids
  AreSteps-more [] h = tt
  AreSteps-more (i ∷ ids) h = (omega (arith, l, h.0), AreSteps-more ids h.1)

  pub IsRunKnown-more : (assumptions exports : List ℕ) (pool : ℕ) → IsRunKnown a assumptions exports pool → IsRunKnown b assumptions exports pool
  IsRunKnown-more assumptions exports pool h = record
      { assumed = AreSteps-more assumptions h.assumed; exported = AreSteps-more exports h.exported; earlier = h.earlier }

pub AreSteps-push : (made : List Made) (ids : List ℕ) (i : ℕ) → AreSteps made ids → i < length (steps_of made) → AreSteps made (ids ++ i ∷ [])
AreSteps-push made ids i h l = All-append (λ j. j < length (steps_of made)) ids (i ∷ []) h (l, tt {0})
