-- Which theorems have no key yet, while the steps are written in order.
use Rattle.std.specs.Prelude.{◌≢◌, ℕ, suc, ◌<◌, List, length}
use Rattle.hol_spec.specs.Proofs.{Step}
use Rattle.hol_spec.specs.declared.StepKind.{StepKind}
use Rattle.hol_spec.specs.declared.StepKind.TheVariants.{FirstLaw, SecondLaw}
use Rattle.hol_rules.specs.Views.{step_in}
use Rattle.article_lines.specs.Things.{Keyed}
use Rattle.article_lines.specs.NewSteps.{IsNew}

-- the theorem of a number is behind those that a step keeps: a first law keeps the second too
abbrev pub IsBehind : StepKind → ℕ → ℕ → Type 0
IsBehind FirstLaw i j = suc i < j
IsBehind kind i j = i < j

-- The theorems from a step on have no key, but for a second law, which was made with the first.
pub record AreNewFrom (steps : List Step) (keys : Keyed) (i : ℕ) : Type 0 where
  pub here : i < length steps → (step_in steps i).kind ≢ SecondLaw → IsNew keys i
  pub behind : (j : ℕ) → i < j → j < length steps → IsNew keys j
