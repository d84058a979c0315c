-- What the verdict on a module, with rechecks of sorts or without, says under one budget for each declaration.
use Rattle.std.specs.Prelude.{◌≡◌, ℕ, ◌<◌, Bool, List, length}
use Rattle.lp_spec.specs.Modules.{Declaration}
use Rattle.lp_spec.specs.Typing.{WellTyped}
use Rattle.lp_spec.specs.Check.{Reply, No}
use Rattle.lp_spec.specs.FastCheck.{CheckBy}
use Rattle.lp_kernel.specs.declared.checks.Verdict.{Verdict}
use Rattle.lp_kernel.specs.declared.checks.Verdict.TheVariants as verdict
use Rattle.bridge_spec.specs.FileChecks.{PassFirst}
use Rattle.bridge_spec.specs.Texts.{checked_of, accepted_line}
use Rattle.bridge_answer.specs.declared.answer.Answer.{Answer}
use Rattle.bridge_answer.specs.declared.answer.Answer.TheVariants as answer

-- each passes, and the module is well typed
pub record Passes (rechecks : Bool) (m : List Declaration) : Type 0 where
  pub pass : PassFirst rechecks m (length m)
  pub typed : WellTyped m

-- those before it pass, and its own check says no
pub record Fails (rechecks : Bool) (m : List Declaration) (i : ℕ) : Type 0 where
  pub before : PassFirst rechecks m i
  pub price : ℕ
  pub no : CheckBy rechecks m i No price

-- those before it pass, and its own check does not end within the budget
pub record RunsOver (rechecks : Bool) (m : List Declaration) (budget i : ℕ) : Type 0 where
  pub is : i < length m
  pub before : PassFirst rechecks m i
  pub over : (reply : Reply) (price : ℕ) → CheckBy rechecks m i reply price → budget < price

abbrev pub IsJudged : Bool → List Declaration → ℕ → Verdict → Type 0
IsJudged rechecks m budget verdict.Accepted = Passes rechecks m
IsJudged rechecks m budget (verdict.IllTyped i) = Fails rechecks m i
IsJudged rechecks m budget (verdict.OverBudget i) = RunsOver rechecks m budget i

-- what is answered for a module: want of memory aside, its verdict, and with a yes the line that counts its declarations
abbrev pub IsAnswer : Bool → List Declaration → ℕ → Answer → Type 0
IsAnswer rechecks m budget (answer.Told text) = Passes rechecks m × (text.items ≡ accepted_line (checked_of m))
IsAnswer rechecks m budget (answer.IllTyped i) = Fails rechecks m i
IsAnswer rechecks m budget (answer.OverBudget i) = RunsOver rechecks m budget i
IsAnswer rechecks m budget answer.Memory = Unit {0}
IsAnswer rechecks m budget _ = ⊥
