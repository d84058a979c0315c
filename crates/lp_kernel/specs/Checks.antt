-- What a check says of a declaration, and a verdict of a module.
use Rattle.std.specs.Prelude.{◌≡◌, ℕ, ◌<◌, ◌≤◌, ◌-◌, Bool, List, length, slice_get, take, Option, Some}
use Rattle.lp_spec.specs.Trees.{Tree}
use Rattle.lp_spec.specs.Modules.{Declaration}
use Rattle.lp_spec.specs.Typing.{IsTypedAfter, WellTyped}
use Rattle.lp_term.specs.declared.LpId.{LpId}
use Rattle.lp_term.specs.Tables.{tree_at}
use Rattle.holide_sig.specs.declared.module.Module.{Module}
use Rattle.holide_sig.specs.Modules.{declarations_of}
use Rattle.lp_spec.specs.Check.{body_plan, Reply, Found, No, Plan}
use Rattle.lp_spec.specs.FastCheck.{CheckBy, PassesBy}
use Rattle.lp_conv.specs.Answers.{Answered, IsOver}
use Rattle.lp_conv.specs.HeadSteps.{tree_if}
use Rattle.lp_conv.specs.declared.Answer.{Answer}
use Rattle.lp_conv.specs.declared.Answer.TheVariants as answer
use Rattle.lp_kernel.specs.declared.checks.Verdict.{Verdict}
use Rattle.lp_kernel.specs.declared.checks.Verdict.TheVariants as verdict

-- the plan ends as the answer says, with rechecks of sorts or without, where it finds this tree or none and the budget fell from old to new
abbrev pub IsReplied : Bool → List Declaration → Plan → Tree → ℕ → ℕ → Answer → Type 0
IsReplied rechecks ds p E old new answer.Yes = Answered ds rechecks p (Found E) (old - new)
IsReplied rechecks ds p E old new answer.No = Answered ds rechecks p No (old - new)
IsReplied rechecks ds p E old new answer.Over = IsOver ds rechecks p old

-- the check of a body, where there is one, ends as the answer says
abbrev pub IsBodyChecked : Bool → Module → LpId → Option LpId → ℕ → ℕ → Answer → Type 0
IsBodyChecked rechecks m ty body old new a =
    IsReplied rechecks (declarations_of m) (body_plan (tree_at m.table ty.0) (tree_if m.table body)) (tree_at m.table ty.0) old new a

-- the check of the declaration says yes, at a price that covers what was spent
pub record SaysYes (rechecks : Bool) (ds : List Declaration) (i : ℕ) (spent : ℕ) : Type 0 where
  pub found : Tree
  pub price : ℕ
  pub by : CheckBy rechecks ds i (Found found) price
  pub within : spent ≤ price

-- the check of the declaration says no, at a price that covers what was spent
pub record SaysNo (rechecks : Bool) (ds : List Declaration) (i : ℕ) (spent : ℕ) : Type 0 where
  pub price : ℕ
  pub by : CheckBy rechecks ds i No price
  pub within : spent ≤ price

-- the check of the declaration does not end at a price within the budget
abbrev pub IsOverBudget : Bool → List Declaration → ℕ → ℕ → Type 0
IsOverBudget rechecks ds i budget = (reply : Reply) (price : ℕ) → CheckBy rechecks ds i reply price → budget < price

-- the check of the declaration ends as the answer says, where the budget fell from old to new
abbrev pub IsChecked : Bool → List Declaration → ℕ → ℕ → ℕ → Answer → Type 0
IsChecked rechecks ds i old new answer.Yes = SaysYes rechecks ds i (old - new)
IsChecked rechecks ds i old new answer.No = SaysNo rechecks ds i (old - new)
IsChecked rechecks ds i old new answer.Over = IsOverBudget rechecks ds i old

-- the declaration is typed over those before it, if they are well typed
pub record IsTypedAt (ds : List Declaration) (i : ℕ) : Type 0 where
  pub declaration : Declaration
  pub at : slice_get ds i ≡ Some declaration
  pub typed : WellTyped (take i ds) → IsTypedAfter (take i ds) declaration

-- the check of each of the first declarations says yes
abbrev pub PassBelow : Bool → List Declaration → ℕ → Type 0
PassBelow rechecks ds count = (k : ℕ) → k < count → PassesBy rechecks ds k

-- the checks of those before the declaration say yes, and its own says no
pub record IsIllTyped (rechecks : Bool) (ds : List Declaration) (i : ℕ) : Type 0 where
  pub before : PassBelow rechecks ds i
  pub price : ℕ
  pub no : CheckBy rechecks ds i No price

-- the checks of those before the declaration say yes, and its own does not end within its budget
pub record IsPastBudget (rechecks : Bool) (ds : List Declaration) (budgets : List ℕ) (i : ℕ) : Type 0 where
  pub before : PassBelow rechecks ds i
  pub budget : ℕ
  pub at : slice_get budgets i ≡ Some budget
  pub over : IsOverBudget rechecks ds i budget

-- the verdict is right
abbrev pub IsJudged : Bool → List Declaration → List ℕ → Verdict → Type 0
IsJudged rechecks ds budgets verdict.Accepted = PassBelow rechecks ds (length ds)
IsJudged rechecks ds budgets (verdict.IllTyped i) = IsIllTyped rechecks ds i
IsJudged rechecks ds budgets (verdict.OverBudget i) = IsPastBudget rechecks ds budgets i

-- the check of the declaration ends in this reply at a price of at most its budget
pub record EndsWithin (rechecks : Bool) (ds : List Declaration) (budgets : List ℕ) (i : ℕ) (reply : Reply) : Type 0 where
  pub price : ℕ
  pub by : CheckBy rechecks ds i reply price
  pub budget : ℕ
  pub at : slice_get budgets i ≡ Some budget
  pub within : price ≤ budget

-- the check of each of the first declarations says yes at a price of at most its budget
abbrev pub PassWithin : Bool → List Declaration → List ℕ → ℕ → Type 0
PassWithin rechecks ds budgets count = (k : ℕ) → k < count → (found : Tree) × EndsWithin rechecks ds budgets k (Found found)

-- and that of the next says no at a price of at most its budget
pub record IsRefusedWithin (rechecks : Bool) (ds : List Declaration) (budgets : List ℕ) (i : ℕ) : Type 0 where
  pub before : PassWithin rechecks ds budgets i
  pub no : EndsWithin rechecks ds budgets i No
