-- The verdict under one budget for each declaration.
use Rattle.std.proofs.Common.{◌≡◌, ◌<◌, ℕ, Bool, List, length, replicate, Some, Result, Ok, Err, IfOk, refl, sym, subst, ◌∙◌}
use Rattle.std.specs.Prelude.{slice_get}
use Rattle.std.proofs.lemmas.List.{length-replicate, get_or-replicate}
use Rattle.std.proofs.lemmas.Option.{slice_get_within, get_or_from_slice_get}
use Rattle.common.specs.declared.faults.Memory.{Memory}
use Rattle.lp_spec.specs.Modules.{Declaration}
use Rattle.lp_spec.specs.Typing.{WellTyped}
use Rattle.lp_kernel.specs.declared.checks.Verdict.{Verdict}
use Rattle.lp_kernel.specs.declared.checks.Verdict.TheVariants as verdict
use Rattle.lp_kernel.specs.Checks as kernel
use Rattle.bridge_check.specs.Verdicts.{IsJudged}

-- what stands at a place of copies is the one that was copied
copied : (n x i y : ℕ) → slice_get (replicate n x) i ≡ Some y → (i < n) × (y ≡ x)
copied n x i y h =
    let within : i < n = subst (λ k. i < k) (length-replicate n x) (slice_get_within (replicate n x) i y h) in
    (within, sym (get_or_from_slice_get (replicate n x) i y y h) ∙ get_or-replicate n i x y within)

pub judged-one : (rechecks : Bool) (m : List Declaration) (budget : ℕ) (v : Verdict) → kernel.IsJudged rechecks m (replicate (length m) budget) v
    → (v ≡ verdict.Accepted → WellTyped m) → IsJudged rechecks m budget v
judged-one rechecks m budget verdict.Accepted h typed = record { pass = h; typed = typed refl }
judged-one rechecks m budget (verdict.IllTyped i) h typed = record { before = h.before; price = h.price; no = h.no }
judged-one rechecks m budget (verdict.OverBudget i) h typed =
    let at = copied (length m) budget i h.budget h.at in
    record { is = at.0; before = h.before; over = λ reply price by. subst (λ b. b < price) at.1 (h.over reply price by) }

-- the verdict that is answered
pub judged-all : (rechecks : Bool) (m : List Declaration) (budget : ℕ) (budgets : List ℕ) (r : Result Verdict Memory) → budgets ≡ replicate (length m) budget
    → IfOk r (kernel.IsJudged rechecks m budgets)
    → IfOk r (λ v. v ≡ verdict.Accepted → WellTyped m) → IfOk r (IsJudged rechecks m budget)
judged-all rechecks m budget budgets (Ok v) e h typed = judged-one rechecks m budget v (subst (λ bs. kernel.IsJudged rechecks m bs v) e h) typed
judged-all rechecks m budget budgets (Err f) e h typed = tt
