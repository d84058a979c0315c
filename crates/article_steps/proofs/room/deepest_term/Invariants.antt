use Rattle.std.proofs.Common.{ℕ, ◌<◌, ◌≤◌, ◌-◌, ◌^◌, min}
use Rattle.hol_spec.specs.Limits.{term_depth}
use Rattle.hol_term.specs.Tables.{term_at}
use Rattle.article_steps.proofs.room.deepest_term.Given as goal

-- no term up to here is deeper
abbrev pub invariant-loop-i : goal.invariant-loop-i
invariant-loop-i l = (k : ℕ) → k < l.i → min (term_depth (term_at l.terms k)) (2 ^ 64 - 1) ≤ l.deepest
