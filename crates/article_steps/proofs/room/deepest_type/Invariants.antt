use Rattle.std.proofs.Common.{ℕ, ◌<◌, ◌≤◌, ◌-◌, ◌^◌, min}
use Rattle.hol_spec.specs.Limits.{type_depth}
use Rattle.hol_term.specs.Tables.{type_at}
use Rattle.article_steps.proofs.room.deepest_type.Given as goal

-- no type up to here is deeper
abbrev pub invariant-loop-i : goal.invariant-loop-i
invariant-loop-i l = (k : ℕ) → k < l.i → min (type_depth (type_at l.terms k)) (2 ^ 64 - 1) ≤ l.deepest
