use Rattle.std.proofs.Common.{◌≡◌, ◌<◌, ℕ, true}
use Rattle.article_lines.specs.Flagged.{flag}
use Rattle.article_reach.proofs.least.first_unset.Given as goal

abbrev pub invariant-loop-place : goal.invariant-loop-place
invariant-loop-place l = (i : ℕ) → i < l.place → flag l.flags i ≡ true
