use Rattle.std.proofs.Common.{ℕ, ◌<◌}
use Rattle.article_write.specs.Pairs.{IsFollowed}
use Rattle.article_write.proofs.pairs.are_paired.Given as goal

abbrev pub invariant-loop-step : goal.invariant-loop-step
invariant-loop-step l = (i : ℕ) → i < l.step → IsFollowed l.proof i
