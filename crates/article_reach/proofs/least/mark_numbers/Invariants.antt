use Rattle.std.proofs.Common.{◌≡◌, ◌<◌, ◌||◌, ℕ, length, take}
use Rattle.article_lines.specs.Flagged.{flag}
use Rattle.article_reach.specs.Least.{is_among}
use Rattle.article_reach.proofs.least.mark_numbers.Given as goal

abbrev pub invariant-loop-number : goal.invariant-loop-number
invariant-loop-number l = record {
  count : length l.flags.items ≡ length l.fn.flags.items;
  each : (i : ℕ) → i < length l.fn.flags.items → flag l.flags.items i ≡ (flag l.fn.flags.items i || is_among (take l.number-index l.numbers) i);
}
