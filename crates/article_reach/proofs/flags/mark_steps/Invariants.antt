use Rattle.std.proofs.Common.{◌≡◌, ◌||◌, ℕ, length, take}
use Rattle.article_lines.specs.Flagged.{flag}
use Rattle.article_reach.specs.Least.{is_among}
use Rattle.article_reach.proofs.flags.mark_steps.Given as goal

abbrev pub invariant-loop-id : goal.invariant-loop-id
invariant-loop-id l = record {
  count : length l.flags.items ≡ length l.fn.flags.items;
  each : (i : ℕ) → flag l.flags.items i ≡ (flag l.fn.flags.items i || is_among (take l.id-index l.ids) i);
}
