-- When it is time to look which names and cells are held.
use Rattle.std.specs.Prelude.{ℕ, ◌+◌, ◌*◌, ◌≤◌, length}
use Rattle.stack_machine.specs.Stored.{Stored}

-- how many names and cells are kept
abbrev pub kept_count : Stored → ℕ
kept_count m = length m.names + length m.lists

-- they are 4,096 or more, as many as the objects, and twice as many as were left the last time
pub record IsCrowded (m : Stored) (objects left : ℕ) : Type 0 where
  pub many : 4096 ≤ kept_count m
  pub as_many : objects ≤ kept_count m
  pub twice : left * 2 ≤ kept_count m
