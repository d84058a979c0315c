-- Numbers that stop at the greatest u128.
use Rattle.std.specs.Prelude.{ℕ, min}
use Rattle.lp_spec.specs.Weight.{greatest}

-- the number, or the greatest u128 if it is more
abbrev pub saturated : ℕ → ℕ
saturated n = min n greatest
