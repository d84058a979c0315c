-- The greatest length that is told: the greatest u128.
use Rattle.std.specs.Prelude.{ℕ}

abbrev pub greatest_length : ℕ
greatest_length = 340282366920938463463374607431768211455
