-- A short name as a number.
use Rattle.std.specs.Prelude.{◌≡◌, ℕ, zero, suc, ◌+◌, ◌*◌, ◌/◌, ◌%◌, List, [], ◌∷◌}

-- the bytes as the digits of a number, each by one more than it is, the first one the lowest
abbrev pub packed : List ℕ → ℕ
packed [] = 0
packed (b ∷ bs) = suc (packed bs * 256 + b)

-- at most so many digits of a number, as bytes
abbrev pub digits : ℕ → ℕ → List ℕ
digits zero n = []
digits (suc count) zero = []
digits (suc count) (suc n) = n % 256 ∷ digits count (n / 256)

-- the short name of a number
abbrev pub unpacked : ℕ → List ℕ
unpacked n = digits 15 n

-- the number is that of a short name
abbrev pub IsShort : ℕ → Type 0
IsShort n = packed (unpacked n) ≡ n
