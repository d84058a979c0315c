-- Amounts in 32 bits.
use Rattle.std.specs.Prelude.{◌≡◌, ℕ, ◌+◌, ◌-◌, ◌<◌, ◌^◌, nat_lt, if◌then◌else◌, List, ◌++◌, get_or}

-- the code of an amount where so many are large
abbrev pub IsCode : ℕ → ℕ → Type 0
IsCode count code = code < 2 ^ 31 + count

-- the amount of a code: itself where it is small, and else the one of that number among the large
abbrev pub amount_of : List ℕ → ℕ → ℕ
amount_of large code = if nat_lt code (2 ^ 31) then code else get_or large (code - 2 ^ 31) 0

-- the second list is the first with more
abbrev pub IsGrown : List ℕ → List ℕ → Type 0
IsGrown old new = (more : List ℕ) × (new ≡ old ++ more)
