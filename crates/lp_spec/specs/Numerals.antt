-- How a name writes a number: in decimal digits without leading zeros, however large it is.
use Rattle.std.specs.Prelude.{ℕ, zero, suc, ◌≡◌, ◌+◌, ◌/◌, ◌%◌, ◌&&◌, Bool, false, not, List, [], ◌∷◌, ◌++◌, nat_eq, nat_lt, nat_le, if◌then◌else◌}
use Rattle.std.specs.List.{list_all}

-- the last digits of a number, so many at most; 48 is `0`
abbrev pub last_digits : ℕ → ℕ → List ℕ
last_digits zero n = []
last_digits (suc k) n = if nat_lt n 10 then (48 + n) ∷ [] else last_digits k (n / 10) ++ (48 + n % 10) ∷ []

-- the digits of a number; a number n has no more than n + 1 of them
unfoldable pub numeral : ℕ → List ℕ
numeral n = last_digits (suc n) n

-- a text that writes a number
pub record IsNumeral (text : List ℕ) : Type 0 where
  pub number : ℕ
  pub is : text ≡ numeral number

-- the digits are the bytes from 48 to 57
abbrev pub is_decimal_digit : ℕ → Bool
is_decimal_digit b = nat_le 48 b && nat_le b 57

-- Whether a text writes a number: digits, the first of them no zero where there are more. That it decides it is `is_numeral-Decides`.
abbrev pub is_numeral : List ℕ → Bool
is_numeral [] = false
is_numeral (digit ∷ []) = is_decimal_digit digit
is_numeral (first ∷ second ∷ digits) = not (nat_eq first 48) && list_all is_decimal_digit (first ∷ second ∷ digits)
