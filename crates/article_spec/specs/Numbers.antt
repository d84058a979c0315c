-- The numbers that lines write.
-- Source: the OpenTheory article file format, version 6, "Numbers".
use Rattle.std.specs.Prelude.{ℕ, ◌+◌, ◌-◌, ◌*◌, ◌==◌, ◌&&◌, ℤ, pos, negsuc, neg_ℤ, int_le, nat_le, Bool, if◌then◌else◌, List, [], ◌∷◌, Option, None, Some}
use Rattle.std.specs.List.{fold, list_all}
use Rattle.std.specs.Option.{option_map}

-- the byte `-`
abbrev pub minus : ℕ
minus = 45

-- one of the bytes `0` to `9`
abbrev pub is_digit : ℕ → Bool
is_digit b = nat_le 48 b && nat_le b 57

-- the value of decimal digits
abbrev pub decimal : List ℕ → ℕ
decimal digits = fold (λ value digit. 10 * value + (digit - 48)) 0 digits

-- the value of a text of one or more digits
abbrev pub digits_value : List ℕ → Option ℕ
digits_value [] = None
digits_value (d ∷ digits) = if list_all is_digit (d ∷ digits) then Some (decimal (d ∷ digits)) else None

-- the number that a line writes: one or more digits, with or without a minus sign before them
abbrev pub number_of : List ℕ → Option ℤ
number_of [] = None
number_of (b ∷ text) = if b == minus then option_map (λ n. neg_ℤ (pos n)) (digits_value text) else option_map (λ n. pos n) (digits_value (b ∷ text))

-- a number in the range of 64 bits
abbrev pub is_in_range : ℤ → Bool
is_in_range z = int_le (negsuc 9223372036854775807) z && int_le z (pos 9223372036854775807)
