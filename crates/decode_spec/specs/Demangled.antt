-- The name that has a mangled text, where one has it.
use Rattle.std.specs.Prelude.{ℕ, ◌+◌, ◌-◌, ◌*◌, nat_lt, nat_eq, List, [], ◌∷◌, not, Option, None, Some, if◌then◌else◌}
use Rattle.std.specs.Option.{option_map}
use Rattle.std.specs.Char.{is_ascii_alphanumeric}
use Rattle.hol_spec.specs.Names.{Name}
use Rattle.hol_spec.specs.NameOf.{with_byte}
use Rattle.hol_spec.specs.Mangling.{underscore}
use Rattle.decode_spec.specs.Options.{bind, both, provided}

-- the value of a lower-case hexadecimal digit
abbrev pub hex_value : ℕ → Option ℕ
hex_value c =
    if nat_lt c 48 then None
    else (if nat_lt c 58 then Some (c - 48)
    else (if nat_lt c 97 then None
    else (if nat_lt c 103 then Some (c - 87) else None)))

-- the byte with these two digits, which is neither a letter nor a decimal digit
abbrev pub other_byte : ℕ → Option ℕ
other_byte b = provided (not (is_ascii_alphanumeric b)) (Some b)

abbrev pub byte_of : ℕ → ℕ → Option ℕ
byte_of c e = bind (both (λ h l. h * 16 + l) (hex_value c) (hex_value e)) other_byte

abbrev mutual
  pub demangled : List ℕ → Option Name
  demangled [] = Some ([] ∷ [])
  demangled (b ∷ text) = if is_ascii_alphanumeric b then option_map (with_byte b) (demangled text) else provided (nat_eq b underscore) (escaped text)

  pub escaped : List ℕ → Option Name
  escaped [] = None
  escaped (c ∷ text) = if nat_eq c underscore then option_map (λ name. [] ∷ name) (demangled text) else two_digits text c

  pub two_digits : List ℕ → ℕ → Option Name
  two_digits [] c = None
  two_digits (e ∷ text) c = both with_byte (byte_of c e) (demangled text)
