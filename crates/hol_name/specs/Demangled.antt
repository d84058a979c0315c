-- Which texts are those of no name, and which bytes are written by two digits.
use Rattle.std.specs.Prelude.{ℕ, ◌≡◌, ◌/◌, ◌%◌, List, IsFalse}
use Rattle.std.specs.Char.{is_ascii_alphanumeric}
use Rattle.hol_spec.specs.Names.{Name}
use Rattle.hol_spec.specs.Mangling.{hex_digit, mangled, IsName}

-- no name has the text
abbrev pub HasNoName : List ℕ → Type 0
HasNoName text = (name : Name) → IsName name → mangled name ≡ text → ⊥

-- the byte is neither letter nor digit and has these two hexadecimal digits
pub record IsEscaped (byte high low : ℕ) : Type 0 where
  pub other : IsFalse (is_ascii_alphanumeric byte)
  pub high_digit : hex_digit (byte / 16) ≡ high
  pub low_digit : hex_digit (byte % 16) ≡ low
