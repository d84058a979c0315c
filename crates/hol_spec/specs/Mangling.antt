-- The text of a name in the name of a symbol: ASCII letters and digits stand for themselves, any other byte as `_` and two
-- hexadecimal digits, and `__` stands between components.
-- Source: Dedukti, whose plain identifiers have letters, digits and `_` alone.
use Rattle.std.specs.Prelude.{ℕ, ◌<◌, ◌+◌, ◌/◌, ◌%◌, nat_lt, if◌then◌else◌, List, [], ◌∷◌}
use Rattle.std.specs.List.{AllByRecursion}
use Rattle.std.specs.Char.{is_ascii_alphanumeric}
use Rattle.hol_spec.specs.Names.{Name}

-- the byte `_`
abbrev pub underscore : ℕ
underscore = 95

-- the lower-case hexadecimal digit of a number below 16
abbrev pub hex_digit : ℕ → ℕ
hex_digit n = if nat_lt n 10 then n + 48 else n + 87

-- a component, followed by other text
abbrev pub mangled_before : List ℕ → List ℕ → List ℕ
mangled_before [] rest = rest
mangled_before (b ∷ bs) rest =
    if is_ascii_alphanumeric b then b ∷ mangled_before bs rest
    else underscore ∷ hex_digit (b / 16) ∷ hex_digit (b % 16) ∷ mangled_before bs rest

-- the components after the first, each after its boundary
abbrev pub mangled_more : Name → List ℕ
mangled_more [] = []
mangled_more (bytes ∷ name) = underscore ∷ underscore ∷ mangled_before bytes (mangled_more name)

abbrev pub mangled : Name → List ℕ
mangled [] = []
mangled (bytes ∷ name) = mangled_before bytes (mangled_more name)

-- a name has a component, and its components are bytes
abbrev pub AreBytes : List ℕ → Type 0
AreBytes bytes = AllByRecursion (λ b. b < 256) bytes

abbrev pub IsName : Name → Type 0
IsName [] = ⊥
IsName (bytes ∷ name) = AreBytes bytes × AllByRecursion AreBytes name
