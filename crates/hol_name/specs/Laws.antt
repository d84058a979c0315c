-- The laws of reading names and of their mangled texts.
use Rattle.std.specs.Prelude.{ℕ, ◌≡◌, ◌↔◌, List, Some}
use Rattle.hol_spec.specs.Names.{Name, IsNameLine}
use Rattle.hol_spec.specs.NameOf.{name_of}
use Rattle.hol_spec.specs.Mangling.{mangled, IsName}

-- the name that is read from a line is the one that it writes
abbrev pub OneName : Type 0
OneName = (line : List ℕ) (name : Name) → (name_of line ≡ Some name) ↔ IsNameLine line name

-- names with one mangled text are one
abbrev pub OneMangling : Type 0
OneMangling = (m n : Name) → IsName m → IsName n → mangled m ≡ mangled n → m ≡ n
