-- What the spelling of a name stands for.
use Rattle.std.specs.Prelude.{ℕ, ◌<◌, List, length}
use Rattle.name_table.specs.declared.spelling.Bytes.{Bytes}
use Rattle.name_table.specs.declared.spelling.Bytes.TheVariants as spelled
use Rattle.name_table.specs.Spellings.{unpacked, IsShort}

-- the bytes of a name
abbrev pub bytes_in : Bytes → List ℕ
bytes_in (spelled.Short n) = unpacked n
bytes_in (spelled.Long bytes) = bytes.items

-- a short name's number is that of its bytes, and a longer name is longer
abbrev pub IsSpelling : Bytes → Type 0
IsSpelling (spelled.Short n) = IsShort n
IsSpelling (spelled.Long bytes) = 15 < length bytes.items
