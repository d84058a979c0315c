-- Files of which one is read.
use Rattle.std.specs.Prelude.{ℕ, List, [], map, drop, Option, None, Some, slice_get, option_map, String, string_bytes, Vec}
use Rattle.std.specs.declared.alloc.Global.{Global}
use Rattle.bridge_base.specs.Outside.{Files, file}

-- a file as the program keeps it: its name and its bytes
abbrev pub Entry : Type 0
Entry = String Global × Vec ℕ Global

-- the files that are kept, by name
abbrev pub as_files : List Entry → Files
as_files entries = map (λ entry. (string_bytes entry.0, entry.1.items)) entries

-- the bytes of the file at that place, if there is one
abbrev pub bytes_at : List Entry → Option ℕ → Option (List ℕ)
bytes_at entries None = None
bytes_at entries (Some place) = option_map (λ entry. entry.1.items) (slice_get entries place)

-- the files, and what is left of the one begun
pub record Opened : Type 0 where
  pub files : Files
  pub left : List ℕ

-- at the first byte of the file of that name
abbrev pub begun : Opened → List ℕ → Opened
begun opened name = record { files = opened.files; left = file opened.files name }

-- at no file
abbrev pub closed : Opened → Opened
closed opened = record { files = opened.files; left = [] }

-- after these many bytes were read
abbrev pub advanced : Opened → ℕ → Opened
advanced opened count = record { files = opened.files; left = drop count opened.left }
