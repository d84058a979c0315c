-- What this crate shows of names, one statement each.
use Rattle.std.specs.Prelude.{ℕ, ◌≡◌, List, Decides}
use Rattle.lp_spec.specs.Numerals.{numeral}
use Rattle.lp_spec.specs.ShortNames.{IsShortName, is_short_name}
use Rattle.translate_spec.specs.Stands.{IsExportName, is_export_name}

-- Different numbers are written differently, however large they are.
abbrev pub NumeralsDiffer : Type 0
NumeralsDiffer = (m n : ℕ) → numeral m ≡ numeral n → m ≡ n

-- The test of the names of exports tells them exactly.
abbrev pub ExportNamesTold : Type 0
ExportNamesTold = (name : List ℕ) → Decides (is_export_name name) (IsExportName name)

-- The test of short names tells them exactly.
abbrev pub ShortNamesTold : Type 0
ShortNamesTold = (name : List ℕ) → Decides (is_short_name name) (IsShortName name)
