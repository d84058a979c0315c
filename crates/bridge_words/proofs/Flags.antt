-- The rows of flags: `--share` and `--fast`.
use Rattle.std.proofs.Common.{◌≡◌, ◌∙◌, ◌++◌, ◌||◌, Bool, true, false, List, [], ◌∷◌, Option, Some, None, codes, refl, ap, is_some}
use Rattle.std.specs.Prelude.{if◌then◌else◌, option_and_then, unwrap_or, slice_get}
use Rattle.std.specs.Str.{bytes_eq}
use Rattle.clap.specs.Walk.{Rule, Row, Text, reading_by, used, has_row, with_values, with_default, default_rows}
use Rattle.clap.specs.declared.parser.matches.ValueSource.TheVariants.{CommandLine, DefaultValue}
use Rattle.bridge_words.specs.Matches.{flag_in}
use Rattle.bridge_words.proofs.BuiltCommand.{flag_arg}
use Rattle.bridge_words.proofs.Rows.{row_at, with_values-None, without-None, row_at-other, row_at-same, has_row-at}

-- the row of a use
abbrev pub row_of_use : Rule → List Text → Row
row_of_use a values = record { id = a.id; values = values; count = None; source = Some CommandLine; reading = reading_by a }

-- the row of a flag that is among the words, and of one that is not
abbrev pub flag_row : Text → Row
flag_row name = row_of_use (flag_arg name) (codes "true" ∷ [])

abbrev pub default_row : Text → Row
default_row name = record { id = name; values = codes "false" ∷ []; count = None; source = Some DefaultValue; reading = reading_by (flag_arg name) }

-- the row where a flag is among the words
abbrev pub row_if : Bool → Row → Option Row
row_if x r = if x then Some r else None

-- the rows with the default of a flag
abbrev pub with_flag : Text → Bool → List Row → List Row
with_flag name true rows = rows
with_flag name false rows = rows ++ default_row name ∷ []

-- a use that is the first puts its row last
pub used-flag : (name : Text) (rows : List Row) → row_at name rows ≡ None → used (flag_arg name) [] rows ≡ rows ++ flag_row name ∷ []
used-flag name rows h =
    ap (λ rs. with_values name (reading_by (flag_arg name)) CommandLine (codes "true" ∷ []) rs) (without-None name rows h)
    ∙ with_values-None name (reading_by (flag_arg name)) CommandLine (codes "true" ∷ []) rows h

-- there is a row where the flag is among the words
pub has_flag : (name : Text) (x : Bool) (rows : List Row) → row_at name rows ≡ row_if x (flag_row name) → has_row name rows ≡ x
has_flag name x rows h = has_row-at name rows ∙ ap is_some h ∙ go x
  where
    go : (x : Bool) → is_some (row_if x (flag_row name)) ≡ x
    go true = refl
    go false = refl

-- an argument without defaults adds no row
pub no-default : (rows : List Row) (a : Rule) → a.defaults ≡ [] → with_default rows a ≡ rows
no-default rows a e = go (has_row a.id rows)
  where
    go : (b : Bool) → (if b then rows else default_rows a.id (reading_by a) a.defaults rows) ≡ rows
    go true = refl
    go false = ap (λ ds. default_rows a.id (reading_by a) ds rows) e

pub flag-default : (name : Text) (x : Bool) (rows : List Row) → row_at name rows ≡ row_if x (flag_row name) → with_default rows (flag_arg name)
    ≡ with_flag name x rows
flag-default name true rows h = rw (has_flag name true rows h) refl
flag-default name false rows h = rw (has_flag name false rows h) (with_values-None name (reading_by (flag_arg name)) DefaultValue (codes "false" ∷ []) rows h)

-- the row of another argument stays
pub row_at-with_flag : (name other : Text) (x : Bool) (rows : List Row) → bytes_eq name other ≡ false → row_at other (with_flag name x rows) ≡ row_at other rows
row_at-with_flag name other true rows e = refl
row_at-with_flag name other false rows e = row_at-other other (default_row name) rows e

-- what a row says of its flag
abbrev pub says : Option Row → Bool
says row = bytes_eq (unwrap_or (option_and_then (λ r. slice_get r.values 0) row) []) (codes "true")

says-row_if : (name : Text) (x : Bool) (row : Option Row) → row ≡ row_if x (flag_row name) → says row ≡ x
says-row_if name true row h = rw h refl
says-row_if name false row h = rw h refl

-- a flag is found where it is among the words
pub flag_in-with_flag : (name : Text) (x : Bool) (rows : List Row) → bytes_eq name name ≡ true → row_at name rows ≡ row_if x (flag_row name)
    → flag_in name (with_flag name x rows) ≡ x
flag_in-with_flag name true rows e h = says-row_if name true (row_at name rows) h
flag_in-with_flag name false rows e h = ap says (row_at-same name (default_row name) rows e h)

pub or_true : (b : Bool) → (b || true) ≡ true
or_true true = refl
or_true false = refl
