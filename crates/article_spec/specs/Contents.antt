-- What one line of an article says.
-- Source: the OpenTheory article file format, version 6, "Format".
use Rattle.std.specs.Prelude.{ℕ, ◌==◌, ◌||◌, ℤ, Bool, if◌then◌else◌, List, [], ◌∷◌, reverse, Option, unwrap_or}
use Rattle.std.specs.Option.{option_map, option_or}
use Rattle.common.specs.declared.faults.Kind.{Kind}
use Rattle.common.specs.declared.faults.Kind.TheVariants as kind
use Rattle.hol_spec.specs.NameOf.{name_of}
use Rattle.article_spec.specs.declared.commands.Item.{Item}
use Rattle.article_spec.specs.declared.commands.Item.TheVariants as item
use Rattle.article_spec.specs.Numbers.{number_of, is_in_range}
use Rattle.article_spec.specs.Words.{word_of}

-- a line is skipped, or it is a command, or it is at fault
pub data Content : Type 0 where
  skipped : Content
  command : Item → Content
  faulty : Kind → Content

-- a blank, a tab or a carriage return
abbrev pub is_blank : ℕ → Bool
is_blank b = (b == 32) || (b == 9) || (b == 13)

-- the line without the blanks at its front
abbrev pub drop_blanks : List ℕ → List ℕ
drop_blanks [] = []
drop_blanks (b ∷ line) = if is_blank b then drop_blanks line else (b ∷ line)

-- the line without the blanks at its ends
abbrev pub trimmed : List ℕ → List ℕ
trimmed line = reverse (drop_blanks (reverse (drop_blanks line)))

-- the byte `#`, with which a comment begins
abbrev pub number_sign : ℕ
number_sign = 35

-- a number is a command where it is in range
abbrev pub number_content : ℤ → Content
number_content z = if is_in_range z then command (item.Number z) else faulty kind.NumberRange

-- what a line says as a number, as a name, as a word
abbrev pub as_number : List ℕ → Option Content
as_number line = option_map number_content (number_of line)

abbrev pub as_name : List ℕ → Option Content
as_name line = option_map (λ name. command (item.Name name)) (name_of line)

abbrev pub as_word : List ℕ → Option Content
as_word line = option_map (λ word. command (item.Word word)) (word_of line)

-- what a line says that is not skipped: it is a number, a name or a word, or it is a bad line
abbrev pub item_content : List ℕ → Content
item_content line = unwrap_or (option_or (as_number line) (option_or (as_name line) (as_word line))) (faulty kind.BadLine)

-- what a line without blanks at its ends says: an empty line and a comment are skipped
abbrev pub said : List ℕ → Content
said [] = skipped
said (b ∷ text) = if b == number_sign then skipped else item_content (b ∷ text)

-- what a line says
abbrev pub content : List ℕ → Content
content line = said (trimmed line)
