-- What the reader finds out about one line.
use Rattle.std.specs.Prelude.{◌≡◌, ℕ, if◌then◌else◌, List, [], ◌∷◌, Option, None, Some}
use Rattle.std.specs.Str.{bytes_eq}
use Rattle.common.specs.declared.faults.Kind.TheVariants as kind
use Rattle.article_spec.specs.declared.commands.Item.TheVariants as item
use Rattle.article_spec.specs.declared.commands.Word.{Word}
use Rattle.article_spec.specs.Contents.{Content, skipped, command, faulty}
use Rattle.article_read.specs.declared.number.Numeral.{Numeral}
use Rattle.article_read.specs.declared.number.Numeral.TheVariants.{Number, OutOfRange, Other}
use Rattle.article_read.specs.declared.content.Judgement.{Judgement}
use Rattle.article_read.specs.declared.content.Judgement.TheVariants as judgement

-- what a line says as a number
abbrev pub numeral_content : Numeral → Option Content
numeral_content (Number z) = Some (command (item.Number z))
numeral_content OutOfRange = Some (faulty kind.NumberRange)
numeral_content Other = None

-- the judgement is what the line says; want of memory says nothing of it
abbrev pub Judges : Judgement → Content → Type 0
Judges judgement.Skipped says = says ≡ skipped
Judges (judgement.Command i) says = says ≡ command i
Judges (judgement.Faulty k) says = says ≡ faulty k
Judges judgement.Memory says = Unit {0}

-- the word of the first entry of a table that is written like the text
abbrev pub looked_up : List ℕ → List (List ℕ × Word) → Option Word
looked_up text [] = None
looked_up text (entry ∷ table) = if bytes_eq text entry.0 then Some entry.1 else looked_up text table
