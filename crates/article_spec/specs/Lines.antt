-- The lines of an article, and the commands that they give.
-- Source: the OpenTheory article file format, versions 5 and 6, "Format". The limits are this reader's own.
use Rattle.std.specs.Prelude.{ℕ, ◌≡◌, ◌≢◌, ◌+◌, ◌<◌, ◌≤◌, List, [], ◌∷◌, ◌++◌, length}
use Rattle.std.specs.List.{AllByRecursion}
use Rattle.common.specs.declared.faults.Kind.{Kind}
use Rattle.common.specs.declared.faults.Kind.TheVariants as kind
use Rattle.article_spec.specs.declared.commands.Command.{Command}
use Rattle.article_spec.specs.declared.commands.Item.{Item}
use Rattle.article_spec.specs.Contents.{Content, skipped, command, faulty, content}

-- the byte LF, which ends a line
abbrev pub newline : ℕ
newline = 10

abbrev pub IsLine : List ℕ → Type 0
IsLine bytes = AllByRecursion (λ b. b ≢ newline) bytes

-- a line has at most this many bytes without its newline, an article this many in all
abbrev pub max_line : ℕ
max_line = 1048576

abbrev pub max_article : ℕ
max_article = 4294967296

-- the command of this line
abbrev pub command_at : ℕ → Item → Command
command_at n i = record { line = n; item = i }

-- from offset o on, the text begins with a line that is ended, within the limits, and says this
pub record EndedLine (o : ℕ) (text line more : List ℕ) (says : Content) : Type 0 where
  pub is : text ≡ line ++ newline ∷ more
  pub one_line : IsLine line
  pub short : length line ≤ max_line
  pub within : o + length line < max_article
  pub means : content line ≡ says

-- from offset o on, the text is one line without its end, within the limits
pub record OpenLine (o : ℕ) (line : List ℕ) : Type 0 where
  pub one_line : IsLine line
  pub short : length line ≤ max_line
  pub within : o + length line ≤ max_article

-- from offset o on, the first line has a byte past its limit, which comes no later than the one past the article's
pub record LongLine (o : ℕ) (text : List ℕ) : Type 0 where
  pub line : List ℕ
  pub byte : ℕ
  pub more : List ℕ
  pub is : text ≡ line ++ byte ∷ more
  pub one_line : IsLine line
  pub other : byte ≢ newline
  pub full : length line ≡ max_line
  pub within : o + max_line ≤ max_article

-- from offset o on, the first line, its newline with it, has the byte past the article's limit, and before it none past its own
pub record LongArticle (o : ℕ) (text : List ℕ) : Type 0 where
  pub line : List ℕ
  pub byte : ℕ
  pub more : List ℕ
  pub is : text ≡ line ++ byte ∷ more
  pub one_line : IsLine line
  pub short : length line ≤ max_line
  pub first : length line ≡ max_line → byte ≡ newline
  pub full : o + length line ≡ max_article

-- From line n at offset o on, the ended lines of the text give these commands; the open line behind them has this number, offset and text.
pub data Opens : ℕ → ℕ → List ℕ → List Command → ℕ → ℕ → List ℕ → Type 0 where
  open_line : {n o : ℕ} {line : List ℕ} → OpenLine o line → Opens n o line [] n o line
  skips : {n o m p : ℕ} {text line more rest : List ℕ} {commands : List Command} → EndedLine o text line more skipped
      → Opens (n + 1) (o + length line + 1) more commands m p rest → Opens n o text commands m p rest
  gives : {n o m p : ℕ} {text line more rest : List ℕ} {i : Item} {commands : List Command} → EndedLine o text line more (command i)
      → Opens (n + 1) (o + length line + 1) more commands m p rest → Opens n o text (command_at n i ∷ commands) m p rest

-- From line n at offset o on, the text gives these commands before a line that is ended and at fault, or past a limit; that line has this number and the fault this kind.
pub data Stops : ℕ → ℕ → List ℕ → List Command → ℕ → Kind → Type 0 where
  faults : {n o : ℕ} {text line more : List ℕ} {k : Kind} → EndedLine o text line more (faulty k) → Stops n o text [] n k
  long_line : {n o : ℕ} {text : List ℕ} → LongLine o text → Stops n o text [] n kind.LineTooLong
  long_article : {n o : ℕ} {text : List ℕ} → LongArticle o text → Stops n o text [] n kind.InputTooLong
  skips_on : {n o m : ℕ} {text line more : List ℕ} {commands : List Command} {k : Kind} → EndedLine o text line more skipped
      → Stops (n + 1) (o + length line + 1) more commands m k → Stops n o text commands m k
  gives_on : {n o m : ℕ} {text line more : List ℕ} {i : Item} {commands : List Command} {k : Kind} → EndedLine o text line more (command i)
      → Stops (n + 1) (o + length line + 1) more commands m k → Stops n o text (command_at n i ∷ commands) m k

-- an article ends at a line, or it has a first faulty line
pub data End : Type 0 where
  ended : ℕ → End
  refused : ℕ → Kind → End

-- The text of an article gives these commands and has this end. Its last line needs no newline: the open line behind the ended ones is the line of the end, and it too may give a command or be at fault.
pub data Lines : List ℕ → List Command → End → Type 0 where
  last_skipped : {text line : List ℕ} {commands : List Command} {n o : ℕ} → Opens 1 0 text commands n o line → content line ≡ skipped
      → Lines text commands (ended n)
  last_gives : {text line : List ℕ} {commands all : List Command} {n o : ℕ} {i : Item} → Opens 1 0 text commands n o line → content line ≡ command i
      → all ≡ commands ++ command_at n i ∷ [] → Lines text all (ended n)
  last_faults : {text line : List ℕ} {commands : List Command} {n o : ℕ} {k : Kind} → Opens 1 0 text commands n o line → content line ≡ faulty k
      → Lines text commands (refused n k)
  stops : {text : List ℕ} {commands : List Command} {n : ℕ} {k : Kind} → Stops 1 0 text commands n k → Lines text commands (refused n k)
