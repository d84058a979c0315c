-- What a reader does with its open line.
use Rattle.std.specs.Prelude.{ℕ, List, [], ◌++◌, Option, None, Some, ◌≡◌, ◌+◌, ◌<◌, ◌≤◌}
use Rattle.common.specs.declared.faults.Kind.{Kind}
use Rattle.common.specs.declared.faults.Kind.TheVariants.{LineTooLong, InputTooLong}
use Rattle.article_spec.specs.declared.commands.Command.{Command}
use Rattle.article_spec.specs.Lines.{max_line, max_article}
use Rattle.article_read.specs.declared.lines.LineFault.{LineFault}
use Rattle.article_read.specs.declared.lines.LineFault.TheVariants.{Memory}
use Rattle.article_read.specs.Reading.{Reading, Feeds, GivesLine, RefusesLine}

-- the part is fed, and gives no command
abbrev pub FeedsPart : Reading → List ℕ → Reading → Type 0
FeedsPart old part new = (out : List Command) → Feeds old part out out new

-- An open line at this offset, of so many bytes, has room for so many more; the next one, unless it is a newline, passes this limit first.
pub data HasRoom : ℕ → ℕ → ℕ → Kind → Type 0 where
  line_room : {offset count room : ℕ} → count + room ≡ max_line → offset + max_line ≤ max_article → HasRoom offset count room LineTooLong
  article_room : {offset count room : ℕ} → offset + count + room ≡ max_article → count + room < max_line → HasRoom offset count room InputTooLong

-- the part stands behind the open line, or memory ran out
abbrev pub Keeps : Reading → List ℕ → Option LineFault → Reading → Type 0
Keeps old part None new = new ≡ record old { rest = old.rest ++ part }
Keeps old part (Some fault) new = (fault ≡ Memory) × (new ≡ record old { fault = Some Memory })

-- the commands of the line are appended; or it is at fault, or memory ran out, and none is
abbrev pub AnswersLine : Option LineFault → ℕ → List ℕ → List Command → List Command → Type 0
AnswersLine None number line before after = GivesLine number line before after
AnswersLine (Some fault) number line before after = RefusesLine fault number line × (after ≡ before)

-- the reader behind its open line, which has so many bytes, or stopped there
abbrev pub behind_line : Reading → ℕ → Option LineFault → Reading
behind_line r count None = record { number = r.number + 1; offset = r.offset + count + 1; rest = []; fault = None }
behind_line r count (Some fault) = record r { fault = Some fault }
