-- A reader of lines between two pieces of its text.
use Rattle.std.specs.Prelude.{ℕ, List, [], ◌∷◌, ◌++◌, Option, None, Some, ◌≡◌, ◌≤◌, ◌+◌, Result, Ok, Err}
use Rattle.std.proofs.Common.{arith}
use Rattle.article_spec.specs.declared.commands.Command.{Command}
use Rattle.article_spec.specs.Contents.{Content, skipped, command, faulty, content}
use Rattle.article_spec.specs.Lines.{OpenLine, Opens, open_line, Stops, End, ended, refused, Lines, command_at}
use Rattle.common.specs.declared.faults.Kind.{Kind}
use Rattle.article_read.specs.declared.lines.LineFault.{LineFault}
use Rattle.article_read.specs.declared.lines.LineFault.TheVariants.{Memory, Refused}

-- the line that is open: its number, its offset in the text and its bytes so far; and the fault that has stopped the reader
pub record Reading : Type 0 where
  pub number : ℕ
  pub offset : ℕ
  pub rest : List ℕ
  pub fault : Option LineFault

-- a reader that was fed nothing
abbrev pub fresh : Reading
fresh = record { number = 1; offset = 0; rest = []; fault = None }

-- the commands are those of a front of the text
pub record IsCut (text : List ℕ) (given : List Command) : Type 0 where
  pub front : List ℕ
  pub back : List ℕ
  pub is : text ≡ front ++ back
  pub number : ℕ
  pub offset : ℕ
  pub rest : List ℕ
  pub opens : Opens 1 0 front given number offset rest

-- the reader was fed this text and has given these commands: the text opens the reader's line, or stops with its fault; where memory ran out, the commands are those of a front of the text
abbrev pub fed_with : Option LineFault → Reading → List ℕ → List Command → Type 0
fed_with None r text given = Opens 1 0 text given r.number r.offset r.rest
fed_with (Some (Refused line kind)) r text given = Stops 1 0 text given line kind
fed_with (Some Memory) r text given = IsCut text given

abbrev pub IsFed : Reading → List ℕ → List Command → Type 0
IsFed r text given = fed_with r.fault r text given

-- a fresh reader was fed nothing and has given nothing
pub IsFed-fresh : IsFed fresh [] []
IsFed-fresh = open_line (record { one_line = tt; short = omega arith; within = omega arith })

-- the piece is fed, and the commands that it gives are appended
pub record Feeds (old : Reading) (piece : List ℕ) (before after : List Command) (new : Reading) : Type 0 where
  pub added : List Command
  pub is : after ≡ before ++ added
  pub fed : (text : List ℕ) (given : List Command) → IsFed old text given → IsFed new (text ++ piece) (given ++ added)

-- the text ends, the commands of its last line are appended, and the whole text has this end
pub record Ends (old : Reading) (before after : List Command) (e : End) : Type 0 where
  pub added : List Command
  pub is : after ≡ before ++ added
  pub lines : (text : List ℕ) (given : List Command) → IsFed old text given → Lines text (given ++ added) e

-- the answer is the end of the whole text; want of memory adds no command
abbrev pub EndsWith : Reading → List Command → List Command → Result ℕ LineFault → Type 0
EndsWith old before after (Ok line) = Ends old before after (ended line)
EndsWith old before after (Err (Refused line kind)) = Ends old before after (refused line kind)
EndsWith old before after (Err Memory) = after ≡ before

-- a reader that has stopped answers its fault again, and nothing changes
pub record Repeats (fault : LineFault) (old new : Reading) (before after : List Command) (answer : Option LineFault) : Type 0 where
  pub answered : answer ≡ Some fault
  pub same : new ≡ old
  pub none : after ≡ before

-- once a fault has stopped the reader, each call answers it
abbrev pub StaysStopped : Reading → Reading → List Command → List Command → Option LineFault → Type 0
StaysStopped old new before after answer = (fault : LineFault) → old.fault ≡ Some fault → Repeats fault old new before after answer

-- the commands of the whole text are appended, and it has this end
pub record ReadsWhole (text : List ℕ) (before after : List Command) (e : End) : Type 0 where
  pub added : List Command
  pub is : after ≡ before ++ added
  pub lines : Lines text added e

-- the answer is the end of the whole text
abbrev pub ReadsAs : List ℕ → List Command → List Command → Result ℕ LineFault → Type 0
ReadsAs text before after (Ok line) = ReadsWhole text before after (ended line)
ReadsAs text before after (Err (Refused line kind)) = ReadsWhole text before after (refused line kind)
ReadsAs text before after (Err Memory) = Unit {0}

-- what a reader keeps true
pub record IsKept (number offset : ℕ) (rest : List ℕ) : Type 0 where
  pub line : OpenLine offset rest
  pub few : number ≤ offset + 1

-- the commands that a line gives, unless it is at fault
abbrev pub commands_of : ℕ → Content → Option (List Command)
commands_of n skipped = Some []
commands_of n (command i) = Some (command_at n i ∷ [])
commands_of n (faulty k) = None

-- the commands of the line are appended
pub record GivesLine (number : ℕ) (line : List ℕ) (before after : List Command) : Type 0 where
  pub added : List Command
  pub gives : commands_of number (content line) ≡ Some added
  pub is : after ≡ before ++ added

-- the line is at fault
pub record IsFaulty (number line_number : ℕ) (line : List ℕ) (kind : Kind) : Type 0 where
  pub here : line_number ≡ number
  pub says : content line ≡ faulty kind

-- the fault is that of the line, or want of memory
abbrev pub RefusesLine : LineFault → ℕ → List ℕ → Type 0
RefusesLine (Refused n kind) number line = IsFaulty number n line kind
RefusesLine Memory number line = Unit {0}
