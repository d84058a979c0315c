-- How the commands of a text are obeyed to its end, or halt before it.
use Rattle.std.specs.Prelude.{◌≡◌, ℕ, List, Option, None, Some, option_map, Result, Ok, Err}
use Rattle.bridge_base.specs.Outside.{Files, file}
use Rattle.common.specs.declared.faults.Kind.{Kind}
use Rattle.common.specs.declared.faults.Fault.{Fault}
use Rattle.common.specs.declared.faults.Fault.TheVariants as fault
use Rattle.article_read.specs.declared.lines.LineFault.{LineFault}
use Rattle.article_read.specs.declared.lines.LineFault.TheVariants as line_fault
use Rattle.hol_spec.specs.Mangling.{AreBytes}
use Rattle.article_spec.specs.declared.commands.Command.{Command}
use Rattle.article_spec.specs.Lines.{Lines, End, ended}
use Rattle.article_spec.specs.State.{State}
use Rattle.article_spec.specs.Run.{machine, obey_all, obey_article}
use Rattle.bridge_reading.specs.declared.reading.Halt.{Halt}
use Rattle.bridge_reading.specs.declared.reading.Halt.TheVariants.{Refused, ReadFault, Memory}

-- The halt of a run of commands that answers so; want of memory says nothing of it.
abbrev pub Halts : Halt → Result State (ℕ × Kind) → Type 0
Halts (Refused line kind) answer = answer ≡ Err (line, kind)
Halts ReadFault answer = ⊥
Halts Memory answer = Unit {0}

-- The halt for a fault of the machine at a line.
abbrev pub halt_of_fault : ℕ → Fault → Halt
halt_of_fault line (fault.Refused kind) = Refused line kind
halt_of_fault line fault.Memory = Memory

-- The halt for a faulty line.
abbrev pub halt_of_line : LineFault → Halt
halt_of_line (line_fault.Refused line kind) = Refused line kind
halt_of_line line_fault.Memory = Memory

-- From one state, the commands of a text end in the other.
pub record ReadsTo (text : List ℕ) (before after : State) : Type 0 where
  pub bytes : AreBytes text
  pub commands : List Command
  pub line : ℕ
  pub lines : Lines text commands (ended line)
  pub obeyed : obey_all machine before commands ≡ Ok after

-- From one state, an article of bytes passes to the other.
pub record Passes (text : List ℕ) (before after : State) : Type 0 where
  pub bytes : AreBytes text
  pub commands : List Command
  pub end : End
  pub lines : Lines text commands end
  pub passed : obey_article machine before commands end ≡ Ok after

-- From a state, the commands of a text are refused.
pub record IsRefused (text : List ℕ) (before : State) (line : ℕ) (kind : Kind) : Type 0 where
  pub commands : List Command
  pub end : End
  pub lines : Lines text commands end
  pub refused : obey_article machine before commands end ≡ Err (line, kind)

-- This text was read: that which is told, where one is, and else some bytes.
abbrev pub IsTold : Option (List ℕ) → List ℕ → Type 0
IsTold (Some told) text = text ≡ told
IsTold None text = AreBytes text

-- This holds of some text: of the bytes that are told, where they are, and else of what was read.
pub record OfText (told : Option (List ℕ)) (P : List ℕ → Type 0) : Type 0 where
  pub text : List ℕ
  pub is : IsTold told text
  pub holds : P text

-- the bytes of the file of that name, where the files are told
abbrev pub bytes_told : Option Files → List ℕ → Option (List ℕ)
bytes_told told name = option_map (λ files. file files name) told

-- The halt is that of the text; what comes from without says nothing of it.
abbrev pub HaltsText : Halt → Option (List ℕ) → State → Type 0
HaltsText (Refused line kind) told before = OfText told (λ text. IsRefused text before line kind)
HaltsText ReadFault told before = Unit {0}
HaltsText Memory told before = Unit {0}
