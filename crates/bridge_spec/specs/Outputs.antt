-- What the two sinks hold after an answer.
use Rattle.std.specs.Prelude.{ℕ, ◌≡◌, ◌⊎◌, List}
use Rattle.bridge_base.specs.Outside.{Rose, Gains, GainsFront}
use Rattle.bridge_spec.specs.Texts.{write_fault_line}
use Rattle.bridge_spec.specs.Calls.{Sunk, Call}
use Rattle.bridge_spec.specs.Answers.{Answers}
use Rattle.bridge_spec.specs.Begun.{names_of, BeginsFiles}
use Rattle.bridge_spec.specs.declared.status.Status.{Status}
use Rattle.bridge_spec.specs.declared.status.Status.TheVariants.{WriteFault}

-- the sink gained these bytes
abbrev pub Gained : Sunk → List ℕ → Type 0
Gained sink text = Gains sink.got_before text sink.got

-- the sink gained a prefix of these bytes
abbrev pub GainedFront : Sunk → List ℕ → Type 0
GainedFront sink text = GainsFront sink.got_before text sink.got

-- the sink failed
abbrev pub Failed : Sunk → Type 0
Failed sink = Rose sink.faults_before sink.faults

-- the note gained the line of a write fault; only where it failed too, a prefix of that
abbrev pub TellsWriteFault : Sunk → Type 0
TellsWriteFault note = Gained note write_fault_line ⊎ (Failed note × GainedFront note write_fault_line)

-- A write failed while these texts were written. Where the output failed, it gained a prefix of its text, and the note tells of
-- it; where the note failed, the output gained its text, and the note a prefix of its own.
abbrev pub Stopped : List ℕ → List ℕ → Sunk → Sunk → Type 0
Stopped out_text note_text out note =
    (Failed out × GainedFront out out_text × TellsWriteFault note)
    ⊎ (Failed note × Gained out out_text × GainedFront note note_text)

-- the answer with these texts is delivered, or a failing write replaced it
abbrev pub Delivers : Status → List ℕ → List ℕ → Sunk → Sunk → Status → Type 0
Delivers answer out_text note_text out note result =
    ((result ≡ answer) × Gained out out_text × Gained note note_text)
    ⊎ ((result ≡ WriteFault) × Stopped out_text note_text out note)

-- an answer that came by its cause was delivered, or replaced by a failing write
pub record Outputs (call : Call) (result : Status) : Type 0 where
  pub answer : Status
  pub out_text : List ℕ
  pub note_text : List ℕ
  pub answers : Answers call answer out_text note_text
  -- the shelf, where it tells, began the files that the form names, in order, and no other: at a refusal those up to it, at a fault a front
  pub begins : BeginsFiles answer call.shelf.begun_before (names_of call.form) call.shelf.begun
  pub delivered : Delivers answer out_text note_text call.out call.note result
