-- A reader of the text of a module, between two pieces of it.
use Rattle.std.specs.Prelude.{◌≡◌, ◌⊎◌, ℕ, ◌+◌, ◌-◌, ◌<◌, ◌≤◌, List, ◌++◌, drop, length, Option, None, Some, Result, Ok, Err, refl}
use Rattle.std.specs.Coded.{Coded, code_by, coded×, coded_option, coded_ℕ}
use Rattle.std.proofs.Common.{ap}
use Rattle.lp_spec.specs.Modules.{Declaration}
use Rattle.lp_spec.specs.Text.{prelude}
use Rattle.lp_spec.specs.Reading.{Reads}
use Rattle.lp_spec.specs.ReadingFaults as reading
use Rattle.holide_sig.specs.declared.module.Module.{Module}
use Rattle.holide_sig.specs.Modules.{declarations_of}
use Rattle.dk_read.specs.declared.faults.DkFault.{DkFault}
use Rattle.dk_read.specs.declared.faults.DkFault.TheVariants as fault
use Rattle.dk_read.specs.declared.reader.Limit.{Limit}
use Rattle.dk_read.specs.declared.reader.Limit.TheVariants as limit
use Rattle.lp_spec.specs.declared.fault_kind.DkKind.{DkKind}
use Rattle.lp_spec.specs.declared.fault_kind.DkKind.TheVariants as kind
use Rattle.dk_read.specs.declared.stage.Stage.{Stage}
use Rattle.dk_read.specs.declared.stage.Stage.TheVariants as stage
use Rattle.dk_read.specs.ProgressCode.{coded_progress, coded_fault}
use Rattle.dk_read.specs.States.{IsReading}
use Rattle.lp_spec.specs.FaultKinds.{fault_of}
use Rattle.dk_read.specs.Texts.{Refuses, Ends, inside}
pub use Rattle.dk_read.specs.Texts.{held_of}

-- a reader's limit, what its reading has come to, and the fault that has stopped it
pub record Reading : Type 0 where
  pub limit : Option ℕ
  pub progress : reading.Progress
  pub fault : Option DkFault

abbrev kind_of : reading.Fault → DkKind
kind_of reading.NoPrelude = kind.NoPrelude
kind_of reading.BadText = kind.BadText
kind_of (reading.UnknownName name) = kind.UnknownName name
kind_of (reading.NameTwice name) = kind.NameTwice name
kind_of reading.DkTooDeep = kind.DkTooDeep
kind_of reading.DkTooLong = kind.DkTooLong

pub kind_of-fault_of : (k : DkKind) → kind_of (fault_of k) ≡ k
kind_of-fault_of kind.NoPrelude = refl
kind_of-fault_of kind.BadText = refl
kind_of-fault_of (kind.UnknownName name) = refl
kind_of-fault_of (kind.NameTwice name) = refl
kind_of-fault_of kind.DkTooDeep = refl
kind_of-fault_of kind.DkTooLong = refl

abbrev told : DkFault → Option (ℕ × reading.Fault)
told (fault.Refused p k) = Some (p, fault_of k)
told fault.Memory = None

abbrev telling : Option (ℕ × reading.Fault) → DkFault
telling (Some t) = fault.Refused t.0 (kind_of t.1)
telling None = fault.Memory

pub telling-told : (f : DkFault) → telling (told f) ≡ f
telling-told (fault.Refused p k) = ap (fault.Refused p) (kind_of-fault_of k)
telling-told fault.Memory = refl

-- the code of a fault that is answered
abbrev pub coded_answer : Coded DkFault
coded_answer = code_by (Option (ℕ × reading.Fault)) (coded_option (coded× coded_ℕ coded_fault)) told telling telling-told

-- the code of a reader's value
abbrev pub coded_reading : Coded Reading
coded_reading =
    code_by (Option ℕ × (reading.Progress × Option DkFault)) (coded× (coded_option coded_ℕ) (coded× coded_progress (coded_option coded_answer)))
    (λ r. (r.limit, (r.progress, r.fault)))
    (λ p. record { limit = p.0; progress = p.1.0; fault = p.1.1 })
    (λ _. refl)

-- what a reading has come to at a stage
abbrev pub progress_of : Stage → reading.Progress
progress_of (stage.Opening n) = reading.Opening n (drop n prelude)
progress_of (stage.Inside t) = inside t
progress_of (stage.Stopped (fault.Refused p k)) = reading.Refused (reading.refusal p (fault_of k))
progress_of (stage.Stopped fault.Memory) = reading.Refused (reading.refusal 0 reading.BadText)

abbrev pub fault_in : Stage → Option DkFault
fault_in (stage.Stopped f) = Some f
fault_in _ = None

-- the signature's text has not been read whole, or the reading inside the text can go on, or the fault's place is a number of 64 bits
abbrev pub IsStage : Stage → Type 0
IsStage (stage.Opening n) = n < length prelude
IsStage (stage.Inside t) = IsReading t.parser
IsStage (stage.Stopped (fault.Refused p k)) = p < 18446744073709551616
IsStage (stage.Stopped fault.Memory) = Unit {0}

-- a reading has come to this stage; want of memory says nothing
abbrev pub Comes : reading.Progress → Stage → Type 0
Comes progress (stage.Stopped fault.Memory) = Unit {0}
Comes progress s = progress ≡ progress_of s

-- how many bytes a reading that goes on has read
abbrev pub place_of : reading.Progress → ℕ
place_of (reading.Opening p wanted) = p
place_of (reading.Inside p pending m s) = p
place_of (reading.Refused r) = 0

-- a reading that has come to no fault
abbrev pub IsGoing : reading.Progress → Type 0
IsGoing (reading.Refused r) = ⊥
IsGoing _ = Unit {0}

abbrev pub limit_of : Limit → Option ℕ
limit_of (limit.Bytes n) = Some n
limit_of limit.Free = None

-- the text is not longer than the limit
abbrev pub IsWithin : Option ℕ → List ℕ → Type 0
IsWithin None text = Unit {0}
IsWithin (Some n) text = length text ≤ n

-- after n bytes the limit has room for so many more
abbrev pub HasRoom : Option ℕ → ℕ → ℕ → Type 0
HasRoom None n more = Unit {0}
HasRoom (Some most) n more = more ≤ most - n

-- the reader was fed this text: it has come to what the text comes to, or has stopped where the text is refused whatever follows; want of memory
-- says nothing
abbrev pub fed_with : Option DkFault → Reading → List ℕ → Type 0
fed_with None r text = (r.progress ≡ reading.read_bytes reading.unread text) × IsWithin r.limit text
fed_with (Some (fault.Refused p k)) r text = (more : List ℕ) → Refuses (reading.answer_within r.limit (text ++ more)) p k
fed_with (Some fault.Memory) r text = Unit {0}

abbrev pub IsFed : Reading → List ℕ → Type 0
IsFed r text = fed_with r.fault r text

-- the answer is what the whole text reads as, or its refusal
abbrev pub EndsWith : Reading → Result Module DkFault → Type 0
EndsWith r result = (text : List ℕ) → IsFed r text → Ends (reading.answer_within r.limit text) result

-- the whole text is within the limit, and reads as these declarations and as no others
pub record IsRead (limit : Option ℕ) (text : List ℕ) (m : List Declaration) : Type 0 where
  pub within : IsWithin limit text
  pub reads : Reads text m
  pub only : (n : List Declaration) → Reads text n → n ≡ m

abbrev pub ReadsAs : Reading → List Declaration → Type 0
ReadsAs r m = (text : List ℕ) → IsFed r text → IsRead r.limit text m

-- the module has these declarations, or there was no memory for it
abbrev pub HasRead : List Declaration → Result Module DkFault → Type 0
HasRead m (Ok read) = declarations_of read ≡ m
HasRead m (Err e) = e ≡ fault.Memory

-- what reads as a module, and is not longer than the limit, is read
abbrev pub Accepts : Reading → Result Module DkFault → Type 0
Accepts r result = (text : List ℕ) (m : List Declaration) → IsFed r text → IsWithin r.limit text → Reads text m → HasRead m result

-- the fault is another than the text's length
abbrev pub IsNoLength : DkKind → Type 0
IsNoLength kind.DkTooLong = ⊥
IsNoLength _ = Unit {0}

abbrev pub IsNotTooLong : {T : Type 0} → Result T DkFault → Type 0
IsNotTooLong (Err (fault.Refused p k)) = IsNoLength k
IsNotTooLong _ = Unit {0}

-- without a limit no text is too long
abbrev pub NeverTooLong : {T : Type 0} → Reading → Result T DkFault → Type 0
NeverTooLong r result = (text : List ℕ) → IsFed r text → r.limit ≡ None → IsNotTooLong result

-- a reader that has stopped answers its fault again
abbrev pub EndsStopped : Reading → Result Module DkFault → Type 0
EndsStopped r result = (f : DkFault) → r.fault ≡ Some f → result ≡ Err f

-- the piece is fed
abbrev pub Feeds : Reading → List ℕ → Reading → Type 0
Feeds old piece new = (text : List ℕ) → IsFed old text → IsFed new (text ++ piece)

-- a reader that goes on has gone on by as many bytes as the piece has
abbrev pub GoesOn : Reading → List ℕ → Reading → Type 0
GoesOn old piece new = new.fault ≡ None → (old.fault ≡ None) × (place_of new.progress ≡ place_of old.progress + length piece)

-- the fault names an identifier
abbrev pub HasName : DkKind → Type 0
HasName (kind.UnknownName name) = Unit {0}
HasName (kind.NameTwice name) = Unit {0}
HasName _ = ⊥

abbrev pub IsNamed : DkFault → Type 0
IsNamed (fault.Refused p k) = HasName k
IsNamed fault.Memory = ⊥

-- the fault is answered, or want of memory where its identifier can't be copied
abbrev pub Answers : Option DkFault → Result (Unit {0}) DkFault → Type 0
Answers None (Ok _) = Unit {0}
Answers None (Err e) = ⊥
Answers (Some f) (Ok _) = ⊥
Answers (Some f) (Err e) = (e ≡ f) ⊎ ((e ≡ fault.Memory) × IsNamed f)

-- whatever comes after this text is refused so, and reads as no module within the limit
pub record IsHopeless (limit : Option ℕ) (text : List ℕ) (p : ℕ) (k : DkKind) : Type 0 where
  pub refuses : (more : List ℕ) → Refuses (reading.answer_within limit (text ++ more)) p k
  pub unread : (more : List ℕ) (m : List Declaration) → IsWithin limit (text ++ more) → Reads (text ++ more) m → ⊥

-- a text is refused only where nothing after it helps, and it is where it is longer than the limit
abbrev pub IsJudged : Option ℕ → List ℕ → Result (Unit {0}) DkFault → Type 0
IsJudged limit text (Ok _) = IsWithin limit text
IsJudged limit text (Err (fault.Refused p k)) = IsHopeless limit text p k
IsJudged limit text (Err fault.Memory) = Unit {0}

abbrev pub Judges : Reading → List ℕ → Result (Unit {0}) DkFault → Type 0
Judges old piece result = (text : List ℕ) → IsFed old text → IsJudged old.limit (text ++ piece) result

-- a reader that has stopped stays as it is
abbrev pub StaysStopped : Reading → Reading → Type 0
StaysStopped old new = (f : DkFault) → old.fault ≡ Some f → new ≡ old

-- the answer is the reader's where its text goes on past the limit
abbrev pub IsCut : reading.Answer → DkFault → Type 0
IsCut a (fault.Refused p k) = Refuses a p k
IsCut a fault.Memory = Unit {0}

-- a reading has stopped by the answer where its text goes on past the limit
abbrev pub StopsAs : reading.Answer → Option DkFault → Type 0
StopsAs a None = ⊥
StopsAs a (Some f) = IsCut a f
