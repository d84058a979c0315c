-- What the sinks hold after an answer was delivered.
use Rattle.std.proofs.Common.{◌≡◌, ℕ, List, Result, Ok, Err, OnOk, OnErr, true, false, refl, inl, inr}
use Rattle.std.specs.Result.{is_err}
use Rattle.bridge_spec.specs.Texts.{write_fault_line}
use Rattle.bridge_spec.specs.Calls.{Sunk}
use Rattle.bridge_spec.specs.Outputs.{Gained, GainedFront, Failed, TellsWriteFault, Delivers}
use Rattle.bridge_spec.specs.declared.status.Status.{Status}
use Rattle.bridge_spec.specs.declared.status.Status.TheVariants.{WriteFault}

-- what holds on an error holds where there is one
pub of_err : {T E P : Type 0} (result : Result T E) → is_err result ≡ true → OnErr result P → P
of_err (Ok value) e fact = cc
of_err (Err error) e fact = fact

-- what holds on a success holds where there is no error
pub of_ok : {T E P : Type 0} (result : Result T E) → is_err result ≡ false → OnOk result P → P
of_ok (Ok value) e fact = fact
of_ok (Err error) e fact = cc

-- the note that is to tell of a write fault does, or it failed
pub told_of_fault : {T E : Type 0} (result : Result T E) (note : Sunk) → OnOk result (Gained note write_fault_line)
    → OnErr result (GainedFront note write_fault_line)
    → OnErr result (Failed note) → TellsWriteFault note
told_of_fault (Ok value) note whole front failed = inl whole
told_of_fault (Err error) note whole front failed = inr (failed, front)

module _ (answer : Status) (text said : List ℕ) (out note : Sunk) where
  -- the output failed
  pub output_stopped : Failed out → GainedFront out text → TellsWriteFault note → Delivers answer text said out note WriteFault
  output_stopped failed front told = inr (refl, inl (failed, front, told))

  -- the note failed
  pub note_stopped : Failed note → Gained out text → GainedFront note said → Delivers answer text said out note WriteFault
  note_stopped failed whole front = inr (refl, inr (failed, whole, front))

  -- both texts stand whole
  pub both_written : (status : Status) → status ≡ answer → Gained out text → Gained note said → Delivers answer text said out note status
  both_written status same whole told = inl (same, whole, told)
