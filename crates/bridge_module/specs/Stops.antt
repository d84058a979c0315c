-- What a text reads as, and why it comes to no module.
use Rattle.std.specs.Prelude.{◌≡◌, ◌≢◌, ℕ, ◌≤◌, List, length, Option, Some, IfSome, option_map, Result, Ok, Err}
use Rattle.bridge_base.specs.Outside.{Files, file}
use Rattle.lp_spec.specs.Modules.{Declaration}
use Rattle.lp_spec.specs.Reading.{Reads}
use Rattle.lp_spec.specs.ReadingFaults.{answer_within}
use Rattle.lp_spec.specs.ModuleOrder.{IsModule}
use Rattle.holide_sig.specs.declared.module.Module.{Module}
use Rattle.holide_sig.specs.Modules.{declarations_of, IsHeld}
use Rattle.dk_read.specs.Texts.{Refuses}
use Rattle.dk_read.specs.Readers.{Reading, IsFed}
use Rattle.dk_read.specs.declared.faults.DkFault.{DkFault}
use Rattle.dk_read.specs.declared.faults.DkFault.TheVariants as fault
use Rattle.lp_spec.specs.declared.fault_kind.DkKind.{DkKind}
use Rattle.bridge_spec.specs.FileChecks.{max_file, IsRefusedAt}
use Rattle.bridge_module.specs.declared.reading.Stop.{Stop}
use Rattle.bridge_module.specs.declared.reading.Stop.TheVariants.{Refused, ReadFault, Memory}

-- the stop for a fault of the reader
abbrev pub stop_of : DkFault → Stop
stop_of (fault.Refused place kind) = Refused place kind
stop_of fault.Memory = Memory

-- the bytes of the file of that name, where the files are told
abbrev pub bytes_told : Option Files → List ℕ → Option (List ℕ)
bytes_told told name = option_map (λ files. file files name) told

-- what was read, the bytes that are told where they are, is within the limit, and reads as this module and as no other
pub record IsModuleOf (told : Option (List ℕ)) (m : List Declaration) : Type 0 where
  pub text : List ℕ
  pub is : IfSome told (λ bytes. text ≡ bytes)
  pub within : length text ≤ max_file
  pub reads : Reads text m
  pub only : (other : List Declaration) → Reads text other → other ≡ m

-- what was read, the bytes that are told where they are, is within the limit, and was fed to the reader
pub record IsFedWhole (told : Option (List ℕ)) (r : Reading) : Type 0 where
  pub text : List ℕ
  pub is : IfSome told (λ bytes. text ≡ bytes)
  pub within : length text ≤ max_file
  pub limit : r.limit ≡ Some max_file
  pub fed : IsFed r text

-- what was read, the bytes that are told where they are, is refused
pub record IsRefusedText (told : Option (List ℕ)) (place : ℕ) (kind : DkKind) : Type 0 where
  pub text : List ℕ
  pub is : IfSome told (λ bytes. text ≡ bytes)
  pub refused : Refuses (answer_within (Some max_file) text) place kind

-- the stop is that of the text; what comes from without says nothing of it
abbrev pub StopsText : Option (List ℕ) → Stop → Type 0
StopsText told (Refused place kind) = IsRefusedText told place kind
StopsText told ReadFault = Unit {0}
StopsText told Memory = Unit {0}

-- what a whole file comes to: its module, or the stop of its text
abbrev pub IsEnd : Option (List ℕ) → Result Module Stop → Type 0
IsEnd told (Ok m) = IsModuleOf told (declarations_of m) × IsHeld m × IsModule (declarations_of m)
IsEnd told (Err stop) = StopsText told stop × (stop ≢ ReadFault)

-- whatever file the reader was fed whole, this is what it comes to
abbrev pub EndsWhole : Reading → Result Module Stop → Type 0
EndsWhole r result = (told : Option (List ℕ)) → IsFedWhole told r → IsEnd told result

-- the stop is that of the file
abbrev pub StopsFile : Option Files → List ℕ → Stop → Type 0
StopsFile told name (Refused place kind) = IsRefusedAt told name place kind
StopsFile told name ReadFault = Unit {0}
StopsFile told name Memory = Unit {0}
