-- What a check says of the module in a file, with rechecks of sorts or without.
use Rattle.std.specs.Prelude.{◌≡◌, ℕ, ◌<◌, ◌≤◌, Bool, List, length, Option, None, Some}
use Rattle.bridge_base.specs.Outside.{Files, file}
use Rattle.lp_spec.specs.Modules.{Declaration}
use Rattle.lp_spec.specs.Reading.{Reads}
use Rattle.lp_spec.specs.ReadingFaults.{refusal}
use Rattle.lp_spec.specs.Faults.{IsLeastWithin}
use Rattle.lp_spec.specs.Typing.{WellTyped}
use Rattle.lp_spec.specs.Check.{Reply, No}
use Rattle.lp_spec.specs.FastCheck.{CheckBy, PassesBy}
use Rattle.lp_spec.specs.FaultKinds.{fault_of}
use Rattle.lp_spec.specs.declared.fault_kind.DkKind.{DkKind}

-- the file of a module has at most this many bytes
abbrev pub max_file : ℕ
max_file = 4294967296

-- these bytes were read of the file of that name: those that it has, where the shelf tells its files, and else some bytes
abbrev pub IsReadOf : Option Files → List ℕ → List ℕ → Type 0
IsReadOf (Some files) name text = text ≡ file files name
IsReadOf None name text = Unit {0}

-- the file of that name is within the limit, and reads as this module and as no other
pub record ReadsAs (told : Option Files) (name : List ℕ) (m : List Declaration) : Type 0 where
  pub text : List ℕ
  pub read : IsReadOf told name text
  pub within : length text ≤ max_file
  pub reads : Reads text m
  pub only : (other : List Declaration) → Reads text other → other ≡ m

-- the file of that name is refused at this byte, for this fault: the one at the least place of those that its bytes show within the limit
pub record IsRefusedAt (told : Option Files) (name : List ℕ) (place : ℕ) (kind : DkKind) : Type 0 where
  pub text : List ℕ
  pub read : IsReadOf told name text
  pub refused : IsLeastWithin (Some max_file) text (refusal place (fault_of kind))

-- the check of each of the first declarations says yes
abbrev pub PassFirst : Bool → List Declaration → ℕ → Type 0
PassFirst rechecks m count = (k : ℕ) → k < count → PassesBy rechecks m k

-- the file of that name reads as this module; the check of each declaration says yes, and the module is well typed
pub record IsAccepted (rechecks : Bool) (told : Option Files) (name : List ℕ) (m : List Declaration) : Type 0 where
  pub file : ReadsAs told name m
  pub pass : PassFirst rechecks m (length m)
  pub typed : WellTyped m

-- the file of that name reads as a module; the checks of the declarations before this one say yes, and its own says no
pub record IsIllTyped (rechecks : Bool) (told : Option Files) (name : List ℕ) (i : ℕ) : Type 0 where
  pub m : List Declaration
  pub file : ReadsAs told name m
  pub before : PassFirst rechecks m i
  pub price : ℕ
  pub no : CheckBy rechecks m i No price

-- the file of that name reads as a module; the checks of the declarations before this one say yes, and its own does not end at a price
-- within the budget
pub record IsOverBudget (rechecks : Bool) (told : Option Files) (name : List ℕ) (budget i : ℕ) : Type 0 where
  pub m : List Declaration
  pub file : ReadsAs told name m
  pub is : i < length m
  pub before : PassFirst rechecks m i
  pub over : (reply : Reply) (price : ℕ) → CheckBy rechecks m i reply price → budget < price

-- the check of the declaration ends in this reply at a price within the budget
pub record EndsWithin (rechecks : Bool) (m : List Declaration) (budget i : ℕ) (reply : Reply) : Type 0 where
  pub price : ℕ
  pub by : CheckBy rechecks m i reply price
  pub within : price ≤ budget
