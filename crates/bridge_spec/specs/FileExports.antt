-- What the exports of the module in a file say.
use Rattle.std.specs.Prelude.{◌≡◌, ℕ, ◌<◌, List, [], ◌∷◌, Option, Some, true, slice_get}
use Rattle.std.specs.List.{filter}
use Rattle.bridge_base.specs.Outside.{Files}
use Rattle.hol_spec.specs.ClosedForm.{ClosedSequent}
use Rattle.lp_spec.specs.Modules.{Declaration}
use Rattle.translate_spec.specs.Enc.{Enc}
use Rattle.translate_spec.specs.Stands.{is_export_name}
use Rattle.bridge_spec.specs.FileChecks.{ReadsAs}

-- the declarations that are named as exports, in order
abbrev pub exports_of : List Declaration → List Declaration
exports_of m = filter (λ d. is_export_name d.name) m

-- the types of these declarations stand for these closed sequents, one for one
abbrev pub AreDecoded : List Declaration → List Declaration → List ClosedSequent → Type 0
AreDecoded m [] [] = Unit {0}
AreDecoded m [] (s ∷ ss) = ⊥
AreDecoded m (d ∷ ds) [] = ⊥
AreDecoded m (d ∷ ds) (s ∷ ss) = Enc m s d.ty × AreDecoded m ds ss

-- the file of that name reads as this module, whose exports say these closed sequents
pub record Says (told : Option Files) (name : List ℕ) (m : List Declaration) (ss : List ClosedSequent) : Type 0 where
  pub file : ReadsAs told name m
  pub decoded : AreDecoded m (exports_of m) ss

-- the declaration at this place is named as an export, and its type stands for no closed sequent
pub record SaysNothing (m : List Declaration) (i : ℕ) : Type 0 where
  pub declaration : Declaration
  pub at : slice_get m i ≡ Some declaration
  pub export : is_export_name declaration.name ≡ true
  pub nothing : (s : ClosedSequent) → Enc m s declaration.ty → ⊥

-- the type of each export before this place stands for a closed sequent
abbrev pub SayBefore : List Declaration → ℕ → Type 0
SayBefore m i = (k : ℕ) (d : Declaration) → k < i → slice_get m k ≡ Some d → is_export_name d.name ≡ true → (s : ClosedSequent) × Enc m s d.ty

-- the file of that name reads as a module, in which this is the first export whose type stands for no closed sequent
pub record IsNotSequent (told : Option Files) (name : List ℕ) (i : ℕ) : Type 0 where
  pub m : List Declaration
  pub file : ReadsAs told name m
  pub nothing : SaysNothing m i
  pub before : SayBefore m i
