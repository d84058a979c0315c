-- What the exports of a module say, what is answered for it, and what one declaration adds to the lines.
use Rattle.std.specs.Prelude.{◌≡◌, ℕ, ◌++◌, List, Bool, true, false, Some, slice_get}
use Rattle.hol_spec.specs.ClosedForm.{ClosedSequent}
use Rattle.lp_spec.specs.Modules.{Declaration}
use Rattle.translate_spec.specs.Enc.{Enc}
use Rattle.translate_spec.specs.Stands.{is_export_name}
use Rattle.bridge_spec.specs.FileExports.{exports_of, AreDecoded, SaysNothing, SayBefore}
use Rattle.bridge_spec.specs.Texts.{export_line, export_lines}
use Rattle.bridge_answer.specs.declared.answer.Answer.{Answer}
use Rattle.bridge_answer.specs.declared.answer.Answer.TheVariants as answer
use Rattle.bridge_decode.specs.declared.exports.Said.{Said}
use Rattle.bridge_decode.specs.declared.exports.Said.TheVariants.{Lines, Nothing}

-- the text has the lines of these exports, in order, with what they say
pub record HasLines (m : List Declaration) (exports : List Declaration) (text : List ℕ) : Type 0 where
  pub said : List ClosedSequent
  pub decoded : AreDecoded m exports said
  pub is : text ≡ export_lines exports said

-- this export says nothing, and those before it do
pub record StopsAt (m : List Declaration) (i : ℕ) : Type 0 where
  pub nothing : SaysNothing m i
  pub before : SayBefore m i

abbrev pub IsSaid : List Declaration → Said → Type 0
IsSaid m (Lines text) = HasLines m (exports_of m) text.items
IsSaid m (Nothing i) = StopsAt m i

-- what is answered for a module: want of memory aside, what its exports say
abbrev pub IsAnswer : List Declaration → Answer → Type 0
IsAnswer m (answer.Told text) = HasLines m (exports_of m) text.items
IsAnswer m (answer.NotSequent i) = StopsAt m i
IsAnswer m answer.Memory = Unit {0}
IsAnswer m _ = ⊥

-- the text has the line of a declaration more, where it is an export
pub data AddsLine (m : List Declaration) (d : Declaration) (old new : List ℕ) : Type 0 where
  other : is_export_name d.name ≡ false → new ≡ old → AddsLine m d old new
  export : (s : ClosedSequent) → is_export_name d.name ≡ true → Enc m s d.ty → new ≡ old ++ export_line d.name s → AddsLine m d old new

-- what one declaration adds, if it says something
abbrev pub IsOneSaid : List Declaration → ℕ → List ℕ → List ℕ → Bool → Type 0
IsOneSaid m i old new true = (d : Declaration) → slice_get m i ≡ Some d → AddsLine m d old new
IsOneSaid m i old new false = SaysNothing m i
