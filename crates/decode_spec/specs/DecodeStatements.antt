-- The statements about decoding.
use Rattle.std.specs.Prelude.{◌≡◌, ℕ, List, map, Option, None, Some}
use Rattle.std.specs.Bool.{Decides}
use Rattle.std.specs.List.{filter}
use Rattle.hol_spec.specs.Names.{Name}
use Rattle.hol_spec.specs.ClosedForm.{ClosedSequent, closed_form}
use Rattle.hol_spec.specs.Proofs.{sequent_at, Accepted}
use Rattle.lp_spec.specs.Trees.{Tree}
use Rattle.lp_spec.specs.Modules.{Declaration}
use Rattle.translate_spec.specs.Enc.{IsClosedForm, Enc}
use Rattle.translate_spec.specs.Stands.{is_export_name, StandsForRun}
use Rattle.decode_spec.specs.Opened.{AreApart}
use Rattle.decode_spec.specs.ClosedFormTest.{is_closed_form}
use Rattle.decode_spec.specs.Decode.{decode}

-- A closed sequent is the closed form of a sequent within the limits exactly where the test passes, whatever the names.
abbrev pub ClosedFormsTold : Type 0
ClosedFormsTold = (named : ℕ → Name) → AreApart named → (s : ClosedSequent) → Decides (is_closed_form named s) (IsClosedForm s)

-- What is decoded is exactly what the type stands for, and nothing is decoded exactly where it stands for nothing.
abbrev pub DecodedExactly : Type 0
DecodedExactly =
    (declarations : List Declaration) (A : Tree)
    → ((s : ClosedSequent) → (decode declarations A ≡ Some s → Enc declarations s A) × (Enc declarations s A → decode declarations A ≡ Some s))
    × (decode declarations A ≡ None → (s : ClosedSequent) → Enc declarations s A → ⊥)
    × (((s : ClosedSequent) → Enc declarations s A → ⊥) → decode declarations A ≡ None)

-- what the exports of a module are decoded to, in order
abbrev pub decoded_exports : List Declaration → List (Option ClosedSequent)
decoded_exports declarations = map (λ d. decode declarations d.ty) (filter (λ d. is_export_name d.name) declarations)

-- the closed forms of the exports of a run, in order
abbrev pub closed_exports : Accepted → List (Option ClosedSequent)
closed_exports run = map (λ i. Some (closed_form (sequent_at run.made i))) run.exports

-- The exports of a module that stands for a run are decoded, in order, to the closed forms of the run's exports.
abbrev pub ExportsDecoded : Type 0
ExportsDecoded = (declarations : List Declaration) (run : Accepted) → StandsForRun declarations run → decoded_exports declarations ≡ closed_exports run
