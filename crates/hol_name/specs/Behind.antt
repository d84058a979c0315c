-- What stands behind a component in a mangled text.
use Rattle.std.specs.Prelude.{ℕ, ◌≡◌, ◌≢◌, List, [], ◌∷◌}
use Rattle.hol_spec.specs.Mangling.{underscore}
use Rattle.hol_name.specs.declared.mangling.Behind.{Behind}
use Rattle.hol_name.specs.declared.mangling.Behind.TheVariants.{End, Boundary, Fault}

pub record IsFault (text : List ℕ) : Type 0 where
  pub some : text ≢ []
  pub no_boundary : (more : List ℕ) → text ≢ underscore ∷ underscore ∷ more

abbrev pub IsBehind : List ℕ → Behind → Type 0
IsBehind text End = text ≡ []
IsBehind text (Boundary next) = text ≡ underscore ∷ underscore ∷ next.now
IsBehind text Fault = IsFault text
