-- What a memo has.
use Rattle.std.specs.Prelude.{◌≡◌, ℕ, List, Some, slice_get}

-- this value is noted for the key: one of the pairs has both
abbrev pub IsNoted : {K V : Type 0} → List (K × V) → K → V → Type 0
IsNoted pairs key value = (i : ℕ) × (slice_get pairs i ≡ Some (key, value))
