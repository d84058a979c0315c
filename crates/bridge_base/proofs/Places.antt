-- Files by their places.
use Rattle.std.proofs.Common.{◌≡◌, ℕ, ◌<◌, Bool, true, List, ◌∷◌, length, drop, get_or, Some, drop-cons, suc}
use Rattle.std.specs.Prelude.{string_bytes}
use Rattle.std.specs.Map.{lookup}
use Rattle.std.proofs.lemmas.Option.{slice_get-get_or}
use Rattle.bridge_base.specs.Opened.{Entry, as_files, bytes_at}

-- a look-up that passes at the first file gives its bytes
pub lookup-first : (test : List ℕ → Bool) (entry : Entry) (rest : List Entry) → test (string_bytes entry.0) ≡ true → lookup test (as_files (entry ∷ rest))
    ≡ Some entry.1.items
lookup-first test entry rest passes = rw passes

-- a look-up from a place on, which passes there, gives the bytes at that place
pub lookup-place : (test : List ℕ → Bool) (entries : List Entry) (place : ℕ) (entry : Entry) → place < length entries → entry ≡ get_or entries place entry
    → test (string_bytes entry.0) ≡ true → lookup test (as_files (drop place entries)) ≡ bytes_at entries (Some place)
lookup-place test entries place entry within is passes =
    rw (drop-cons entries place entry within, slice_get-get_or entries place entry within, ← is)
    (lookup-first test entry (drop (suc place) entries) passes)
