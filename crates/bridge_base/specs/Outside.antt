-- What shelves and sinks promise: counts of faults, files by name, and bytes that are given and taken.
use Rattle.std.specs.Prelude.{ℕ, ◌≡◌, ◌+◌, ◌-◌, ◌≤◌, ◌^◌, min, Bool, List, [], ◌++◌, length, take, Option, None, Some, is_some, Result, OnErr, unwrap_or}
use Rattle.std.specs.Map.{lookup}
use Rattle.std.specs.Str.{bytes_eq}

-- one more, up to the greatest u64
abbrev pub next_count : ℕ → ℕ
next_count n = min (n + 1) (2 ^ 64 - 1)

-- a count rose in a call, or stands at its last value
abbrev pub Rose : ℕ → ℕ → Type 0
Rose before now = next_count before ≤ now

-- the count never falls, and an error comes only where it rose
pub record HasCause {T E : Type 0} (before now : ℕ) (result : Result T E) : Type 0 where
  pub later : before ≤ now
  pub failed : OnErr result (Rose before now)

-- a finite map from names to bytes, as its pairs: of a name that comes twice the first pair counts
abbrev pub Files : Type 0
Files = List (List ℕ × List ℕ)

-- whether there is a file of that name
abbrev pub has : Files → List ℕ → Bool
has files name = is_some (lookup (bytes_eq name) files)

-- the bytes of the file of that name: none where there is no such file
abbrev pub file : Files → List ℕ → List ℕ
file files name = unwrap_or (lookup (bytes_eq name) files) []

-- what is told grows by these bytes
abbrev pub Gains : Option (List ℕ) → List ℕ → Option (List ℕ) → Type 0
Gains None bytes None = Unit {0}
Gains (Some old) bytes (Some new) = new ≡ old ++ bytes
Gains None bytes (Some new) = ⊥
Gains (Some old) bytes None = ⊥

-- what is told grows by a prefix of these bytes
abbrev pub GainsFront : Option (List ℕ) → List ℕ → Option (List ℕ) → Type 0
GainsFront old bytes new = (k : ℕ) × (k ≤ length bytes) × Gains old (take k bytes) new

-- these bytes were a prefix of what is told, and are taken off
abbrev pub Gives : Option (List ℕ) → List ℕ → Option (List ℕ) → Type 0
Gives None bytes None = Unit {0}
Gives (Some old) bytes (Some new) = old ≡ bytes ++ new
Gives None bytes (Some new) = ⊥
Gives (Some old) bytes None = ⊥

-- the names that are told grow by these, or are told no more
abbrev pub Begins : Option (List (List ℕ)) → List (List ℕ) → Option (List (List ℕ)) → Type 0
Begins old names None = Unit {0}
Begins (Some old) names (Some new) = new ≡ old ++ names
Begins None names (Some new) = ⊥

-- the names that are told grow by a front of these, or are told no more
abbrev pub BeginsFront : Option (List (List ℕ)) → List (List ℕ) → Option (List (List ℕ)) → Type 0
BeginsFront old names new = (k : ℕ) × (k ≤ length names) × Begins old (take k names) new
