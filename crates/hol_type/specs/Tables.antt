-- A table of types, as the list of its types by number.
use Rattle.std.specs.Prelude.{◌≡◌, ◌⊎◌, ℕ, ◌<◌, ◌≤◌, List, [], ◌∷◌, ◌++◌, length, map, Some, slice_get, unwrap_or}
use Rattle.hol_spec.specs.Names.{Name}
use Rattle.hol_spec.specs.Types.{HolType, variable}
use Rattle.hol_spec.specs.Substitution.{TypePairs}
use Rattle.hol_type.specs.declared.table.TypeId.{TypeId}

-- the number's type; a variable without a name for a number that the table lacks
abbrev pub tree_at : List HolType → ℕ → HolType
tree_at trees id = unwrap_or (slice_get trees id) (variable [])

-- the table has this type under the number
abbrev pub Holds : List HolType → ℕ → HolType → Type 0
Holds trees id tree = slice_get trees id ≡ Some tree

-- the types of some numbers
abbrev pub types_at : List HolType → List TypeId → List HolType
types_at trees ids = map (λ id. tree_at trees id.0) ids

-- the numbers are of the table
abbrev pub AreKnown : List HolType → List TypeId → Type 0
AreKnown trees [] = Unit {0}
AreKnown trees (id ∷ ids) = (id.0 < length trees) × AreKnown trees ids

-- what pairs of names and numbers replace by which types
abbrev pub pairs_at : List HolType → List (Name × TypeId) → TypePairs
pairs_at trees [] = []
pairs_at trees (p ∷ ps) = (p.0, tree_at trees p.1.0) ∷ pairs_at trees ps

-- the pairs' numbers are of the table
abbrev pub ArePairsKnown : List HolType → List (Name × TypeId) → Type 0
ArePairsKnown trees [] = Unit {0}
ArePairsKnown trees (p ∷ ps) = (p.1.0 < length trees) × ArePairsKnown trees ps

-- the types of two numbers
abbrev pub two_at : List HolType → TypeId × TypeId → HolType × HolType
two_at trees ids = (tree_at trees ids.0.0, tree_at trees ids.1.0)

-- no type has two numbers
pub record IsDistinct (trees : List HolType) : Type 0 where
  pub each : (i j : ℕ) (t : HolType) → Holds trees i t → Holds trees j t → i ≡ j

-- every number keeps its type
pub record Stays (old new : List HolType) : Type 0 where
  pub each : (i : ℕ) (t : HolType) → Holds old i t → Holds new i t

-- every number keeps its type, no number goes, and no type gets a second one
pub record Keeps (old new : List HolType) : Type 0 where
  pub stays : Stays old new
  pub longer : length old ≤ length new
  pub distinct : IsDistinct old → IsDistinct new

-- the table is as before or has this type as its last
abbrev pub Adds : List HolType → List HolType → HolType → Type 0
Adds old new tree = (new ≡ old) ⊎ (new ≡ old ++ tree ∷ [])
