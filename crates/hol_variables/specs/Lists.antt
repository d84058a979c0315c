-- Lists of numbers, each kept under a number of its own.
use Rattle.std.specs.Prelude.{◌≡◌, ℕ, ◌<◌, List, [], length, Option, None, Some, slice_get, unwrap_or, nat_eq}
use Rattle.hol_spec.specs.Lists.{union}
use Rattle.hol_variables.specs.declared.lists.ListId.{ListId}

-- the list with a number; the empty one for a number that there is not
abbrev pub list_in : List (List ℕ) → ℕ → List ℕ
list_in lists n = unwrap_or (slice_get lists n) []

-- each number keeps its list
pub record KeepsLists (old new : List (List ℕ)) : Type 0 where
  pub each : (i : ℕ) (l : List ℕ) → slice_get old i ≡ Some l → slice_get new i ≡ Some l

-- a list is kept under the number, and is such
pub record IsListed (P : List ℕ → Type 0) (lists : List (List ℕ)) (id : ListId) : Type 0 where
  pub list : List ℕ
  pub is : slice_get lists id.0 ≡ Some list
  pub such : P list

-- the list is such, where it is kept
abbrev pub Tells : (List ℕ → Type 0) → List (List ℕ) → Option ListId → Type 0
Tells P lists None = Unit {0}
Tells P lists (Some id) = IsListed P lists id

-- the list is one of these, where it is kept
abbrev pub IsThere : List (List ℕ) → Option ListId → Type 0
IsThere lists None = Unit {0}
IsThere lists (Some id) = id.0 < length lists

-- the third list is the union of the first two, where it is kept
abbrev pub HasUnion : List (List ℕ) → Option ListId → Option ListId → List (List ℕ) → Option ListId → Type 0
HasUnion old first second new None = Unit {0}
HasUnion old None second new (Some id) = ⊥
HasUnion old (Some a) None new (Some id) = ⊥
HasUnion old (Some a) (Some b) new (Some id) = slice_get new id.0 ≡ Some (union nat_eq (list_in old a.0) (list_in old b.0))
