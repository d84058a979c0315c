-- Lists of binders by number, each made of an earlier one and one binder more.
use Rattle.std.specs.Prelude.{◌≡◌, ◌⊎◌, ℕ, ◌≤◌, List, [], ◌∷◌, ◌++◌, Option, Some, slice_get, unwrap_or}
use Rattle.std.specs.BTreeMap.{BTreeMap, get}
use Rattle.std.specs.declared.cmp.Ordering.{Ordering}
use Rattle.hol_type.specs.declared.table.TypeId.{TypeId}
use Rattle.hol_term.specs.declared.scopes.Scope.{Scope}
use Rattle.hol_term.specs.contracts.scopes.ScopeOrd.TheImpl as scope_ord

-- the list with a number; the empty one for a number that there is not
abbrev pub list_in : List (List TypeId) → ℕ → List TypeId
list_in lists n = unwrap_or (slice_get lists n) []

-- the lists, and those of the scopes after them
abbrev pub lists_from : List (List TypeId) → List Scope → List (List TypeId)
lists_from lists [] = lists
lists_from lists (s ∷ ss) = lists_from (lists ++ (s.ty ∷ list_in lists s.outer.0) ∷ []) ss

-- the lists of some scopes, the empty one first
abbrev pub lists_of : List Scope → List (List TypeId)
lists_of ss = lists_from ([] ∷ []) ss

-- what is round each scope comes before it
pub record AreInner (ss : List Scope) : Type 0 where
  pub each : (i : ℕ) (s : Scope) → slice_get ss i ≡ Some s → s.outer.0 ≤ i

-- the order of scopes
abbrev pub scope_cmp : Scope → Scope → Ordering
scope_cmp = scope_ord.cmp-value.it

-- the place that a tree of scopes has for a scope
abbrev pub place_in : BTreeMap Scope ℕ → Scope → Option ℕ
place_in places s = get scope_cmp places s

-- each scope is found at its place, and at no other
pub record ArePlaced (ss : List Scope) (place : Scope → Option ℕ) : Type 0 where
  pub each : (i : ℕ) (s : Scope) → slice_get ss i ≡ Some s → place s ≡ Some i
  pub told : (i : ℕ) (s : Scope) → place s ≡ Some i → slice_get ss i ≡ Some s

-- each number keeps its list
pub record KeepsLists (old new : List (List TypeId)) : Type 0 where
  pub each : (i : ℕ) (l : List TypeId) → slice_get old i ≡ Some l → slice_get new i ≡ Some l

-- each list is an old one, or this one
pub record AddsList (old new : List (List TypeId)) (added : List TypeId) : Type 0 where
  pub each : (i : ℕ) (l : List TypeId) → slice_get new i ≡ Some l → (slice_get old i ≡ Some l) ⊎ (l ≡ added)
