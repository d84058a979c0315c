-- Walks over the parts of a type, as stacks of tasks beside what was noted of each part.
use Rattle.std.specs.Prelude.{◌≡◌, ◌⊎◌, ℕ, ◌+◌, ◌*◌, ◌<◌, List, [], ◌∷◌, length, slice_get, Some, true}
use Rattle.hol_spec.specs.Names.{Name}
use Rattle.hol_spec.specs.NameEquality.{name_eq}
use Rattle.hol_spec.specs.Lists.{is_in, union}
use Rattle.hol_spec.specs.Types.{HolType, variable, operator, types_of, variable_places}
use Rattle.hol_spec.specs.Limits.{type_size}
use Rattle.hol_spec.specs.Substitution.{TypePairs, substitute}
use Rattle.hol_type.specs.declared.table.TypeId.{TypeId}
use Rattle.hol_type.specs.declared.visits.Task.{Task}
use Rattle.hol_type.specs.declared.visits.Task.TheVariants.{Visit, Join}
use Rattle.hol_type.specs.Tables.{tree_at, types_at, pairs_at, ArePairsKnown, Holds}
use Rattle.hol_type.specs.Views.{AreBelow}

-- the list has this pair of numbers
abbrev pub IsNoted : List (TypeId × TypeId) → TypeId → TypeId → Type 0
IsNoted entries id r = (i : ℕ) × (slice_get entries i ≡ Some (id, r))

-- something was noted of the type
abbrev pub IsDone : List (TypeId × TypeId) → TypeId → Type 0
IsDone entries id = (r : TypeId) × IsNoted entries id r

-- what is so of each of some types
abbrev pub AreAll : (TypeId → Type 0) → List TypeId → Type 0
AreAll P [] = Unit {0}
AreAll P (id ∷ ids) = P id × AreAll P ids

-- something was noted of each type
abbrev pub AreDone : List (TypeId × TypeId) → List TypeId → Type 0
AreDone entries = AreAll (IsDone entries)

-- these numbers were noted of these types
abbrev pub AreMade : List (TypeId × TypeId) → List TypeId → List TypeId → Type 0
AreMade entries [] [] = Unit {0}
AreMade entries (id ∷ ids) (r ∷ rs) = IsNoted entries id r × AreMade entries ids rs
AreMade entries [] (r ∷ rs) = ⊥
AreMade entries (id ∷ ids) [] = ⊥

-- the visits of some types from the first to the last, and then these tasks
abbrev pub visits : List TypeId → List Task → List Task
visits [] tasks = tasks
visits (id ∷ ids) tasks = Visit id ∷ visits ids tasks

-- the type is an operator over these
pub record HasParts (trees : List HolType) (id : TypeId) (parts : List TypeId) : Type 0 where
  pub name : Name
  pub is : Holds trees id.0 (operator name (types_of (types_at trees parts)))
  pub lower : AreBelow id.0 parts

-- its parts are all such
pub record PartsAre (P : TypeId → Type 0) (trees : List HolType) (id : TypeId) : Type 0 where
  pub parts : List TypeId
  pub of : HasParts trees id parts
  pub all : AreAll P parts

-- what is so of a type, or it is this one
abbrev pub OrIs : (TypeId → Type 0) → TypeId → TypeId → Type 0
OrIs P id x = P x ⊎ (x ≡ id)

-- where P is so of the types that are done, the tasks come back to an operator after its arguments, and end with the root done
abbrev pub Ends : TypeId → List HolType → List Task → (TypeId → Type 0) → Type 0
Ends root trees [] P = P root
Ends root trees (Visit id ∷ rest) P = (id.0 < length trees) × Ends root trees rest (OrIs P id)
Ends root trees (Join id ∷ rest) P = (id.0 < length trees) × PartsAre P trees id × Ends root trees rest (OrIs P id)

-- a walk that is to substitute these pairs in the root's type
pub record IsWalk (given : TypePairs) (root : TypeId) (trees : List HolType) (pairs : List (Name × TypeId)) (tasks : List Task)
    (made : List (TypeId × TypeId)) : Type 0 where
  pub known : ArePairsKnown trees pairs
  pub pairs_are : pairs_at trees pairs ≡ given
  pub noted : (id r : TypeId) → IsNoted made id r → (id.0 < length trees) × Holds trees r.0 (substitute given (tree_at trees id.0))
  pub ends : Ends root trees tasks (IsDone made)

-- each name is in the list
abbrev pub AreIn : List Name → List Name → Type 0
AreIn found [] = Unit {0}
AreIn found (n ∷ ns) = (is_in name_eq n found ≡ true) × AreIn found ns

-- what the tasks add to the variables that were found
abbrev pub gathered : List HolType → List Task → List Name → List Name
gathered trees [] found = found
gathered trees (Visit id ∷ rest) found = gathered trees rest (union name_eq found (variable_places (tree_at trees id.0)))
gathered trees (Join id ∷ rest) found = gathered trees rest found

-- a search that is to find these variables in the root's type
pub record IsSearch (goal : List Name) (root : TypeId) (trees : List HolType) (tasks : List Task) (found : List Name) (seen : List (TypeId × TypeId)) : Type 0
  where
    pub noted : (id r : TypeId) → IsNoted seen id r → AreIn found (variable_places (tree_at trees id.0))
    pub named : (n : Name) → is_in name_eq n found ≡ true → (id : TypeId) × Holds trees id.0 (variable n) × IsDone seen id
    pub ends : Ends root trees tasks (IsDone seen)
    pub gives : gathered trees tasks found ≡ goal

-- how many turns the tasks take at most
abbrev pub work : List HolType → List Task → ℕ
work trees [] = 0
work trees (Visit id ∷ rest) = 2 * type_size (tree_at trees id.0) + work trees rest
work trees (Join id ∷ rest) = 1 + work trees rest
