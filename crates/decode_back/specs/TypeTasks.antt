-- The walk that decodes a type: what it is still to do, and the types that it has made and not yet taken up.
use Rattle.std.specs.Prelude.{◌≡◌, ℕ, ◌+◌, ◌<◌, ◌≤◌, Bool, true, false, List, [], ◌∷◌, ◌++◌, length, map, Option, Some}
use Rattle.hol_spec.specs.ClosedForm.{ClosedType, ClosedTypes}
use Rattle.hol_spec.specs.Limits.{greatest_depth}
use Rattle.hol_type.specs.declared.table.TypeId.{TypeId}
use Rattle.hol_type.specs.Tables.{types_at, AreKnown}
use Rattle.hol_term.specs.Tables.{Trees}
use Rattle.lp_spec.specs.Modules.{Declaration}
use Rattle.lp_spec.specs.Trees.{Tree, size}
use Rattle.lp_term.specs.Tables.{tree_at}
use Rattle.translate_spec.specs.TypeEnc.{Place}
use Rattle.decode_spec.specs.Opened.{open_type}
use Rattle.decode_spec.specs.Decode.{type_from, closed_count}
use Rattle.holide_sig.specs.declared.module.Module.{Module}
use Rattle.holide_sig.specs.Modules.{declarations_of}
use Rattle.decode_back.specs.declared.places.Place.{Place as PlaceOf}
use Rattle.decode_back.specs.declared.types.TypeTask.{TypeTask}
use Rattle.decode_back.specs.declared.types.TypeWalk.{TypeWalk}
use Rattle.decode_back.specs.Walks.{at_place, parameter_name, NoTypeWithin}

-- arguments as a list
abbrev pub listed : ClosedTypes → List ClosedType
listed ClosedTypes.none = []
listed (ClosedTypes.more t ts) = t ∷ listed ts

-- the task's tree is of the table, of which the trees below it are more than its arguments, and its level is within the limit
abbrev pub IsTypeTask : List Tree → TypeTask → Type 0
IsTypeTask trees task = (task.arguments + task.head.0 < length trees) × (task.level ≤ greatest_depth)

-- with these types made last, the tasks come to the root's type; where what a task is to decode passes the limits, the root does
abbrev pub TypeEnds : List Declaration → Place → List Tree → ℕ → Option ClosedType → List TypeTask → List ClosedType → Type 0
TypeEnds d at trees limit root [] types = (t : ClosedType) × (root ≡ Some t) × (types ≡ t ∷ [])
TypeEnds d at trees limit root (task ∷ rest) types =
    (acc : ClosedTypes) × (before : List ClosedType) × IsTypeTask trees task × (types ≡ listed acc ++ before) × (closed_count acc ≡ task.arguments)
    × (NoTypeWithin task.level (type_from d at (tree_at trees task.head.0) acc) → NoTypeWithin limit root)
    × ((t : ClosedType) → type_from d at (tree_at trees task.head.0) acc ≡ Some t → TypeEnds d at trees limit root rest (t ∷ before))

-- the numbers are those of these types
abbrev pub AreMade : Trees → List TypeId → List ClosedType → Type 0
AreMade trees made types = AreKnown trees.types made × (types_at trees.types made ≡ map (open_type parameter_name) types)

-- with what was made last, the tasks come to the root's type
abbrev pub IsTypeWalk : List Declaration → Place → List Tree → ℕ → Option ClosedType → Trees → List TypeTask → List TypeId → Type 0
IsTypeWalk d at trees limit root table tasks made = (types : List ClosedType) × AreMade table made types × TypeEnds d at trees limit root tasks types

-- the walk goes on, or the root passes the limits
abbrev pub IsTypeTurn : List Declaration → Place → List Tree → ℕ → Option ClosedType → Trees → List TypeTask → List TypeId → Bool → Type 0
IsTypeTurn d at trees limit root table tasks made true = IsTypeWalk d at trees limit root table tasks made
IsTypeTurn d at trees limit root table tasks made false = NoTypeWithin limit root

-- how many turns the tasks take at most
abbrev pub type_work : List Tree → List TypeTask → ℕ
type_work trees [] = 0
type_work trees (task ∷ rest) = size (tree_at trees task.head.0) + type_work trees rest

-- a walk with one task more
abbrev pub with_type_task : TypeTask → TypeWalk → TypeWalk
with_type_task task w = record w { tasks = task ∷ w.tasks }

-- a walk over a module at a place comes to the root's type
abbrev pub ComesTo : Module → PlaceOf → ℕ → Option ClosedType → Trees → TypeWalk → Type 0
ComesTo m p limit root table w = IsTypeWalk (declarations_of m) (at_place p) m.table limit root table w.tasks w.made

-- what it comes to, it comes to after a turn, or that passes the limits
abbrev pub IsTypeTurned : Module → PlaceOf → Trees → TypeWalk → Trees → TypeWalk → Bool → Type 0
IsTypeTurned m p table w now v goes_on =
    (limit : ℕ) (root : Option ClosedType) → ComesTo m p limit root table w
    → IsTypeTurn (declarations_of m) (at_place p) m.table limit root now v.tasks v.made goes_on
