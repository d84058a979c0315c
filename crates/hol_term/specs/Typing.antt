-- The type of a tree of a table, under binders.
use Rattle.std.specs.Prelude.{◌≡◌, ℕ, ◌<◌, List, Option, Some, length, slice_get}
use Rattle.hol_spec.specs.Types.{HolType}
use Rattle.hol_spec.specs.Terms.{type_under}
use Rattle.hol_type.specs.declared.table.TypeId.{TypeId}
use Rattle.hol_type.specs.Tables.{types_at}
use Rattle.hol_type.specs.Tables as type
use Rattle.hol_term.specs.declared.seats.Seat.{Seat}
use Rattle.tree_map.specs.Noted.{IsNoted}
use Rattle.hol_term.specs.Scopes.{list_in}
use Rattle.hol_term.specs.Tables.{Trees, term_at, IsTypeNumber}

-- the type that the number's tree has under binders of these types, if it has one
abbrev pub type_in : Trees → List TypeId → ℕ → Option HolType
type_in trees binders id = type_under (types_at trees.types binders) (term_at trees id)

-- the type of a seat's tree, under the seat's binders
abbrev pub seat_type : Trees → List (List TypeId) → Seat → Option HolType
seat_type trees lists seat = type_in trees (list_in lists seat.scope.0) seat.id.0

-- the seat's tree is of the table, and its binders are among the lists
abbrev pub IsSeat : Trees → List (List TypeId) → Seat → Type 0
IsSeat trees lists seat = (seat.id.0 < length trees.terms) × (seat.scope.0 < length lists)

-- the binders have types of the table, and what was found of a seat is the type of its tree
pub record AreTypings (trees : Trees) (lists : List (List TypeId)) (found : List (Seat × Option TypeId)) : Type 0 where
  pub known : (i : ℕ) (l : List TypeId) → slice_get lists i ≡ Some l → type.AreKnown trees.types l
  pub each : (seat : Seat) (ty : Option TypeId) → IsNoted found seat ty → IsSeat trees lists seat × IsTypeNumber trees.types ty (seat_type trees lists seat)
