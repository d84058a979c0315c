-- Numbers in little room.
use Rattle.std.specs.Prelude.{ℕ, ◌-◌, ◌^◌, ◌==◌, if◌then◌else◌, Option, None, Some}
use Rattle.hol_type.specs.declared.table.TypeId.{TypeId}

-- the number of a type, or the number of none
abbrev pub type_numbered : ℕ → Option TypeId
type_numbered n = if n == 2 ^ 32 - 1 then None else Some (record { 0 = n })
