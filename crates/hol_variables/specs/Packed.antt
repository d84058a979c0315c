-- Numbers in little room.
use Rattle.std.specs.Prelude.{ℕ, ◌-◌, ◌^◌, ◌==◌, if◌then◌else◌, Option, None, Some}
use Rattle.hol_variables.specs.declared.lists.ListId.{ListId}

-- the number of a list, or the number of none
abbrev pub list_numbered : ℕ → Option ListId
list_numbered n = if n == 2 ^ 32 - 1 then None else Some (record { 0 = n })
