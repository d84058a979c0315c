-- What was found last of trees and numbers.
use Rattle.std.specs.Prelude.{◌≡◌, ℕ, ◌+◌, ◌*◌, ◌%◌, List, Some, slice_get}
use Rattle.lp_term.specs.declared.LpId.{LpId}
use Rattle.lp_kernel.specs.declared.latest.Finding.{Finding}

-- the place of a tree and a number
abbrev pub place_of : LpId → ℕ → ℕ
place_of id by = (id.0 % 1024 + 37 * (by % 1024)) % 1024

-- it is kept what was found of the tree and the number
abbrev pub IsKept : List Finding → LpId → ℕ → LpId → Type 0
IsKept kept id by found = slice_get kept (place_of id by) ≡ Some (record { id = id; by = by; found = found })
