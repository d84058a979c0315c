-- Which names and cells are held, and the numbers that they have once the others are given up.
use Rattle.std.specs.Prelude.{◌≡◌, ℕ, ℤ, ◌+◌, ◌<◌, ◌≤◌, Bool, true, false, cond, replicate, List, [], ◌∷◌, length, map, slice_get, slice_set, unwrap_or, Some}
use Rattle.std.specs.List.{AllByRecursion}
use Rattle.stack_machine.specs.declared.object.NameId.{NameId}
use Rattle.stack_machine.specs.declared.object.List.{List as AList}
use Rattle.stack_machine.specs.declared.object.List.TheVariants.{Empty, Cell as CellOf}
use Rattle.stack_machine.specs.declared.object.Object.{Object}
use Rattle.stack_machine.specs.declared.object.Object.TheVariants as object
use Rattle.stack_machine.specs.declared.object.Cell.{Cell}

-- a flag for each name and for each cell: those whose flag is set are held
pub record Holding : Type 0 where
  pub names : List Bool
  pub cells : List Bool

-- the new number of each name and of each cell
pub record Numbering : Type 0 where
  pub names : List ℕ
  pub cells : List ℕ

-- the number has a flag, which is set
abbrev pub IsSet : List Bool → ℕ → Type 0
IsSet flags i = slice_get flags i ≡ Some true

-- nothing is held, of so many names and cells
abbrev pub nothing_held : ℕ → ℕ → Holding
nothing_held names cells = record { names = replicate names false; cells = replicate cells false }

-- what was held, and what a list, a name, an object or a cell's parts hold themselves
abbrev pub holding_list : Holding → AList → Holding
holding_list h Empty = h
holding_list h (CellOf c) = record { names = h.names; cells = slice_set h.cells c.0 true }

abbrev pub holding_name : Holding → NameId → Holding
holding_name h n = record { names = slice_set h.names n.0 true; cells = h.cells }

abbrev pub holding : Holding → Object → Holding
holding h (object.Number z) = h
holding h (object.Name n) = holding_name h n
holding h (object.List xs) = holding_list h xs
holding h (object.TypeOperator n) = holding_name h n
holding h (object.Type t) = h
holding h (object.Constant n) = holding_name h n
holding h (object.Variable n t) = holding_name h n
holding h (object.Term t) = h
holding h (object.Theorem i) = h

abbrev pub holding_parts : Holding → Cell → Holding
holding_parts h c = holding_list (holding h c.head) c.tail

-- the names are among so many, and so are the cells
abbrev pub IsListWithin : ℕ → AList → Type 0
IsListWithin cells Empty = Unit {0}
IsListWithin cells (CellOf c) = c.0 < cells

abbrev pub IsWithin : ℕ → ℕ → Object → Type 0
IsWithin names cells (object.Number z) = Unit {0}
IsWithin names cells (object.Name n) = n.0 < names
IsWithin names cells (object.List xs) = IsListWithin cells xs
IsWithin names cells (object.TypeOperator n) = n.0 < names
IsWithin names cells (object.Type t) = Unit {0}
IsWithin names cells (object.Constant n) = n.0 < names
IsWithin names cells (object.Variable n t) = n.0 < names
IsWithin names cells (object.Term t) = Unit {0}
IsWithin names cells (object.Theorem i) = Unit {0}

-- what an object holds itself is held
abbrev pub IsListHeld : Holding → AList → Type 0
IsListHeld h Empty = Unit {0}
IsListHeld h (CellOf c) = IsSet h.cells c.0

abbrev pub IsHeld : Holding → Object → Type 0
IsHeld h (object.Number z) = Unit {0}
IsHeld h (object.Name n) = IsSet h.names n.0
IsHeld h (object.List xs) = IsListHeld h xs
IsHeld h (object.TypeOperator n) = IsSet h.names n.0
IsHeld h (object.Type t) = Unit {0}
IsHeld h (object.Constant n) = IsSet h.names n.0
IsHeld h (object.Variable n t) = IsSet h.names n.0
IsHeld h (object.Term t) = Unit {0}
IsHeld h (object.Theorem i) = Unit {0}

abbrev pub AreHeld : Holding → List Object → Type 0
AreHeld h xs = AllByRecursion (IsHeld h) xs

-- what was held is held on, of as many names and cells
pub record HoldsMore (a b : Holding) : Type 0 where
  pub names : (i : ℕ) → IsSet a.names i → IsSet b.names i
  pub cells : (i : ℕ) → IsSet a.cells i → IsSet b.cells i
  pub name_count : length b.names ≡ length a.names
  pub cell_count : length b.cells ≡ length a.cells

-- the parts of each cell are among so many names and among the cells before it
abbrev pub AreBefore : ℕ → List Cell → Type 0
AreBefore names cells = (i : ℕ) (c : Cell) → slice_get cells i ≡ Some c → IsWithin names i c.head × IsListWithin i c.tail

-- what the held cells from a number on hold is held
abbrev pub IsClosedFrom : ℕ → Holding → List Cell → Type 0
IsClosedFrom n h cells = (i : ℕ) (c : Cell) → n ≤ i → slice_get cells i ≡ Some c → IsSet h.cells i → IsHeld h c.head × IsListHeld h c.tail

-- what held cells hold is held
abbrev pub IsClosed : Holding → List Cell → Type 0
IsClosed h cells = IsClosedFrom 0 h cells

-- no more is held in the second than wherever all of the first is held and what held cells hold
abbrev pub IsLeast : Holding → Holding → List Cell → Type 0
IsLeast a b cells = (h : Holding) → HoldsMore a h → IsClosed h cells → HoldsMore b h

-- the numbers, from n on, of what has a set flag once the rest is gone
abbrev pub new_numbers : ℕ → List Bool → List ℕ
new_numbers n [] = []
new_numbers n (b ∷ flags) = n ∷ new_numbers (cond b (n + 1) n) flags

abbrev pub numbering : Holding → Numbering
numbering h = record { names = new_numbers 0 h.names; cells = new_numbers 0 h.cells }

-- a new number; what has none keeps its own
abbrev pub new_number : List ℕ → ℕ → ℕ
new_number numbers i = unwrap_or (slice_get numbers i) i

-- by the new numbers
abbrev pub numbered_name : Numbering → NameId → NameId
numbered_name r n = record { 0 = new_number r.names n.0 }

abbrev pub numbered_list : Numbering → AList → AList
numbered_list r Empty = Empty
numbered_list r (CellOf c) = CellOf (record { 0 = new_number r.cells c.0 })

abbrev pub numbered : Numbering → Object → Object
numbered r (object.Number z) = object.Number z
numbered r (object.Name n) = object.Name (numbered_name r n)
numbered r (object.List xs) = object.List (numbered_list r xs)
numbered r (object.TypeOperator n) = object.TypeOperator (numbered_name r n)
numbered r (object.Type t) = object.Type t
numbered r (object.Constant n) = object.Constant (numbered_name r n)
numbered r (object.Variable n t) = object.Variable (numbered_name r n) t
numbered r (object.Term t) = object.Term t
numbered r (object.Theorem i) = object.Theorem i

-- a dictionary's entries
abbrev pub numbered_entries : Numbering → List (ℤ × Object) → List (ℤ × Object)
numbered_entries r entries = map (λ e. (e.0, numbered r e.1)) entries

abbrev pub numbered_cell : Numbering → Cell → Cell
numbered_cell r c = record { head = numbered r c.head; tail = numbered_list r c.tail }
