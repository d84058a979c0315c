-- Trees of a table made anew in another, with their symbols' new numbers.
use Rattle.std.specs.Prelude.{◌≡◌, ℕ, ◌+◌, ◌<◌, nat_lt, if◌then◌else◌, List, length, get_or, slice_get, Some}
use Rattle.lp_spec.specs.Trees.{Tree}
use Rattle.lp_term.specs.declared.LpId.{LpId}
use Rattle.lp_term.specs.declared.LpNode.{LpNode}
use Rattle.lp_term.specs.declared.LpNode.TheVariants as node
use Rattle.lp_term.specs.Tables.{tree_at}
use Rattle.share_spec.specs.MovedTrees.{moved, moved_symbol}

-- the place of a declaration: that of the list, or beyond its end so many more
abbrev pub place_by : List ℕ → ℕ → ℕ → ℕ
place_by places more i = if nat_lt i (length places) then get_or places i 0 else i + more

-- the trees of these numbers are the first trees of the source, with the new numbers of their symbols
abbrev pub AreMade : (ℕ → ℕ) → List Tree → List Tree → List LpId → Type 0
AreMade place source target made = (i : ℕ) (id : LpId) → slice_get made i ≡ Some id → (id.0 < length target)
    × (tree_at target id.0 ≡ moved place (tree_at source i))

-- a node over the numbers of what is made
abbrev pub IsMovedNode : (ℕ → ℕ) → List LpId → LpNode → LpNode → Type 0
IsMovedNode place made node.SortType n = n ≡ node.SortType
IsMovedNode place made node.SortKind n = n ≡ node.SortKind
IsMovedNode place made (node.Var k) n = n ≡ node.Var k
IsMovedNode place made (node.Sym s) n = n ≡ node.Sym (moved_symbol place s)
IsMovedNode place made (node.App f x) n = (g : LpId) × (y : LpId) × (slice_get made f.0 ≡ Some g) × (slice_get made x.0 ≡ Some y) × (n ≡ node.App g y)
IsMovedNode place made (node.Lam f x) n = (g : LpId) × (y : LpId) × (slice_get made f.0 ≡ Some g) × (slice_get made x.0 ≡ Some y) × (n ≡ node.Lam g y)
IsMovedNode place made (node.Pi f x) n = (g : LpId) × (y : LpId) × (slice_get made f.0 ≡ Some g) × (slice_get made x.0 ≡ Some y) × (n ≡ node.Pi g y)
