-- Where a declaration is found by the tree for which its name is short.
use Rattle.std.specs.Prelude.{◌≡◌, true, None, ℕ, ◌≤◌, nat_eq, if◌then◌else◌, unwrap_or, List, length, Option, Some, slice_get}
use Rattle.lp_term.specs.declared.LpId.{LpId}
use Rattle.holide_sig.specs.ShortIds.{is_id, short_id}
use Rattle.holide_sig.specs.declared.decls.Decl.{Decl}

-- the places of numbers, once the number n has one
abbrev pub placed_with : (ℕ → Option ℕ) → ℕ → ℕ → ℕ → Option ℕ
placed_with placed n place m = if nat_eq n m then Some (unwrap_or (placed n) place) else placed m

-- each number of a tree for which a name is short has a place, at most that of its first declaration
pub record AreShortPlaced (decls : List Decl) (placed : ℕ → Option ℕ) : Type 0 where
  pub each : (n : ℕ) (d : Decl) (id : LpId) → slice_get decls n ≡ Some d → short_id d ≡ Some id → (p : ℕ) × (placed id.0 ≡ Some p) × (p ≤ n)
  pub within : (m p : ℕ) → placed m ≡ Some p → p ≤ length decls

-- the declaration at a place is called by a name that is short for the tree of that number
abbrev pub IsShortAt : List Decl → ℕ → LpId → Type 0
IsShortAt decls place id = (d : Decl) × (slice_get decls place ≡ Some d) × (is_id (short_id d) id ≡ true)

-- the places, once the number of the tree for which a name is short has one
abbrev pub short_with : (ℕ → Option ℕ) → Option LpId → ℕ → ℕ → Option ℕ
short_with placed None place m = placed m
short_with placed (Some id) place m = placed_with placed id.0 place m
