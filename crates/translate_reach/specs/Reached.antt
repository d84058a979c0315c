-- Which items of what a proof made its exports reach, as a flag for each.
use Rattle.std.specs.Prelude.{◌≡◌, ℕ, List, length, Bool, false, slice_index_or}
use Rattle.hol_spec.specs.Proofs.{Made}
use Rattle.translate_spec.specs.MadeItems.{Naming, items_of, roots_of}
use Rattle.translate_spec.specs.Reach.{keep_of}

-- the flag with a number; past the last there is none
abbrev pub flag : List Bool → ℕ → Bool
flag flags i = slice_index_or flags i false

-- the flags tell of each item whether the exports reach it, whatever the names
pub record IsReach (flags : List Bool) (made : List Made) (exports : List ℕ) : Type 0 where
  pub count : (named : Naming) → length flags ≡ length (items_of named made)
  pub each : (named : Naming) (i : ℕ) → flag flags i ≡ keep_of (roots_of named made exports) (items_of named made) i
