-- Types that were lifted, and are kept.
use Rattle.std.specs.Prelude.{◌≡◌, ℕ, ◌<◌, List, Some, length, slice_get}
use Rattle.lp_spec.specs.Trees.{Tree, lift}
use Rattle.lp_term.specs.declared.LpId.{LpId}
use Rattle.lp_term.specs.Tables.{tree_at}
use Rattle.lp_kernel.specs.declared.latest.Finding.{Finding}

-- the second tree is the first with its loose variables raised
pub record IsLift (ts : List Tree) (entry : LpId) (by : ℕ) (lifted : LpId) : Type 0 where
  pub known : entry.0 < length ts
  pub lifted_known : lifted.0 < length ts
  pub is : tree_at ts lifted.0 ≡ lift by (tree_at ts entry.0)

-- and so it is with all that are kept
pub record AreLifts (ts : List Tree) (lifts : List Finding) : Type 0 where
  pub each : (place : ℕ) (f : Finding) → slice_get lifts place ≡ Some f → IsLift ts f.id f.by f.found
