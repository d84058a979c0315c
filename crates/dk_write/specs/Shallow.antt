-- Declarations whose trees have paths of bounded length.
use Rattle.std.specs.Prelude.{◌≡◌, ℕ, ◌-◌, ◌^◌, ◌≤◌, min, List, [], ◌∷◌, Option, None, Some, slice_get}
use Rattle.lp_spec.specs.Trees.{Tree, depth}
use Rattle.lp_term.specs.declared.LpId.{LpId}
use Rattle.lp_term.specs.Tables.{tree_at}
use Rattle.holide_sig.specs.declared.decls.Decl.{Decl}

-- a body, where there is one, has at most so many nodes on a path
abbrev pub IsBodyWithin : ℕ → List Tree → Option LpId → Type 0
IsBodyWithin most trees None = Unit {0}
IsBodyWithin most trees (Some id) = depth (tree_at trees id.0) ≤ most

-- the type and the body of a declaration have at most so many nodes on a path
pub record IsWithin (most : ℕ) (trees : List Tree) (d : Decl) : Type 0 where
  pub ty : depth (tree_at trees d.ty.0) ≤ most
  pub body : IsBodyWithin most trees d.body

-- so it is with each of the declarations
abbrev pub AreWithin : ℕ → List Tree → List Decl → Type 0
AreWithin most trees ds = (i : ℕ) (d : Decl) → slice_get ds i ≡ Some d → IsWithin most trees d

-- the depths that the table tells of a declaration's trees, which stop at the greatest 64-bit number, are at most this one
abbrev pub IsBodyTold : ℕ → List Tree → Option LpId → Type 0
IsBodyTold most trees None = Unit {0}
IsBodyTold most trees (Some id) = min (depth (tree_at trees id.0)) (2 ^ 64 - 1) ≤ most

pub record IsTold (most : ℕ) (trees : List Tree) (d : Decl) : Type 0 where
  pub ty : min (depth (tree_at trees d.ty.0)) (2 ^ 64 - 1) ≤ most
  pub body : IsBodyTold most trees d.body

abbrev pub AreTold : ℕ → List Tree → List Decl → Type 0
AreTold most trees ds = (i : ℕ) (d : Decl) → slice_get ds i ≡ Some d → IsTold most trees d
