-- Parts of a type that is to have arguments put in.
use Rattle.std.specs.Prelude.{◌≡◌, ℕ, ◌+◌, ◌<◌, List, Some, length, reverse, slice_get}
use Rattle.lp_spec.specs.Trees.{Tree, Var, put_all_at}
use Rattle.lp_term.specs.declared.LpId.{LpId}
use Rattle.lp_term.specs.Tables.{tree_at}
use Rattle.lp_kernel.specs.declared.spines.Stand.{Stand}
use Rattle.lp_kernel.specs.declared.spines.Stand.TheVariants as stand
use Rattle.lp_kernel.specs.Pending.{spine_args}

-- a part of a type under so many binders, with so many last arguments of an application put in
abbrev pub IsFilledUnder : List Tree → ℕ → LpId → ℕ → LpId → List Tree → LpId → Type 0
IsFilledUnder ts d b k f us r = tree_at us r.0 ≡ put_all_at d (spine_args k (tree_at ts f.0)) (tree_at ts b.0)

-- the same of two parts, each under binders of its own
abbrev pub AreFilledUnder : List Tree → ℕ × ℕ → LpId × LpId → ℕ → LpId → List Tree → LpId × LpId → Type 0
AreFilledUnder ts ds bs k f us rs = IsFilledUnder ts ds.0 bs.0 k f us rs.0 × IsFilledUnder ts ds.1 bs.1 k f us rs.1

-- a variable under so many binders, with so many last arguments of an application put in
abbrev pub IsVariableMade : List Tree → ℕ → ℕ → ℕ → LpId → List Tree → LpId → Type 0
IsVariableMade ts d n k f us r = tree_at us r.0 ≡ put_all_at d (spine_args k (tree_at ts f.0)) (Var n)

-- for the variable stands one of so many last arguments of an application, or a variable that is lowered by their number
abbrev pub StandsFor : List Tree → ℕ → LpId → ℕ → Stand → Type 0
StandsFor ts k f n (stand.Argument x) = (x.0 < length ts) × (slice_get (reverse (spine_args k (tree_at ts f.0))) n ≡ Some (tree_at ts x.0))
StandsFor ts k f n (stand.Variable m) = n ≡ length (spine_args k (tree_at ts f.0)) + m
StandsFor ts k f n stand.Far = Unit {0}
