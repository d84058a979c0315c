-- Trees that may stand under binders of a declaration.
use Rattle.std.specs.Prelude.{ℕ, ◌<◌, ◌≤◌, IsFalse, List, length}
use Rattle.lp_spec.specs.Trees.{Tree, loose}
use Rattle.lp_spec.specs.ModuleOrder.{has_kind, symbols}
use Rattle.lp_term.specs.declared.LpId.{LpId}
use Rattle.lp_term.specs.Tables.{tree_at}

-- a tree of the table under so many binders, without the sort of kinds, over so many symbols
pub record IsOpen (binders count : ℕ) (trees : List Tree) (id : LpId) : Type 0 where
  pub known : id.0 < length trees
  pub loose : loose (tree_at trees id.0) ≤ binders
  pub kindless : IsFalse (has_kind (tree_at trees id.0))
  pub symbols : symbols (tree_at trees id.0) ≤ count
