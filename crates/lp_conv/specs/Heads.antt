-- What becomes of each kind of head.
use Rattle.std.specs.Prelude.{◌≡◌, ◌<◌, List, [], ◌∷◌, Option, Some, None, length}
use Rattle.lp_spec.specs.Trees.{Tree, Lam, Pi, lift, put, put_all}
use Rattle.lp_spec.specs.Modules.{Declaration, applied, types, arr_of, term_of, term_symbol}
use Rattle.lp_term.specs.declared.LpId.{LpId}
use Rattle.lp_term.specs.Tables.{tree_at}
use Rattle.lp_spec.specs.HeadSteps.{given, symbol_step}

-- what beta makes of an abstraction's body at arguments
abbrev pub beta_of : Tree → List Tree → Option Tree
beta_of b [] = None
beta_of b (x ∷ xs) = Some (applied (put x b) xs)

-- the tree is an abstraction over `type` with this body, and the body's number is less; or it is none
abbrev pub IsUnderType : List Tree → LpId → Option LpId → Type 0
IsUnderType ts id (Some b) = (b.0 < id.0) × (tree_at ts id.0 ≡ Lam types (tree_at ts b.0))
IsUnderType ts id None = (before args : List Tree) → given before (tree_at ts id.0) args ≡ Some (applied (put_all before (tree_at ts id.0)) args)

-- `term a -> term b`
abbrev pub functions_of : Tree → Tree → Tree
functions_of a b = Pi (term_of a) (lift 1 (term_of b))

-- the tree is the type of functions with these parts; or it is none, and `term` of it has no head step
abbrev pub IsArrow : List Tree → Tree → Option (LpId × LpId) → Type 0
IsArrow ts t (Some p) = (t ≡ arr_of (tree_at ts p.0.0) (tree_at ts p.1.0)) × (p.0.0 < length ts) × (p.1.0 < length ts)
IsArrow ts t None = (ds : List Declaration) → symbol_step ds term_symbol (t ∷ []) ≡ None
