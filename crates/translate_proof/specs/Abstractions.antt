-- A body under the binders of a type, by numbers.
use Rattle.std.specs.Prelude.{◌≡◌, ℕ, List, length}
use Rattle.lp_spec.specs.Modules.{abstractions, products}
use Rattle.lp_spec.specs.Trees.{Tree}
use Rattle.lp_term.specs.declared.LpId.{LpId}
use Rattle.lp_term.specs.Tables.{tree_at, trees_at, Holds}

-- these are the domains of a type, where it is so many products
abbrev pub AreDomains : List Tree → LpId → ℕ → List LpId → Type 0
AreDomains trees ty count ids =
    (domains : List Tree) (inside : Tree) → Holds trees ty.0 (products domains inside) → length domains ≡ count → trees_at trees ids ≡ domains

-- and this is a body under abstractions over them
abbrev pub IsAbstracted : List Tree → List Tree → LpId → ℕ → LpId → LpId → Type 0
IsAbstracted old new ty count body r =
    (domains : List Tree) (inside : Tree) → Holds old ty.0 (products domains inside) → length domains ≡ count
    → Holds new r.0 (abstractions domains (tree_at old body.0))
