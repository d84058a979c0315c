-- Trees whose loose variables are raised, made of their parts.
use Rattle.std.proofs.Common.{◌≡◌, sym, ap, ◌∙◌, ℕ, ◌<◌, ◌≤◌, List, length}
use Rattle.std.proofs.Math.Path.{ap₂}
use Rattle.lp_spec.specs.Trees.{Tree, App, lift, loose}
use Rattle.lp_binding_laws.specs.Closed.{lift_at-closed}
use Rattle.lp_term.specs.declared.LpId.{LpId}
use Rattle.lp_term.specs.Tables.{tree_at, Holds, Stays}
use Rattle.lp_term.specs.TableLaws.{Holds-tree_at, tree_at-Stays}

-- a tree without loose variables is as it is
pub lift-closed : (ts : List Tree) (b : LpId) (k : ℕ) → loose (tree_at ts b.0) ≤ 0 → tree_at ts b.0 ≡ lift k (tree_at ts b.0)
lift-closed ts b k h = sym (lift_at-closed 0 k (tree_at ts b.0) h)

-- an application of two trees that were made one after the other
pub lift-parts : (ts us vs ws : List Tree) → Stays ts us → Stays us vs → (g x h y r : LpId) (k : ℕ) → x.0 < length ts → h.0 < length us → tree_at us h.0
    ≡ lift k (tree_at ts g.0) → tree_at vs y.0 ≡ lift k (tree_at us x.0) → Holds ws r.0 (App (tree_at vs h.0) (tree_at vs y.0))
    → tree_at ws r.0 ≡ App (lift k (tree_at ts g.0)) (lift k (tree_at ts x.0))
lift-parts ts us vs ws s t g x h y r k hx hh a b made =
    Holds-tree_at ws r.0 (App (tree_at vs h.0) (tree_at vs y.0)) made
    ∙ ap₂ App (sym (tree_at-Stays t h.0 hh) ∙ a) (b ∙ ap (lift k) (sym (tree_at-Stays s x.0 hx)))
