-- The trees of numbers that are put together.
use Rattle.std.proofs.Common.{◌≡◌, ◌<◌, refl, ap, List, [], ◌∷◌, ◌++◌, length}
use Rattle.lp_spec.specs.Trees.{Tree}
use Rattle.lp_term.specs.declared.LpId.{LpId}
use Rattle.lp_term.specs.Tables.{tree_at, trees_at, AreKnown}

-- one number more
pub AreKnown-more : (trees : List Tree) (items : List LpId) (r : LpId) → AreKnown trees items → r.0 < length trees → AreKnown trees (items ++ r ∷ [])
AreKnown-more trees [] r h k = (k, tt {0})
AreKnown-more trees (x ∷ items) r h k = (h.0, AreKnown-more trees items r h.1 k)

pub trees_at-append : (trees : List Tree) (ids js : List LpId) → trees_at trees (ids ++ js) ≡ trees_at trees ids ++ trees_at trees js
trees_at-append trees [] js = refl
trees_at-append trees (id ∷ ids) js = ap (λ l. tree_at trees id.0 ∷ l) (trees_at-append trees ids js)
