-- Pairs of terms for variables, with one more.
use Rattle.std.proofs.Common.{◌<◌, List, [], ◌∷◌, ◌++◌, length}
use Rattle.hol_term.specs.declared.TermId.{TermId}
use Rattle.hol_term.specs.declared.Variable.{Variable}
use Rattle.hol_term.specs.Substitutions.{AreTermPairs}
use Rattle.hol_term.specs.Tables.{Trees, IsTermAt}

pub AreTermPairs-push : (trees : Trees) (ps : List (Variable × TermId)) (p : Variable × TermId) → AreTermPairs trees ps → p.0.ty.0 < length trees.types
    → IsTermAt trees p.1.0 → AreTermPairs trees (ps ++ p ∷ [])
AreTermPairs-push trees [] p h k l = (k, (l, tt))
AreTermPairs-push trees (q ∷ ps) p h k l = (h.0, (h.1.0, AreTermPairs-push trees ps p h.1.1 k l))
