-- What the making of terms leaves as it is.
use Rattle.std.specs.Prelude.{ℕ, ◌≤◌, length}
use Rattle.hol_term.specs.Tables.{Trees, IsTermAt}
use Rattle.bench.specs.declared.terms.Shared.{Shared}

-- the numbers of terms are still theirs, and those of types too
pub record KeepsTerms (old new : Trees) : Type 0 where
  pub terms : (id : ℕ) → IsTermAt old id → IsTermAt new id
  pub types : length old.types ≤ length new.types

-- the numbers are those of terms
pub record AreTerms (trees : Trees) (shared : Shared) : Type 0 where
  pub unary : IsTermAt trees shared.unary.0
  pub binary : IsTermAt trees shared.binary.0
  pub bound : IsTermAt trees shared.bound.0
  pub argument : IsTermAt trees shared.argument.0
