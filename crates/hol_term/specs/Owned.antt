-- A table that a call has made longer, and the one that it was before.
use Rattle.std.specs.Prelude.{◌≡◌, ℕ, List, length, Some}
use Rattle.hol_spec.specs.Types.{HolType}
use Rattle.hol_spec.specs.Terms.{Term, free, bound, constant, app, lam, type_of}
use Rattle.hol_type.specs.Tables as type
use Rattle.hol_term.specs.declared.Mark.{Mark}
use Rattle.hol_term.specs.Tables.{Trees, Holds, Keeps}

-- the types in the head of a term are of the table
abbrev pub HasHeadTypes : List HolType → Term → Type 0
HasHeadTypes types (free n a) = (k : ℕ) × type.Holds types k a
HasHeadTypes types (bound n) = Unit {0}
HasHeadTypes types (constant n a) = (k : ℕ) × type.Holds types k a
HasHeadTypes types (app f x) = Unit {0}
HasHeadTypes types (lam a b) = (k : ℕ) × type.Holds types k a

-- the types in the heads of the terms, and the types of the terms, are of the table
pub record HasItsTypes (trees : Trees) : Type 0 where
  pub heads : (i : ℕ) (t : Term) → Holds trees i t → HasHeadTypes trees.types t
  pub typed : (i : ℕ) (t : Term) (a : HolType) → Holds trees i t → type_of t ≡ Some a → (k : ℕ) × type.Holds trees.types k a

-- the table was so before it had more, and had as many types and terms as marked
pub record IsEarlier (before now : Trees) (mark : Mark) : Type 0 where
  pub keeps : Keeps before now
  pub own : HasItsTypes before
  pub types : mark.types ≡ length before.types
  pub terms : mark.terms ≡ length before.terms
