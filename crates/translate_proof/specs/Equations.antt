-- The equation that a step's conclusion is, by numbers.
use Rattle.std.specs.Prelude.{◌≡◌, ℕ, ◌<◌, length}
use Rattle.hol_spec.specs.Types.{HolType}
use Rattle.hol_spec.specs.Terms.{Term, HasType, equation}
use Rattle.hol_spec.specs.Proofs.{sequent_at}
use Rattle.hol_term.specs.Tables.{term_at, type_at}
use Rattle.hol_rules.specs.Kept.{Kept}
use Rattle.translate_proof.specs.declared.rows.Equated.{Equated}

-- a step's conclusion is an equation
pub record IsEquationStep (k : Kept) (id : ℕ) : Type 0 where
  pub ty : HolType
  pub left : Term
  pub right : Term
  pub is : (sequent_at k.made id).conclusion ≡ equation ty left right

-- and these are the numbers of its type and its sides
pub record IsEquated (k : Kept) (id : ℕ) (e : Equated) : Type 0 where
  pub ty : e.ty.0 < length k.trees.types
  pub left : e.left.0 < length k.trees.terms
  pub right : e.right.0 < length k.trees.terms
  pub is : (sequent_at k.made id).conclusion ≡ equation (type_at k.trees e.ty.0) (term_at k.trees e.left.0) (term_at k.trees e.right.0)
  pub left_typed : HasType (term_at k.trees e.left.0) (type_at k.trees e.ty.0)
  pub right_typed : HasType (term_at k.trees e.right.0) (type_at k.trees e.ty.0)
