-- What a rule reads of its premises.
use Rattle.std.specs.Prelude.{◌≡◌, ℕ, ◌<◌, List, [], ◌∷◌, Ok, length}
use Rattle.hol_spec.specs.Types.{HolType}
use Rattle.hol_spec.specs.Terms.{Term, app, lam, HasType}
use Rattle.hol_spec.specs.Equations.{Equation}
use Rattle.hol_spec.specs.Proofs.{sequent_at}
use Rattle.article_spec.specs.Conditions.{equation_of}
use Rattle.hol_term.specs.declared.TermId.{TermId}
use Rattle.hol_term.specs.Tables.{Trees, term_at, terms_at, AreKnown, IsTermAt}
use Rattle.hol_spec.specs.Sequents.{Sequent as ASequent}
use Rattle.sequent.specs.declared.Sequent.{Sequent}
use Rattle.sequent.specs.Sequents as numbers
use Rattle.sequent.specs.Sequents.{IsKnown}
use Rattle.hol_rules.specs.declared.beta.Redex.{Redex}
use Rattle.hol_rules.specs.declared.premises.Sides.{Sides}
use Rattle.hol_rules.specs.Kept.{Kept}

-- the number is that of this tree
pub record IsNumberOf (trees : Trees) (id : TermId) (t : Term) : Type 0 where
  pub known : id.0 < length trees.terms
  pub is : term_at trees id.0 ≡ t

-- the sides are those of the equation that a step's conclusion is
pub record AreSides (k : Kept) (id : ℕ) (sides : Sides) : Type 0 where
  pub equation : Equation
  pub parts : equation_of (sequent_at k.made id) ≡ Ok equation
  pub left : IsNumberOf k.trees sides.left equation.left
  pub right : IsNumberOf k.trees sides.right equation.right
  pub left_typed : HasType equation.left equation.ty
  pub right_typed : HasType equation.right equation.ty

-- the numbers are those of these terms
pub record AreNumbersOf (trees : Trees) (ids : List TermId) (ts : List Term) : Type 0 where
  pub known : AreKnown trees ids
  pub are : terms_at trees ids ≡ ts

-- the numbers are those of terms
abbrev pub AreTermsAt : Trees → List TermId → Type 0
AreTermsAt trees [] = Unit {0}
AreTermsAt trees (id ∷ ids) = IsTermAt trees id.0 × AreTermsAt trees ids

-- the numbers are those of this sequent
pub record IsStated (trees : Trees) (s : Sequent) (t : ASequent) : Type 0 where
  pub known : IsKnown trees s
  pub is : numbers.sequent_at trees s ≡ t

-- the term is the abstraction of this body, applied to this argument
pub record AreRedexParts (trees : Trees) (t : TermId) (redex : Redex) : Type 0 where
  pub ty : HolType
  pub is : term_at trees t.0 ≡ app (lam ty (term_at trees redex.body.0)) (term_at trees redex.arg.0)
  pub body : redex.body.0 < length trees.terms
  pub arg : redex.arg.0 < length trees.terms
