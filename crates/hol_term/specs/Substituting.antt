-- A substitution on its way through a term.
use Rattle.std.specs.Prelude.{◌≡◌, ℕ, ◌+◌, ◌*◌, ◌<◌, List, [], ◌∷◌, length}
use Rattle.hol_spec.specs.Names.{Name}
use Rattle.hol_spec.specs.Types.{HolType}
use Rattle.hol_spec.specs.Terms.{Term, app, lam}
use Rattle.hol_spec.specs.Limits.{term_size}
use Rattle.hol_type.specs.declared.table.TypeId.{TypeId}
use Rattle.hol_type.specs.Tables as type
use Rattle.hol_term.specs.declared.TermId.{TermId}
use Rattle.hol_term.specs.declared.Variable.{Variable}
use Rattle.hol_term.specs.declared.substitution.Turn.{Turn}
use Rattle.hol_term.specs.declared.substitution.Turn.TheVariants.{Visit, Apply, Abstract}
use Rattle.hol_term.specs.Tables.{Trees, term_at, Holds, Keeps}
use Rattle.tree_map.specs.Noted.{IsNoted}
use Rattle.hol_term.specs.Substitutions.{AreKnownPairs, image_of}
use Rattle.hol_term.specs.Walks.{AreHeld}

-- What is made is told by the trees and pairs that the table had at the beginning.
module _ (from : Trees) (types : List (Name × TypeId)) (terms : List (Variable × TermId)) where
  abbrev pub image_at : TermId → Term
  image_at id = image_of from types terms (term_at from id.0)

  abbrev pub AreNoted : Trees → List (TermId × TermId) → Type 0
  AreNoted trees images = (id r : TermId) → IsNoted images id r → Holds trees r.0 (image_at id)

  -- with these terms made last, the tasks come to the root's: a task takes up what it is made of, and puts the image of its term
  abbrev pub Ends : Trees → Term → List Turn → List Term → Type 0
  Ends trees root [] made = made ≡ root ∷ []
  Ends trees root (Visit id ∷ rest) made = (id.0 < length from.terms) × Ends trees root rest (image_at id ∷ made)
  Ends trees root (Apply id ∷ rest) (x ∷ f ∷ made) = (app f x ≡ image_at id) × Ends trees root rest (app f x ∷ made)
  Ends trees root (Apply id ∷ rest) (x ∷ []) = ⊥
  Ends trees root (Apply id ∷ rest) [] = ⊥
  Ends trees root (Abstract id ty ∷ rest) (b ∷ made) =
      (t : HolType) × type.Holds trees.types ty.0 t × (lam t b ≡ image_at id) × Ends trees root rest (lam t b ∷ made)
  Ends trees root (Abstract id ty ∷ rest) [] = ⊥

-- a substitution that is to make the root's term
pub record IsSubstituting (from : Trees) (root : Term) (trees : Trees) (types : List (Name × TypeId)) (terms : List (Variable × TermId)) (tasks : List Turn)
    (made : List TermId) (images : List (TermId × TermId)) : Type 0 where
  pub keeps : Keeps from trees
  pub known : AreKnownPairs from types terms
  pub values : List Term
  pub held : AreHeld trees made values
  pub ends : Ends from types terms trees root tasks values
  pub noted : AreNoted from types terms trees images

-- how many turns the tasks take at most
abbrev pub steps : Trees → List Turn → ℕ
steps from [] = 0
steps from (Visit id ∷ rest) = 2 * term_size (term_at from id.0) + steps from rest
steps from (Apply id ∷ rest) = 1 + steps from rest
steps from (Abstract id ty ∷ rest) = 1 + steps from rest
