-- Whether a number is among others is whether its term is among theirs, where no term has two numbers.
use Rattle.std.proofs.Common.{◌≡◌, ◌<◌, ◌||◌, refl, ap, List, [], ◌∷◌, Bool, true, false, length}
use Rattle.std.specs.Bool.{Decides}
use Rattle.std.specs.Cmp.{unsigned_Decides}
use Rattle.std.specs.Prelude.{nat_eq}
use Rattle.hol_spec.specs.Lists.{is_in}
use Rattle.hol_spec.specs.Terms.{Term, term_eq}
use Rattle.hol_laws.specs.TermLaws.{term_eq-Decides}
use Rattle.hol_term.specs.declared.TermId.{TermId}
use Rattle.hol_term.specs.Tables.{Trees, term_at, terms_at, AreKnown, IsDistinct}
use Rattle.hol_term.specs.TableLaws as term_laws
use Rattle.sequent.specs.Sequents.{same_id}

-- equal tests of equal things
pub alike : {A B : Type 0} (a b : Bool) → Decides a A → Decides b B → (A → B) → (B → A) → a ≡ b
alike true true d e f g = refl
alike false false d e f g = refl
alike true false d e f g = absurd (let yes = e.1 (f (d.0 refl)) in cc)
alike false true d e f g = absurd (let yes = d.1 (g (e.0 refl)) in cc)

-- the test of numbers is that of terms
module _ (terms : Trees) (one : IsDistinct terms.terms) where
  abbrev formula : TermId → Term
  formula id = term_at terms id.0

  pub same-formula : (p q : TermId) → p.0 < length terms.terms → q.0 < length terms.terms → same_id p q ≡ term_eq (formula p) (formula q)
  same-formula p q k l =
      alike (nat_eq p.0 q.0) (term_eq (formula p) (formula q)) (unsigned_Decides p.0 q.0) (term_eq-Decides (formula p) (formula q)) (ap (term_at terms))
      (λ e. ap (λ (i : TermId). i.0) (term_laws.term_in-same one p q k l e))

  -- whether a number is among others, and whether its term is among theirs
  pub is_in-terms : (id : TermId) → id.0 < length terms.terms → (ids : List TermId) → AreKnown terms ids
      → is_in same_id id ids ≡ is_in term_eq (formula id) (terms_at terms ids)
  is_in-terms id l [] h = refl
  is_in-terms id l (i ∷ is) h = λ w. same-formula id i l h.0 w || is_in-terms id l is h.1 w
