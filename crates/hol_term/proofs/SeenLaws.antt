-- Which numbers and names were noted.
use Rattle.std.proofs.Common.{◌≡◌, ℕ, zero, suc, refl, sym, ap, ◌∙◌, cond, List, [], ◌∷◌, ◌++◌, Some, Bool, true, false, ⊎_elim}
use Rattle.std.proofs.lemmas.Bool.{eqb-true, eq-eqb}
use Rattle.std.specs.Prelude.{slice_get, IsTrue, ◌↔◌}
use Rattle.std.specs.List.{list_any}
use Rattle.std.proofs.lemmas.Option.{same_Some}
use Rattle.indexmap.specs.IndexSet.{insert_key}
use Rattle.hol_term.specs.declared.TermId.{TermId}
use Rattle.hol_term.specs.contracts.TermIdPartialEq.TheImpl as id_eq
use Rattle.hol_term.specs.Subterms.{IsAmong}
use Rattle.hol_term.proofs.Gathered.{or_either, or_left, or_right}

-- numbers that are equal by their test are one
pub id_same : (p q : TermId) → id_eq.eq-value.it p q ≡ true → p ≡ q
id_same p q h = let x = eqb-true p.0 q.0 h in λ i. record { 0 = x i }

id_itself : (p : TermId) → id_eq.eq-value.it p p ≡ true
id_itself p = eq-eqb p.0 p.0 refl

among_if : (p : TermId) (ids : List TermId) → list_any (id_eq.eq-value.it p) ids ≡ true → IsAmong ids p
among_if p [] h = absurd (cc)
among_if p (q ∷ ids) h = ⊎_elim
    (λ a. (0, ap Some (sym (id_same p q a))))
    (λ b. let r = among_if p ids b in (suc r.0, r.1))
    (or_either (id_eq.eq-value.it p q) (list_any (id_eq.eq-value.it p) ids) h)

if_among : (p : TermId) (ids : List TermId) (i : ℕ) → slice_get ids i ≡ Some p → list_any (id_eq.eq-value.it p) ids ≡ true
if_among p [] i h = absurd (cc)
if_among p (q ∷ ids) zero h = or_left (id_eq.eq-value.it p q) _ (ap (id_eq.eq-value.it p) (same_Some _ _ h) ∙ id_itself p)
if_among p (q ∷ ids) (suc i) h = or_right (id_eq.eq-value.it p q) _ (if_among p ids i h)

-- the test finds the numbers that are there
pub has_noted : (p : TermId) (ids : List TermId) (b : Bool) → b ≡ list_any (id_eq.eq-value.it p) ids → IsTrue b ↔ IsAmong ids p
has_noted p ids b e = (λ h. among_if p ids (sym e ∙ h), λ h. e ∙ if_among p ids h.0 h.1)

-- a number that was not noted goes last
pub insert_key-absent : (p : TermId) (ids : List TermId) → (IsAmong ids p → ⊥) → insert_key id_eq.eq-value.it ids p ≡ ids ++ p ∷ []
insert_key-absent p ids other = go (list_any (id_eq.eq-value.it p) ids) refl
  where
    go : (b : Bool) → list_any (id_eq.eq-value.it p) ids ≡ b → insert_key id_eq.eq-value.it ids p ≡ ids ++ p ∷ []
    go true e = absurd (other (among_if p ids e))
    go false e = ap (λ b. cond b ids (ids ++ p ∷ [])) e
