-- Laws of sequents: to be within is an order, and to be the same an equivalence.
use Rattle.std.proofs.Common.{List, [], ◌∷◌, Bool, true, false, ◌||◌, refl, sym, subst, ◌∙◌}
use Rattle.std.specs.Prelude.{IsTrue}
use Rattle.std.specs.List.{list_all}
use Rattle.std.proofs.lemmas.Bool.{and_parts, and_from, or_right, or_left}
use Rattle.hol_spec.specs.Lists.{is_in}
use Rattle.hol_spec.specs.Terms.{Term, term_eq}
use Rattle.hol_laws.specs.TermLaws.{term_eq-Decides}
use Rattle.hol_spec.specs.Sequents.{Sequent, within, same}

or_elim : (P : Type 0) (a b : Bool) → IsTrue (a || b) → (IsTrue a → P) → (IsTrue b → P) → P
or_elim P true b e f g = f refl
or_elim P false b e f g = g e

all_in : (gs hs : List Term) (t : Term) → IsTrue (list_all (λ h. is_in term_eq h gs) hs) → IsTrue (is_in term_eq t hs) → IsTrue (is_in term_eq t gs)
all_in gs [] t e f = absurd (cc)
all_in gs (h ∷ hs) t e f =
    let parts = and_parts (is_in term_eq h gs) (list_all (λ g. is_in term_eq g gs) hs) e in
    or_elim (IsTrue (is_in term_eq t gs)) (term_eq t h) (is_in term_eq t hs) f
    (λ k. subst (λ u. IsTrue (is_in term_eq u gs)) (sym ((term_eq-Decides t h).0 k)) parts.0) (λ k. all_in gs hs t parts.1 k)

all_among : (fs gs hs : List Term) → IsTrue (list_all (λ h. is_in term_eq h gs) hs) → IsTrue (list_all (λ g. is_in term_eq g fs) gs)
    → IsTrue (list_all (λ h. is_in term_eq h fs) hs)
all_among fs gs [] e f = refl
all_among fs gs (h ∷ hs) e f =
    let parts = and_parts (is_in term_eq h gs) (list_all (λ k. is_in term_eq k gs) hs) e in
    and_from (is_in term_eq h fs) (list_all (λ k. is_in term_eq k fs) hs) (all_in fs gs h f parts.0) (all_among fs gs hs parts.1 f)

wider : (x : Term) (gs hs : List Term) → IsTrue (list_all (λ h. is_in term_eq h gs) hs) → IsTrue (list_all (λ h. is_in term_eq h (x ∷ gs)) hs)
wider x gs [] e = refl
wider x gs (h ∷ hs) e =
    let parts = and_parts (is_in term_eq h gs) (list_all (λ k. is_in term_eq k gs) hs) e in
    and_from (is_in term_eq h (x ∷ gs)) (list_all (λ k. is_in term_eq k (x ∷ gs)) hs) (or_right (term_eq h x) (is_in term_eq h gs) parts.0)
    (wider x gs hs parts.1)

all_own : (hs : List Term) → IsTrue (list_all (λ h. is_in term_eq h hs) hs)
all_own [] = refl
all_own (h ∷ hs) =
    and_from (is_in term_eq h (h ∷ hs)) (list_all (λ k. is_in term_eq k (h ∷ hs)) hs)
    (or_left (term_eq h h) (is_in term_eq h hs) ((term_eq-Decides h h).1 refl)) (wider h hs hs (all_own hs))

-- A sequent is within itself, and what is within what is within a third is within the third.
pub within-refl : (s : Sequent) → IsTrue (within s s)
within-refl s = and_from (list_all (λ h. is_in term_eq h s.hypotheses) s.hypotheses) (term_eq s.conclusion s.conclusion) (all_own s.hypotheses)
    ((term_eq-Decides s.conclusion s.conclusion).1 refl)

pub within-trans : (s t u : Sequent) → IsTrue (within s t) → IsTrue (within t u) → IsTrue (within s u)
within-trans s t u e f =
    let p = and_parts (list_all (λ h. is_in term_eq h t.hypotheses) s.hypotheses) (term_eq s.conclusion t.conclusion) e in
    let q = and_parts (list_all (λ h. is_in term_eq h u.hypotheses) t.hypotheses) (term_eq t.conclusion u.conclusion) f in
    and_from (list_all (λ h. is_in term_eq h u.hypotheses) s.hypotheses) (term_eq s.conclusion u.conclusion)
    (all_among u.hypotheses t.hypotheses s.hypotheses p.0 q.0)
    ((term_eq-Decides s.conclusion u.conclusion).1 ((term_eq-Decides s.conclusion t.conclusion).0 p.1 ∙ (term_eq-Decides t.conclusion u.conclusion).0 q.1))

-- A sequent is the same as itself; sameness goes both ways, and from one to the next.
pub same-refl : (s : Sequent) → IsTrue (same s s)
same-refl s = and_from (within s s) (within s s) (within-refl s) (within-refl s)

pub same-sym : (s t : Sequent) → IsTrue (same s t) → IsTrue (same t s)
same-sym s t e = let p = and_parts (within s t) (within t s) e in and_from (within t s) (within s t) p.1 p.0

pub same-trans : (s t u : Sequent) → IsTrue (same s t) → IsTrue (same t u) → IsTrue (same s u)
same-trans s t u e f =
    let p = and_parts (within s t) (within t s) e in
    let q = and_parts (within t u) (within u t) f in
    and_from (within s u) (within u s) (within-trans s t u p.0 q.0) (within-trans u t s q.1 p.1)
