-- What a step does to a walk that comes to each part of a tree once.
use Rattle.std.proofs.Common.{◌≡◌, ℕ, suc, ◌<◌, refl, sym, ap, ◌∙◌, subst, arith, List, [], ◌∷◌, ◌++◌, length, Bool, true, false, ◌⊎◌, ⊎_elim, inl, inr, true≢false}
use Rattle.std.specs.List.{list_any}
use Rattle.hol_spec.specs.Lists.{is_in, union, distinct}
use Rattle.hol_laws.specs.ListLaws.{union-append}
use Rattle.hol_spec.specs.Types.{HolType}
use Rattle.hol_spec.specs.Terms.{Term, free, bound, constant, app, lam, term_eq}
use Rattle.hol_laws.specs.TermLaws.{term_eq-Decides}
use Rattle.hol_spec.specs.Limits.{term_size}
use Rattle.hol_term.specs.declared.TermId.{TermId}
use Rattle.hol_term.specs.Tables.{Trees, term_at, terms_at, AreKnown, IsDistinct}
use Rattle.hol_term.specs.TableLaws.{term_in-same}
use Rattle.hol_term.specs.Parts.{IsLeaf}
use Rattle.hol_term.proofs.EntryLaws.{slice_get-one_more}
use Rattle.hol_term.specs.Subterms.{subterms, IsAmong, AreIn, HasSubterms, IsOnWay, Comes, IsOnTour, sizes}
use Rattle.hol_term.proofs.SubstitutionTurns.{size-positive}
use Rattle.hol_term.proofs.Gathered.{or_either, in_last, AreIn-union, AreIn-itself, union-there}

-- a term is itself
same : (t : Term) → term_eq t t ≡ true
same t = (term_eq-Decides t t).1 refl

-- a term that is not there is put last
union-new : (b : Bool) (t : Term) (xs : List Term) → is_in term_eq t xs ≡ b → (b ≡ true → ⊥) → xs ++ t ∷ [] ≡ union term_eq xs (t ∷ [])
union-new true t xs e other = absurd (other refl)
union-new false t xs e other = rw e refl

-- a term that is among those of some numbers has one of them
number_of : (trees : Trees) (t : Term) (ids : List TermId) → AreKnown trees ids → is_in term_eq t (terms_at trees ids) ≡ true → (j : TermId)
    × (IsAmong ids j × ((j.0 < length trees.terms) × (t ≡ term_at trees j.0)))
number_of trees t [] k e = absurd (cc)
number_of trees t (id ∷ ids) k e = ⊎_elim
    (λ a. (id, ((0, refl), (k.0, (term_eq-Decides t (term_at trees id.0)).0 a))))
    (λ b. let r = number_of trees t ids k.1 b in (r.0, ((suc r.1.0.0, r.1.0.1), r.1.1)))
    (or_either (term_eq t (term_at trees id.0)) (list_any (term_eq t) (terms_at trees ids)) e)

terms_at-last : (trees : Trees) (ids : List TermId) (id : TermId) → terms_at trees (ids ++ id ∷ []) ≡ terms_at trees ids ++ term_at trees id.0 ∷ []
terms_at-last trees [] id = refl
terms_at-last trees (x ∷ ids) id = ap (λ l. term_at trees x.0 ∷ l) (terms_at-last trees ids id)

AreKnown-last : (trees : Trees) (ids : List TermId) (id : TermId) → AreKnown trees ids → id.0 < length trees.terms → AreKnown trees (ids ++ id ∷ [])
AreKnown-last trees [] id k h = (h, tt)
AreKnown-last trees (x ∷ ids) id k h = (k.0, AreKnown-last trees ids id k.1 h)

among_last : (ids : List TermId) (id j : TermId) → IsAmong (ids ++ id ∷ []) j → IsAmong ids j ⊎ (j ≡ id)
among_last ids id j h = ⊎_elim (λ a. inl (h.0, a)) (λ b. inr (sym b.1)) (slice_get-one_more ids id j h.0 h.1)

-- what was there stays where a list has more
AreIn-later : (xs ys us ts : List Term) → ys ≡ union term_eq xs us → AreIn term_eq xs ts → AreIn term_eq ys ts
AreIn-later xs ys us ts e h = subst (λ l. AreIn term_eq l ts) (sym e) (AreIn-union term_eq same us xs ts h)

module _ (trees : Trees) (id : TermId) (old : List TermId) (way : IsOnWay trees id old) where
  -- a tree that was noted
  pub come_again : IsAmong old id → Comes trees id old old
  come_again h = record {
    known = way.known;
    terms = sym (union-there term_eq (subterms (term_at trees id.0)) (terms_at trees old) (way.closed id h (omega arith)));
    closed = λ j a. inl a;
  }

-- a tree that was not noted, and is noted now
module _ (trees : Trees) (id : TermId) (old : List TermId) (d : IsDistinct trees.terms) (lt : id.0 < length trees.terms) (way : IsOnWay trees id old)
    (new : IsAmong old id → ⊥) where
  absent : is_in term_eq (term_at trees id.0) (terms_at trees old) ≡ true → ⊥
  absent e = let n = number_of trees (term_at trees id.0) old way.known e in new (subst (IsAmong old) (sym (term_in-same d id n.0 lt n.1.1.0 n.1.1.1)) n.1.0)

  noted : terms_at trees (old ++ id ∷ []) ≡ union term_eq (terms_at trees old) (term_at trees id.0 ∷ [])
  noted = terms_at-last trees old id ∙ union-new (is_in term_eq (term_at trees id.0) (terms_at trees old)) (term_at trees id.0) (terms_at trees old) refl absent

  itself : AreIn term_eq (terms_at trees (old ++ id ∷ [])) (term_at trees id.0 ∷ [])
  itself = subst (λ l. AreIn term_eq l (term_at trees id.0 ∷ [])) (sym (terms_at-last trees old id))
      (in_last term_eq same (term_at trees id.0) (terms_at trees old), tt)

  below : (j : TermId) → IsAmong (old ++ id ∷ []) j → j.0 < id.0 → HasSubterms trees (old ++ id ∷ []) j
  below j a h = ⊎_elim
      (λ o. AreIn-later (terms_at trees old) (terms_at trees (old ++ id ∷ [])) (term_at trees id.0 ∷ []) (subterms (term_at trees j.0)) noted
      (way.closed j o (omega (arith, h))))
      (λ e. absurd (let q = ap (λ k. k.0) e in omega (arith, h, q)))
      (among_last old id j a)

  pub way_to_part : (f : TermId) → f.0 < id.0 → IsOnWay trees f (old ++ id ∷ [])
  way_to_part f h = record { known = AreKnown-last trees old id way.known lt; closed = λ j a le. below j a (omega (arith, h, le)) }

  pub way_to_second : (f x : TermId) (mid : List TermId) → x.0 < id.0 → Comes trees f (old ++ id ∷ []) mid → IsOnWay trees x mid
  way_to_second f x mid h c = record {
    known = c.known;
    closed = λ j a le. ⊎_elim
        (λ n. AreIn-later (terms_at trees (old ++ id ∷ [])) (terms_at trees mid) (subterms (term_at trees f.0)) (subterms (term_at trees j.0)) c.terms
        (below j n (omega (arith, h, le))))
        (λ s. s)
        (c.closed j a);
  }

  -- the walk has come to the tree where it has come to its parts
  come_parts : (us : List Term) (ids : List TermId) → subterms (term_at trees id.0) ≡ term_at trees id.0 ∷ us → AreKnown trees ids → terms_at trees ids
      ≡ union term_eq (terms_at trees (old ++ id ∷ [])) us → ((j : TermId) → IsAmong ids j → IsAmong (old ++ id ∷ []) j ⊎ HasSubterms trees ids j)
      → Comes trees id old ids
  come_parts us ids e k h c = record {
    known = k;
    terms = h ∙ ap (λ l. union term_eq l us) noted ∙ sym (union-append term_eq (term_at trees id.0 ∷ []) us (terms_at trees old))
        ∙ ap (union term_eq (terms_at trees old)) (sym e);
    closed = λ j a. ⊎_elim (λ n. ⊎_elim (λ o. inl o) (λ q. inr (subst (HasSubterms trees ids) (sym q) here)) (among_last old id j n)) (λ s. inr s) (c j a);
  }
    where
      here : HasSubterms trees ids id
      here = subst (AreIn term_eq (terms_at trees ids)) (sym e) (
        (AreIn-later (terms_at trees (old ++ id ∷ [])) (terms_at trees ids) us (term_at trees id.0 ∷ []) h itself).0,
        subst (λ l. AreIn term_eq l us) (sym h) (AreIn-itself term_eq same us (terms_at trees (old ++ id ∷ []))),
      )

  pub come_leaf : subterms (term_at trees id.0) ≡ term_at trees id.0 ∷ [] → Comes trees id old (old ++ id ∷ [])
  come_leaf e = come_parts [] (old ++ id ∷ []) e (AreKnown-last trees old id way.known lt) refl (λ j a. inl a)

  pub come_lam : (a : HolType) (b : TermId) (ids : List TermId) → term_at trees id.0 ≡ lam a (term_at trees b.0) → Comes trees b (old ++ id ∷ []) ids
      → Comes trees id old ids
  come_lam a b ids e c = come_parts (subterms (term_at trees b.0)) ids (ap subterms e ∙ ap (λ u. u ∷ subterms (term_at trees b.0)) (sym e)) c.known c.terms
      c.closed

  pub come_app : (f x : TermId) (mid ids : List TermId) → term_at trees id.0 ≡ app (term_at trees f.0) (term_at trees x.0) → Comes trees f (old ++ id ∷ []) mid
      → Comes trees x mid ids → Comes trees id old ids
  come_app f x mid ids e c s = come_parts
      (subterms (term_at trees f.0) ++ subterms (term_at trees x.0)) ids
      (ap subterms e ∙ ap (λ u. u ∷ subterms (term_at trees f.0) ++ subterms (term_at trees x.0)) (sym e))
      s.known
      (s.terms ∙ ap (λ l. union term_eq l (subterms (term_at trees x.0))) c.terms
      ∙ sym (union-append term_eq (subterms (term_at trees f.0)) (subterms (term_at trees x.0)) (terms_at trees (old ++ id ∷ []))))
      (λ j a. ⊎_elim
      (λ m. ⊎_elim
      (λ n. inl n)
      (λ q. inr (AreIn-later (terms_at trees mid) (terms_at trees ids) (subterms (term_at trees x.0)) (subterms (term_at trees j.0)) s.terms q))
      (c.closed j m))
      (λ q. inr q)
      (s.closed j a))

-- a leaf and a bound number have no parts
pub leaf_alone : (t : Term) → IsLeaf t → subterms t ≡ t ∷ []
leaf_alone (free n a) h = refl
leaf_alone (constant n a) h = refl
leaf_alone (bound k) h = absurd h
leaf_alone (app f x) h = absurd h
leaf_alone (lam a b) h = absurd h

pub bound_alone : (t : Term) (k : ℕ) → t ≡ bound k → subterms t ≡ t ∷ []
bound_alone t k e = ap subterms e ∙ ap (λ u. u ∷ []) (sym e)

-- what is not found is not there
pub not_among : (ids : List TermId) (id : TermId) (b : Bool) → b ≡ false → (IsAmong ids id → b ≡ true) → IsAmong ids id → ⊥
not_among ids id b e h a = true≢false (sym (h a) ∙ e)

-- a walk that began with nothing has come to the parts of the tree, each once
pub came : (trees : Trees) (id : TermId) (old ids : List TermId) → old ≡ [] → Comes trees id old ids → terms_at trees ids
    ≡ distinct term_eq (subterms (term_at trees id.0))
came trees id old ids e c = c.terms ∙ ap (λ l. union term_eq (terms_at trees l) (subterms (term_at trees id.0))) e

-- a tour over the same lists
pub same_tour : (trees : Trees) (root : TermId) (before next others seen more : List TermId) → others ≡ next → more ≡ seen
    → IsOnTour trees root before next seen → IsOnTour trees root before others more
same_tour trees root before next others seen more e f h =
    subst (λ l. IsOnTour trees root before l more) (sym e) (subst (IsOnTour trees root before next) (sym f) h)

-- A step of a tour
module _ (trees : Trees) (root : TermId) (before next : List TermId) (id : TermId) (old : List TermId) (tour : IsOnTour trees root before (id ∷ next) old) where
  pub tour_again : IsAmong old id → IsOnTour trees root before next old
  tour_again h = tour.2 old (come_again trees id old tour.1 h)

  module _ (d : IsDistinct trees.terms) (new : IsAmong old id → ⊥) where
    pub tour_leaf : subterms (term_at trees id.0) ≡ term_at trees id.0 ∷ [] → IsOnTour trees root before next (old ++ id ∷ [])
    tour_leaf e = tour.2 (old ++ id ∷ []) (come_leaf trees id old d tour.0 tour.1 new e)

    pub tour_lam : (a : HolType) (b : TermId) → term_at trees id.0 ≡ lam a (term_at trees b.0) → b.0 < id.0
        → IsOnTour trees root before (b ∷ next) (old ++ id ∷ [])
    tour_lam a b e h = (
      (let lt = tour.0 in omega (arith, lt, h)),
      way_to_part trees id old d tour.0 tour.1 new b h,
      λ ids c. tour.2 ids (come_lam trees id old d tour.0 tour.1 new a b ids e c),
    )

    pub tour_app : (f x : TermId) → term_at trees id.0 ≡ app (term_at trees f.0) (term_at trees x.0) → f.0 < id.0 → x.0 < id.0
        → IsOnTour trees root before (f ∷ x ∷ next) (old ++ id ∷ [])
    tour_app f x e h k =
        let lt = tour.0 in (
          omega (arith, lt, h),
          way_to_part trees id old d tour.0 tour.1 new f h,
          λ mid c. (
            omega (arith, lt, k),
            way_to_second trees id old d tour.0 tour.1 new f x mid k c,
            λ ids s. tour.2 ids (come_app trees id old d tour.0 tour.1 new f x mid ids e c s),
          ),
        )

pub tour_less : (trees : Trees) (id : TermId) (next : List TermId) → sizes trees next < sizes trees (id ∷ next)
tour_less trees id next = let l = size-positive (term_at trees id.0) in omega (arith, l)

pub tour_lam_less : (trees : Trees) (id b : TermId) (a : HolType) (next : List TermId) → term_at trees id.0 ≡ lam a (term_at trees b.0)
    → sizes trees (b ∷ next) < sizes trees (id ∷ next)
tour_lam_less trees id b a next e = let l = ap term_size e in omega (arith, l)

pub tour_app_less : (trees : Trees) (id f x : TermId) (next : List TermId) → term_at trees id.0 ≡ app (term_at trees f.0) (term_at trees x.0)
    → sizes trees (f ∷ x ∷ next) < sizes trees (id ∷ next)
tour_app_less trees id f x next e = let l = ap term_size e in omega (arith, l)
