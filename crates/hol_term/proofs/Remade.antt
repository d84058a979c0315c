-- What a walk makes, place by place.
use Rattle.std.proofs.Common.{◌≡◌, ℕ, zero, suc, ◌+◌, ◌-◌, ◌<◌, ◌≤◌, ◌^◌, refl, sym, ap, ◌∙◌, subst, arith, List, [], ◌∷◌, ◌++◌, map, length, get_or, reverse, Some, Bool, true, false, cond, ⊎_elim}
use Rattle.std.specs.Prelude.{slice_get}
use Rattle.std.specs.Option.{option_map, option_map_or}
use Rattle.std.proofs.lemmas.Option.{slice_get-map, same_Some}
use Rattle.std.proofs.lemmas.List.{length-map, map-append, reverse-append}
use Rattle.std.proofs.Math.Path.{ap₂}
use Rattle.hol_spec.specs.Terms.{Term, free, bound, constant, app, lam, Variable, variable_eq}
use Rattle.hol_spec.specs.Types.{HolType}
use Rattle.hol_laws.specs.TermLaws.{variable_eq-Decides}
use Rattle.hol_spec.specs.TermBinding.{lift, close_at, loose, put_all_at}
use Rattle.hol_laws.specs.TermRenamings.{put_all_bound-high}
use Rattle.hol_laws.specs.TermClosed.{lift_at-closed, lift_at-zero, put_all_at-closed}
use Rattle.hol_term.specs.declared.TermId.{TermId}
use Rattle.hol_term.specs.declared.memo.Change.{Change}
use Rattle.hol_term.specs.declared.memo.Change.TheVariants.{Raise, Replace, Close}
use Rattle.hol_term.specs.declared.memo.Place.{Place}
use Rattle.hol_term.specs.declared.walk.Replacement.TheVariants.{Renamed, Argument}
use Rattle.hol_term.specs.Tables.{Trees, term_at, terms_at, AreKnown, Holds, Keeps, IsDistinct}
use Rattle.hol_term.specs.TableLaws.{term_in-Some, term_in-Stays, term_in-same, terms_at-Keeps}
use Rattle.hol_term.specs.Parts.{IsLeaf}
use Rattle.hol_term.specs.Masks.{IsWithout}
use Rattle.hol_term.proofs.MaskLaws.{close_at-without}
use Rattle.hol_term.specs.Walks.{changed, variable_of, wanted, CanClose, IsPlace, IsLeftAlone, IsReplaced, IsTask, turns, turns_of_all, lifting, work_at}

-- a longer table wants the same
module _ (a b : Trees) (k : Keeps a b) (ids : List TermId) (g : AreKnown a ids) where
  pub wanted-Keeps : (p : Place) → p.id.0 < length a.terms → wanted (terms_at a ids) a p ≡ wanted (terms_at b ids) b p
  wanted-Keeps p h = ap₂ (λ args t. changed args p.change p.depth t) (terms_at-Keeps k ids g) (term_in-Stays k.stays p.id.0 h)

  pub CanClose-Keeps : (c : Change) → CanClose (terms_at a ids) c → CanClose (terms_at b ids) c
  CanClose-Keeps c h = λ e. let w = h e in (w.0, sym (terms_at-Keeps k ids g) ∙ w.1)

changed-closed : (args : List Term) (c : Change) (d : ℕ) (t : Term) → (c ≡ Close → IsWithout (variable_of args) t) → loose t ≤ d → changed args c d t ≡ t
changed-closed args (Raise k) d t n h = lift_at-closed d k t h
changed-closed args Replace d t n h = put_all_at-closed d args t h
changed-closed args Close d t n h = close_at-without d (variable_of args) t (n refl) h

-- a list of one number
pub one_only : (ids : List TermId) (d : TermId) → 1 ≤ length ids → length ids < 2 → ids ≡ get_or ids 0 d ∷ []
one_only [] d l h = absurd (let w = l in omega (arith, w))
one_only (x ∷ []) d l h = refl
one_only (x ∷ y ∷ ids) d l h = absurd (let w = h in omega (arith, w))

-- a variable that isn't free in a tree is not the one that is closed over
pub closed_without : (a : Trees) (ids : List TermId) (v : TermId) (c : Change) (t : Term) → ids ≡ v ∷ [] → AreKnown a ids
    → ((w : Variable) → Holds a v.0 (free w.0 w.1) → IsWithout w t) → CanClose (terms_at a ids) c → c ≡ Close → IsWithout (variable_of (terms_at a ids)) t
closed_without a ids v c t one known without closing e =
    let w = closing e in
    let is : term_at a v.0 ≡ free w.0.0 w.0.1 = ap first (ap (terms_at a) (sym one) ∙ w.1) in
    let lt : AreKnown a (v ∷ []) = subst (AreKnown a) one known in
    subst (λ args. IsWithout (variable_of args) t) (sym w.1) (without w.0 (term_in-Some a.terms v.0 lt.0 ∙ ap Some is))
  where
    first : List Term → Term
    first [] = bound 0
    first (x ∷ xs) = x

-- what is left alone is what is wanted
pub alone_wanted : (a : Trees) (ids : List TermId) (p : Place) → p.id.0 < length a.terms → IsLeftAlone (terms_at a ids) a p
    → Holds a p.id.0 (wanted (terms_at a ids) a p)
alone_wanted a ids p lt alone =
    let e : wanted (terms_at a ids) a p ≡ term_at a p.id.0 = ⊎_elim
    (λ none. ap (λ c. changed (terms_at a ids) c p.depth (term_at a p.id.0)) none ∙ lift_at-zero p.depth (term_at a p.id.0))
    (λ closed. changed-closed (terms_at a ids) p.change p.depth (term_at a p.id.0) closed.0 closed.1)
    alone in
    term_in-Some a.terms p.id.0 lt ∙ ap Some (sym e)

pub changed-app : (args : List Term) (c : Change) (d : ℕ) (f x : Term) → app (changed args c d f) (changed args c d x) ≡ changed args c d (app f x)
changed-app args (Raise k) d f x = refl
changed-app args Replace d f x = refl
changed-app args Close d f x = refl

pub changed-lam : (args : List Term) (c : Change) (d : ℕ) (ty : HolType) (b : Term) → lam ty (changed args c (suc d) b) ≡ changed args c d (lam ty b)
changed-lam args (Raise k) d ty b = refl
changed-lam args Replace d ty b = refl
changed-lam args Close d ty b = refl

-- a bound number that stands for one
pub made_bound : (a g : Trees) (ids : List TermId) (p : Place) (n m : ℕ) (id : TermId) → term_at a p.id.0 ≡ bound n → IsReplaced ids p n (Renamed m)
    → Holds g id.0 (bound m) → Holds g id.0 (wanted (terms_at a ids) a p)
made_bound a g ids p n m id e r h =
    h ∙ ap Some (sym (ap (changed (terms_at a ids) p.change p.depth) e ∙ r.1 (terms_at a ids) (length-map ids (λ i. term_at a i.0))))

AreKnown-at : (a : Trees) (ids : List TermId) (i : ℕ) (id : TermId) → slice_get ids i ≡ Some id → AreKnown a ids → id.0 < length a.terms
AreKnown-at a [] i id e h = absurd (cc)
AreKnown-at a (x ∷ ids) zero id e h = subst (λ (y : TermId). y.0 < length a.terms) (same_Some _ _ e) h.0
AreKnown-at a (x ∷ ids) (suc i) id e h = AreKnown-at a ids i id e h.1

turns_of_all-at : (a : Trees) (ids : List TermId) (i : ℕ) (id : TermId) → slice_get ids i ≡ Some id → turns 0 (term_at a id.0) ≤ turns_of_all (terms_at a ids)
turns_of_all-at a [] i id e = absurd (cc)
turns_of_all-at a (x ∷ ids) zero id e = omega (arith, ap (λ (y : TermId). turns 0 (term_at a y.0)) (same_Some _ _ e))
turns_of_all-at a (x ∷ ids) (suc i) id e = omega (arith, turns_of_all-at a ids i id e)

map-reverse : {X Y : Type 0} (f : X → Y) (xs : List X) → map f (reverse xs) ≡ reverse (map f xs)
map-reverse f [] = refl
map-reverse f (x ∷ xs) =
    ap (map f) (reverse-append (x ∷ []) xs) ∙ map-append f (reverse xs) (x ∷ []) ∙ ap (λ l. l ++ f x ∷ []) (map-reverse f xs)
    ∙ sym (reverse-append (f x ∷ []) (map f xs))

-- an argument that is lifted stands for the number
module _ (a : Trees) (ids : List TermId) (p place : Place) (n : ℕ) (id : TermId) (r : IsReplaced ids p n (Argument id))
    (is : place ≡ record { id = id; depth = 0; change = Raise p.depth }) where
  pub argument_place : length a.terms < 2 ^ 63 → AreKnown a ids → IsPlace a place
  argument_place small g =
      let lt = AreKnown-at a ids r.3.0 id r.3.1 g in
      let e : place.id ≡ id = ap (λ (w : Place). w.id) is in
      let d : place.depth ≡ 0 = ap (λ (w : Place). w.depth) is in
      let i : place.id.0 ≡ id.0 = ap (λ (w : TermId). w.0) e in
      (omega (arith, i, lt), omega (arith, i, d, lt, small))

  pub argument_closing : (args : List Term) → CanClose args place.change
  argument_closing args = λ e. let w : Raise p.depth ≡ Close = sym (ap (λ (w : Place). w.change) is) ∙ e in absurd (cc)

  pub argument_wanted : term_at a p.id.0 ≡ bound n → wanted (terms_at a ids) a place ≡ wanted (terms_at a ids) a p
  argument_wanted e =
      let args = terms_at a ids in
      let at = ap (λ l. slice_get l (n - p.depth)) (sym (map-reverse (λ (i : TermId). term_at a i.0) ids))
      ∙ slice_get-map (λ (i : TermId). term_at a i.0) (reverse ids) (n - p.depth) ∙ ap (option_map (λ (i : TermId). term_at a i.0)) r.2 in
      let w : wanted args a p ≡ lift p.depth (term_at a id.0) =
      ap (λ c. changed args c p.depth (term_at a p.id.0)) r.0
      ∙ ap (put_all_at p.depth args) e
      ∙ put_all_bound-high p.depth args n r.1
      ∙ ap (λ o. option_map_or (lift p.depth) o (bound (n - length args))) at in
      ap (λ w. wanted args a w) is ∙ sym w

  -- to lift it is less work than the number's
  pub argument_less : term_at a p.id.0 ≡ bound n → work_at a ids place + 1 < work_at a ids p
  argument_less e =
      let lifts : work_at a ids place ≡ turns 0 (term_at a id.0) = ap (λ (w : Place). work_at a ids w) is in
      let own : work_at a ids p ≡ 2 + turns_of_all (terms_at a ids) = ap₂ (λ c t. turns (lifting (terms_at a ids) c) t) r.0 e in
      let most = turns_of_all-at a ids r.3.0 id r.3.1 in
      omega (arith, lifts, own, most)

-- a free variable or a constant that is not the one that is closed over
close_leaf : (d : ℕ) (v : Variable) (t : Term) → IsLeaf t → (t ≡ free v.0 v.1 → ⊥) → close_at d v t ≡ t
close_leaf d v (free n a) l ne = go (variable_eq (n, a) v) refl
  where
    go : (b : Bool) → variable_eq (n, a) v ≡ b → cond (variable_eq (n, a) v) (bound d) (free n a) ≡ free n a
    go true e = absurd (ne (ap (λ (x : Variable). free x.0 x.1) ((variable_eq-Decides (n, a) v).0 e)))
    go false e = ap (λ b. cond b (bound d) (free n a)) e
close_leaf d v (bound n) l ne = absurd l
close_leaf d v (constant n a) l ne = refl
close_leaf d v (app f x) l ne = absurd l
close_leaf d v (lam t b) l ne = absurd l

loose-leaf : (t : Term) → IsLeaf t → loose t ≤ 0
loose-leaf (free n a) l = omega arith
loose-leaf (bound n) l = absurd l
loose-leaf (constant n a) l = omega arith
loose-leaf (app f x) l = absurd l
loose-leaf (lam t b) l = absurd l

one_id : (a : Trees) (ids : List TermId) (x : Term) → AreKnown a ids → terms_at a ids ≡ x ∷ [] → (w : TermId)
    × ((ids ≡ w ∷ []) × ((w.0 < length a.terms) × (term_at a w.0 ≡ x)))
one_id a [] x g e = absurd (cc)
one_id a (w ∷ []) x g e = (w, (refl, (g.0, cc)))
one_id a (w ∷ u ∷ ids) x g e = absurd (cc)

pub leaf_alone : (a : Trees) (ids : List TermId) (p : Place) → IsDistinct a.terms → p.id.0 < length a.terms → AreKnown a ids → IsLeaf (term_at a p.id.0)
    → CanClose (terms_at a ids) p.change → ((p.change ≡ Close) × (ids ≡ p.id ∷ []) → ⊥) → Holds a p.id.0 (wanted (terms_at a ids) a p)
leaf_alone a ids p d lt g l closing ne = term_in-Some a.terms p.id.0 lt ∙ ap Some (sym (go p.change refl))
  where
    no_number : {n : ℕ} → loose (term_at a p.id.0) ≤ n
    no_number = omega (arith, loose-leaf (term_at a p.id.0) l)

    go : (c : Change) → p.change ≡ c → changed (terms_at a ids) p.change p.depth (term_at a p.id.0) ≡ term_at a p.id.0
    go (Raise k) e = changed-closed (terms_at a ids) p.change p.depth (term_at a p.id.0) (λ f. let w : Raise k ≡ Close = sym e ∙ f in absurd (cc)) no_number
    go Replace e = changed-closed (terms_at a ids) p.change p.depth (term_at a p.id.0) (λ f. let w : Replace ≡ Close = sym e ∙ f in absurd (cc)) no_number
    go Close e =
        let v = closing e in
        let one = one_id a ids (free v.0.0 v.0.1) g v.1 in
        let apart : term_at a p.id.0 ≡ free v.0.0 v.0.1 → ⊥ = λ f. let same : one.0 ≡ p.id =
        term_in-same d one.0 p.id one.1.1.0 lt (one.1.1.1 ∙ sym f) in ne (e, one.1.0 ∙ ap (λ (w : TermId). w ∷ []) same) in
        ap₂ (λ c args. changed args c p.depth (term_at a p.id.0)) e v.1 ∙ close_leaf p.depth v.0 (term_at a p.id.0) l apart

-- the free variable that is closed over
pub leaf_closed : (a g : Trees) (ids : List TermId) (p : Place) (id : TermId) → CanClose (terms_at a ids) p.change → p.change ≡ Close → ids ≡ p.id ∷ []
    → Holds g id.0 (bound p.depth) → Holds g id.0 (wanted (terms_at a ids) a p)
leaf_closed a g ids p id closing e one h =
    let v = closing e in
    let is : term_at a p.id.0 ≡ free v.0.0 v.0.1 = let w = sym (ap (terms_at a) one) ∙ v.1 in first w in
    h ∙ ap Some (sym (ap₂ (λ c args. changed args c p.depth (term_at a p.id.0)) e v.1 ∙ ap (close_at p.depth v.0) is
    ∙ ap (λ b. cond b (bound p.depth) (free v.0.0 v.0.1)) ((variable_eq-Decides v.0 v.0).1 refl)))
  where
    top : List Term → Term
    top [] = bound 0
    top (x ∷ xs) = x

    first : {x y : Term} {xs ys : List Term} → (x ∷ xs) ≡ (y ∷ ys) → x ≡ y
    first e = ap top e

-- a part of a place
module _ (a : Trees) (ids : List TermId) (p place : Place) (x : TermId) (d : ℕ) (is : place ≡ record p { id = x; depth = d }) (lt : x.0 < p.id.0) where
  change_is : place.change ≡ p.change
  change_is = ap (λ (w : Place). w.change) is

  id_is : place.id.0 ≡ x.0
  id_is = ap (λ (w : Place). w.id.0) is

  pub part_task : d ≤ p.depth + 1 → IsTask a ids p → IsTask a ids place
  part_task small h =
      let e : place.depth ≡ d = ap (λ (w : Place). w.depth) is in
      ((omega (arith, id_is, lt, h.0.0), omega (arith, id_is, e, lt, h.0.1, small)), subst (CanClose (terms_at a ids)) (sym change_is) h.1)

  pub part_work : work_at a ids place ≡ turns (lifting (terms_at a ids) p.change) (term_at a x.0)
  part_work = ap (λ (w : Place). work_at a ids w) is
