-- What a turn does to a walk that lifts, puts or closes.
use Rattle.std.proofs.Common.{◌≡◌, ℕ, suc, ◌+◌, ◌<◌, ◌≤◌, ◌^◌, refl, sym, ap, ◌∙◌, subst, arith, List, [], ◌∷◌, length, Some, ◌⊎◌, ⊎_elim}
use Rattle.std.specs.Prelude.{Result, Ok, Err, OnOk}
use Rattle.std.proofs.Math.Path.{ap₂}
use Rattle.std.proofs.lemmas.Option.{slice_get_within}
use Rattle.hol_spec.specs.Terms.{Term, free, bound, constant, app, lam}
use Rattle.hol_type.specs.declared.table.TypeId.{TypeId}
use Rattle.hol_type.specs.TableLaws as type_law
use Rattle.hol_term.specs.declared.TermId.{TermId}
use Rattle.hol_term.specs.declared.memo.Place.{Place}
use Rattle.hol_term.specs.declared.memo.Change.TheVariants.{Raise}
use Rattle.hol_term.specs.declared.walk.Task.{Task}
use Rattle.hol_term.specs.declared.walk.Task.TheVariants.{Visit, Apply, Abstract, Note}
use Rattle.hol_term.specs.declared.walk.Replacement.TheVariants.{Renamed, Argument}
use Rattle.hol_term.specs.Tables.{Trees, term_at, type_at, terms_at, AreKnown, Holds, Keeps}
use Rattle.hol_term.specs.TableLaws.{Some-term_in, term_in-Stays, Keeps-refl, Keeps-trans, AreKnown-Keeps}
use Rattle.tree_map.specs.Noted.{IsNoted}
use Rattle.hol_term.specs.Walks.{changed, wanted, CanClose, IsPlace, IsLeftAlone, IsReplaced, NotEmpty, AreHeld, IsMemo, Ends, IsWalk, turns, lifting, work}
use Rattle.hol_term.proofs.Remade.{wanted-Keeps, CanClose-Keeps, alone_wanted, changed-app, changed-lam, made_bound, argument_place, argument_closing, argument_wanted, argument_less, part_task, part_work}

pub AreHeld-Keeps : (a b : Trees) → Keeps a b → (ids : List TermId) (ts : List Term) → AreHeld a ids ts → AreHeld b ids ts
AreHeld-Keeps a b k [] [] h = tt
AreHeld-Keeps a b k (id ∷ ids) (t ∷ ts) h = (k.stays.each id.0 t h.0, AreHeld-Keeps a b k ids ts h.1)
AreHeld-Keeps a b k [] (t ∷ ts) h = absurd h
AreHeld-Keeps a b k (id ∷ ids) [] h = absurd h

-- of answers that are Ok
pub OnOk-map : {T E P Q : Type 0} (r : Result T E) → (P → Q) → OnOk r P → OnOk r Q
OnOk-map (Ok v) f p = f p
OnOk-map (Err e) f p = tt

pub OnOk-map2 : {T E P Q R : Type 0} (r : Result T E) → (P → Q → R) → OnOk r P → OnOk r Q → OnOk r R
OnOk-map2 (Ok v) f p q = f p q
OnOk-map2 (Err e) f p q = tt

-- a walk over the same lists
pub same_walk : (a b : Trees) (root : Term) (ids : List TermId) (tasks others : List Task) (made more : List TermId) (memo notes : List (Place × TermId))
    → others ≡ tasks → more ≡ made → notes ≡ memo
    → IsWalk a root b ids tasks made memo → IsWalk a root b ids others more notes
same_walk a b root ids tasks others made more memo notes e f g w =
    subst (λ l. IsWalk a root b ids l more notes) (sym e)
    (subst (λ l. IsWalk a root b ids tasks l notes) (sym f) (subst (IsWalk a root b ids tasks made) (sym g) w))

-- a longer table comes to the same
Ends-Keeps : (a : Trees) (ids : List TermId) (b g : Trees) → Keeps b g → (root : Term) (tasks : List Task) (us : List Term) → Ends a ids b root tasks us
    → Ends a ids g root tasks us
Ends-Keeps a ids b g k root [] us h = h
Ends-Keeps a ids b g k root (Visit p ∷ rest) us h = (h.0, Ends-Keeps a ids b g k root rest (wanted (terms_at a ids) a p ∷ us) h.1)
Ends-Keeps a ids b g k root (Apply p ∷ rest) (x ∷ f ∷ us) h = (h.0, Ends-Keeps a ids b g k root rest (app f x ∷ us) h.1)
Ends-Keeps a ids b g k root (Apply p ∷ rest) (x ∷ []) h = absurd h
Ends-Keeps a ids b g k root (Apply p ∷ rest) [] h = absurd h
Ends-Keeps a ids b g k root (Abstract p ty ∷ rest) (u ∷ us) h =
    (h.0, k.types.stays.each ty.0 h.0 h.1, h.2, Ends-Keeps a ids b g k root rest (lam h.0 u ∷ us) h.3)
Ends-Keeps a ids b g k root (Abstract p ty ∷ rest) [] h = absurd h
Ends-Keeps a ids b g k root (Note p ∷ rest) (t ∷ us) h = (h.0, Ends-Keeps a ids b g k root rest (t ∷ us) h.1)
Ends-Keeps a ids b g k root (Note p ∷ rest) [] h = absurd h

-- a walk at its beginning, and at its end
pub walk_begins : (a : Trees) (ids : List TermId) (p : Place) (memo : List (Place × TermId)) → IsPlace a p → AreKnown a ids → CanClose (terms_at a ids) p.change
    → ((q : Place) (r : TermId) → IsNoted memo q r → ⊥)
    → IsWalk a (wanted (terms_at a ids) a p) a ids (Visit p ∷ []) [] memo
walk_begins a ids p memo place known closing none = record {
  keeps = Keeps-refl a;
  known = known;
  terms = [];
  held = tt;
  ends = ((place, closing), refl);
  noted = λ q r n. absurd (none q r n);
}

pub walk_ends : (a b : Trees) (root : Term) (ids made : List TermId) (memo : List (Place × TermId)) → IsWalk a root b ids [] made memo → NotEmpty made
walk_ends a b root ids made memo w = go made w.terms w.held w.ends
  where
    go : (made : List TermId) (ts : List Term) → AreHeld b made ts → ts ≡ root ∷ [] → NotEmpty made
    go [] [] h e = absurd (cc)
    go [] (t ∷ ts) h e = absurd h
    go (r ∷ made) ts h e = tt

pub walk_gives : (a b : Trees) (root : Term) (ids made : List TermId) (memo : List (Place × TermId)) (r : TermId) → IsWalk a root b ids [] (r ∷ made) memo
    → Holds b r.0 root
walk_gives a b root ids made memo r w = go w.terms w.held w.ends
  where
    top : List Term → Term
    top [] = bound 0
    top (x ∷ xs) = x

    go : (ts : List Term) → AreHeld b (r ∷ made) ts → ts ≡ root ∷ [] → Holds b r.0 root
    go [] h e = absurd h
    go (t ∷ ts) h e = let same : t ≡ root = ap top e in h.0 ∙ ap Some same

-- a tree that is made and noted
kept : (a b g : Trees) (root : Term) (ids : List TermId) (p : Place) (tasks : List Task) (made : List TermId) (memo more : List (Place × TermId))
    (us : List Term) (r : TermId) (u : Term)
    → Keeps a b → Keeps b g → AreKnown a ids → AreHeld b made us → IsMemo a ids b memo → Holds g r.0 u → u ≡ wanted (terms_at a ids) a p
    → Ends a ids b root tasks (u ∷ us)
    → ((q : Place) (s : TermId) → IsNoted more q s → IsNoted memo q s ⊎ ((q ≡ p) × (s ≡ r))) → IsWalk a root g ids tasks (r ∷ made) more
kept a b g root ids p tasks made memo more us r u k l known held noted h e ends notes = record {
  keeps = Keeps-trans k l;
  known = known;
  terms = u ∷ us;
  held = (h, AreHeld-Keeps b g l made us held);
  ends = Ends-Keeps a ids b g l root tasks (u ∷ us) ends;
  noted = λ q s n. ⊎_elim
      (λ old. l.stays.each s.0 (wanted (terms_at a ids) a q) (noted q s old))
      (λ new. subst (λ (w : Place). Holds g s.0 (wanted (terms_at a ids) a w)) (sym new.0)
      (subst (λ (v : TermId). Holds g v.0 (wanted (terms_at a ids) a p)) (sym new.1) (h ∙ ap Some e)))
      (notes q s n);
}

turns-positive : (more : ℕ) (t : Term) → 1 ≤ turns more t
turns-positive more (free n t) = omega arith
turns-positive more (bound k) = omega arith
turns-positive more (constant n t) = omega arith
turns-positive more (app f x) = omega arith
turns-positive more (lam t b) = omega arith

-- A visit
module _ (a b : Trees) (root : Term) (ids : List TermId) (p : Place) (tasks : List Task) (made : List TermId) (memo : List (Place × TermId)) where
  pub visit_less : work a ids tasks < work a ids (Visit p ∷ tasks)
  visit_less = let l = turns-positive (lifting (terms_at a ids) p.change) (term_at a p.id.0) in omega (arith, l)

  module _ (w : IsWalk a root b ids (Visit p ∷ tasks) made memo) where
    -- the same tree is at the place
    pub same_tree : (x : TermId) → x.0 ≤ p.id.0 → term_at a x.0 ≡ term_at b x.0
    same_tree x l = let k = w.ends.0.0.0 in term_in-Stays w.keeps.stays x.0 (omega (arith, k, l))

    pub visit_known : p.id.0 < length b.terms
    visit_known = let k = w.ends.0.0.0 in let l = w.keeps.longer in omega (arith, k, l)

    pub visit_place : IsPlace b p
    visit_place = (visit_known, w.ends.0.0.1)

    pub visit_arguments : AreKnown b ids
    visit_arguments = AreKnown-Keeps w.keeps ids w.known

    pub visit_closing : CanClose (terms_at b ids) p.change
    visit_closing = CanClose-Keeps a b w.keeps ids w.known p.change w.ends.0.1

    pub walk_found : (r : TermId) → ((r ≡ p.id) × IsLeftAlone (terms_at b ids) b p) ⊎ IsNoted memo p r → IsWalk a root b ids tasks (r ∷ made) memo
    walk_found r h = record
        { keeps = w.keeps; known = w.known; terms = wanted (terms_at a ids) a p ∷ w.terms; held = (own, w.held); ends = w.ends.1; noted = w.noted }
      where
        own : Holds b r.0 (wanted (terms_at a ids) a p)
        own = ⊎_elim
            (λ alone. subst (λ (v : TermId). Holds b v.0 (wanted (terms_at a ids) a p)) (sym alone.0)
            (alone_wanted b ids p visit_known alone.1 ∙ ap Some (sym (wanted-Keeps a b w.keeps ids w.known p w.ends.0.0.0))))
            (λ n. w.noted p r n)
            h

    module _ (g : Trees) (l : Keeps b g) (more : List (Place × TermId)) (r : TermId)
        (notes : (q : Place) (s : TermId) → IsNoted more q s → IsNoted memo q s ⊎ ((q ≡ p) × (s ≡ r))) where
      pub walk_leaf : Holds g r.0 (wanted (terms_at b ids) b p) → IsWalk a root g ids tasks (r ∷ made) more
      walk_leaf h =
          kept a b g root ids p tasks made memo more w.terms r (wanted (terms_at a ids) a p) w.keeps l w.known w.held w.noted
          (h ∙ ap Some (sym (wanted-Keeps a b w.keeps ids w.known p w.ends.0.0.0))) refl w.ends.1 notes

      pub walk_bound : (n k : ℕ) → term_at b p.id.0 ≡ bound n → IsReplaced ids p n (Renamed k) → Holds g r.0 (bound k)
          → IsWalk a root g ids tasks (r ∷ made) more
      walk_bound n k e is h =
          kept a b g root ids p tasks made memo more w.terms r (wanted (terms_at a ids) a p) w.keeps l w.known w.held w.noted
          (made_bound a g ids p n k r (same_tree p.id (omega arith) ∙ e) is h) refl w.ends.1 notes

    -- an argument that is lifted
    module _ (place : Place) (n : ℕ) (id : TermId) (is : place ≡ record { id = id; depth = 0; change = Raise p.depth }) (r : IsReplaced ids p n (Argument id))
        (e : term_at b p.id.0 ≡ bound n) where
      at_number : term_at a p.id.0 ≡ bound n
      at_number = same_tree p.id (omega arith) ∙ e

      pub walk_argument : length b.terms < 2 ^ 63 → IsWalk a root b ids (Visit place ∷ Note p ∷ tasks) made memo
      walk_argument small =
          let longer = w.keeps.longer in
          let same = argument_wanted a ids p place n id r is at_number in
          record {
            keeps = w.keeps;
            known = w.known;
            terms = w.terms;
            held = w.held;
            ends = (
              (argument_place a ids p place n id r is (omega (arith, small, longer)) w.known, argument_closing a ids p place n id r is (terms_at a ids)),
              (same, subst (λ t. Ends a ids b root tasks (t ∷ w.terms)) (sym same) w.ends.1),
            );
            noted = w.noted;
          }

      pub argument_work : work a ids (Visit place ∷ Note p ∷ tasks) < work a ids (Visit p ∷ tasks)
      argument_work = let l = argument_less a ids p place n id r is at_number in omega (arith, l)

    -- an application
    module _ (one two : Place) (f x : TermId) (one_is : one ≡ record p { id = f; depth = p.depth }) (two_is : two ≡ record p { id = x; depth = p.depth })
        (e : term_at b p.id.0 ≡ app (term_at b f.0) (term_at b x.0)) (lf : f.0 < p.id.0) (lx : x.0 < p.id.0) where
      at_application : term_at a p.id.0 ≡ app (term_at a f.0) (term_at a x.0)
      at_application = same_tree p.id (omega arith) ∙ e ∙ ap₂ app (sym (same_tree f (omega (arith, lf)))) (sym (same_tree x (omega (arith, lx))))

      pub walk_application : IsWalk a root b ids (Visit one ∷ Visit two ∷ Apply p ∷ tasks) made memo
      walk_application =
          let args = terms_at a ids in
          let same : app (wanted args a one) (wanted args a two) ≡ wanted args a p =
          ap₂ (λ v u. app (wanted args a v) (wanted args a u)) one_is two_is ∙ changed-app args p.change p.depth (term_at a f.0) (term_at a x.0)
          ∙ ap (changed args p.change p.depth) (sym at_application) in
          record {
            keeps = w.keeps;
            known = w.known;
            terms = w.terms;
            held = w.held;
            ends = (
              part_task a ids p one f p.depth one_is lf (omega arith) w.ends.0,
              (
                part_task a ids p two x p.depth two_is lx (omega arith) w.ends.0,
                (same, subst (λ t. Ends a ids b root tasks (t ∷ w.terms)) (sym same) w.ends.1),
              ),
            );
            noted = w.noted;
          }

      pub application_work : work a ids (Visit one ∷ Visit two ∷ Apply p ∷ tasks) < work a ids (Visit p ∷ tasks)
      application_work =
          let first = part_work a ids p one f p.depth one_is lf in
          let second = part_work a ids p two x p.depth two_is lx in
          let own = ap (turns (lifting (terms_at a ids) p.change)) at_application in
          omega (arith, first, second, own)

    -- an abstraction
    module _ (inner : Place) (ty : TypeId) (x : TermId) (is : inner ≡ record p { id = x; depth = p.depth + 1 })
        (e : term_at b p.id.0 ≡ lam (type_at b ty.0) (term_at b x.0)) (lx : x.0 < p.id.0) (lt : ty.0 < length b.types) where
      at_abstraction : term_at a p.id.0 ≡ lam (type_at b ty.0) (term_at a x.0)
      at_abstraction = same_tree p.id (omega arith) ∙ e ∙ ap (lam (type_at b ty.0)) (sym (same_tree x (omega (arith, lx))))

      pub walk_abstraction : IsWalk a root b ids (Visit inner ∷ Abstract p ty ∷ tasks) made memo
      walk_abstraction =
          let args = terms_at a ids in
          let next : p.depth + 1 ≡ suc p.depth = omega arith in
          let same : lam (type_at b ty.0) (wanted args a inner) ≡ wanted args a p =
          ap (λ v. lam (type_at b ty.0) (wanted args a v)) is ∙ ap (λ d. lam (type_at b ty.0) (changed args p.change d (term_at a x.0))) next
          ∙ changed-lam args p.change p.depth (type_at b ty.0) (term_at a x.0) ∙ ap (changed args p.change p.depth) (sym at_abstraction) in
          record {
            keeps = w.keeps;
            known = w.known;
            terms = w.terms;
            held = w.held;
            ends = (
              part_task a ids p inner x (p.depth + 1) is lx (omega arith) w.ends.0,
              (type_at b ty.0, type_law.tree_at-Holds b.types ty.0 lt, same, subst (λ t. Ends a ids b root tasks (t ∷ w.terms)) (sym same) w.ends.1),
            );
            noted = w.noted;
          }

      pub abstraction_work : work a ids (Visit inner ∷ Abstract p ty ∷ tasks) < work a ids (Visit p ∷ tasks)
      abstraction_work =
          let first = part_work a ids p inner x (p.depth + 1) is lx in
          let own = ap (turns (lifting (terms_at a ids) p.change)) at_abstraction in
          omega (arith, first, own)

-- A tree that comes back
module _ (a b : Trees) (root : Term) (ids : List TermId) (p : Place) (tasks : List Task) (memo : List (Place × TermId)) where
  -- what is taken up is there, and holds a tree
  pub apply_two : (made : List TermId) → IsWalk a root b ids (Apply p ∷ tasks) made memo → NotEmpty made
  apply_two made w = go made w.terms w.held w.ends
    where
      go : (made : List TermId) (us : List Term) → AreHeld b made us → Ends a ids b root (Apply p ∷ tasks) us → NotEmpty made
      go [] [] h e = absurd e
      go [] (u ∷ us) h e = absurd h
      go (r ∷ made) us h e = tt

  pub apply_one : (x : TermId) (made : List TermId) → IsWalk a root b ids (Apply p ∷ tasks) (x ∷ made) memo → NotEmpty made
  apply_one x made w = go made w.terms w.held w.ends
    where
      go : (made : List TermId) (us : List Term) → AreHeld b (x ∷ made) us → Ends a ids b root (Apply p ∷ tasks) us → NotEmpty made
      go [] [] h e = absurd e
      go [] (u ∷ []) h e = absurd e
      go [] (u ∷ v ∷ us) h e = absurd h.1
      go (r ∷ made) us h e = tt

  held_known : (r : TermId) (u : Term) → Holds b r.0 u → r.0 < length b.terms
  held_known r u h = slice_get_within b.terms r.0 u h

  pub apply_known : (x f : TermId) (made : List TermId) → IsWalk a root b ids (Apply p ∷ tasks) (x ∷ f ∷ made) memo → (f.0 < length b.terms)
      × (x.0 < length b.terms)
  apply_known x f made w = go w.terms w.held
    where
      go : (us : List Term) → AreHeld b (x ∷ f ∷ made) us → (f.0 < length b.terms) × (x.0 < length b.terms)
      go [] h = absurd h
      go (u ∷ []) h = absurd h.1
      go (u ∷ v ∷ us) h = (held_known f v h.1.0, held_known x u h.0)

  module _ (g : Trees) (l : Keeps b g) (more : List (Place × TermId)) (r : TermId)
      (notes : (q : Place) (s : TermId) → IsNoted more q s → IsNoted memo q s ⊎ ((q ≡ p) × (s ≡ r))) where
    pub walk_apply : (x f : TermId) (made : List TermId) → IsWalk a root b ids (Apply p ∷ tasks) (x ∷ f ∷ made) memo
        → Holds g r.0 (app (term_at b f.0) (term_at b x.0)) → IsWalk a root g ids tasks (r ∷ made) more
    walk_apply x f made w h = go w.terms w.held w.ends
      where
        go : (us : List Term) → AreHeld b (x ∷ f ∷ made) us → Ends a ids b root (Apply p ∷ tasks) us → IsWalk a root g ids tasks (r ∷ made) more
        go [] held e = absurd e
        go (u ∷ []) held e = absurd e
        go (u ∷ v ∷ us) held e =
            let same : app (term_at b f.0) (term_at b x.0) ≡ app v u = ap₂ app (Some-term_in b.terms f.0 v held.1.0) (Some-term_in b.terms x.0 u held.0) in
            kept a b g root ids p tasks made memo more us r (app v u) w.keeps l w.known held.1.1 w.noted (h ∙ ap Some same) e.0 e.1 notes

module _ (a b : Trees) (root : Term) (ids : List TermId) (p : Place) (ty : TypeId) (tasks : List Task) (memo : List (Place × TermId)) where
  pub abstract_one : (made : List TermId) → IsWalk a root b ids (Abstract p ty ∷ tasks) made memo → NotEmpty made
  abstract_one made w = go made w.terms w.held w.ends
    where
      go : (made : List TermId) (us : List Term) → AreHeld b made us → Ends a ids b root (Abstract p ty ∷ tasks) us → NotEmpty made
      go [] [] h e = absurd e
      go [] (u ∷ us) h e = absurd h
      go (r ∷ made) us h e = tt

  pub abstract_known : (x : TermId) (made : List TermId) → IsWalk a root b ids (Abstract p ty ∷ tasks) (x ∷ made) memo → (ty.0 < length b.types)
      × (x.0 < length b.terms)
  abstract_known x made w = go w.terms w.held w.ends
    where
      go : (us : List Term) → AreHeld b (x ∷ made) us → Ends a ids b root (Abstract p ty ∷ tasks) us → (ty.0 < length b.types) × (x.0 < length b.terms)
      go [] h e = absurd h
      go (u ∷ us) h e = (slice_get_within b.types ty.0 e.0 e.1, slice_get_within b.terms x.0 u h.0)

  module _ (g : Trees) (l : Keeps b g) (more : List (Place × TermId)) (r : TermId)
      (notes : (q : Place) (s : TermId) → IsNoted more q s → IsNoted memo q s ⊎ ((q ≡ p) × (s ≡ r))) where
    pub walk_abstract : (x : TermId) (made : List TermId) → IsWalk a root b ids (Abstract p ty ∷ tasks) (x ∷ made) memo
        → Holds g r.0 (lam (type_at b ty.0) (term_at b x.0)) → IsWalk a root g ids tasks (r ∷ made) more
    walk_abstract x made w h = go w.terms w.held w.ends
      where
        go : (us : List Term) → AreHeld b (x ∷ made) us → Ends a ids b root (Abstract p ty ∷ tasks) us → IsWalk a root g ids tasks (r ∷ made) more
        go [] held e = absurd e
        go (u ∷ us) held e =
            let same : lam (type_at b ty.0) (term_at b x.0) ≡ lam e.0 u =
            ap₂ lam (type_law.Holds-tree_at b.types ty.0 e.0 e.1) (Some-term_in b.terms x.0 u held.0) in
            kept a b g root ids p tasks made memo more us r (lam e.0 u) w.keeps l w.known held.1 w.noted (h ∙ ap Some same) e.2 e.3 notes

module _ (a b : Trees) (root : Term) (ids : List TermId) (p : Place) (tasks : List Task) (memo : List (Place × TermId)) where
  pub note_one : (made : List TermId) → IsWalk a root b ids (Note p ∷ tasks) made memo → NotEmpty made
  note_one made w = go made w.terms w.held w.ends
    where
      go : (made : List TermId) (us : List Term) → AreHeld b made us → Ends a ids b root (Note p ∷ tasks) us → NotEmpty made
      go [] [] h e = absurd e
      go [] (u ∷ us) h e = absurd h
      go (r ∷ made) us h e = tt

  pub walk_note : (r : TermId) (made : List TermId) (more : List (Place × TermId))
      → ((q : Place) (s : TermId) → IsNoted more q s → IsNoted memo q s ⊎ ((q ≡ p) × (s ≡ r))) → IsWalk a root b ids (Note p ∷ tasks) (r ∷ made) memo
      → IsWalk a root b ids tasks (r ∷ made) more
  walk_note r made more notes w = go w.terms w.held w.ends
    where
      go : (us : List Term) → AreHeld b (r ∷ made) us → Ends a ids b root (Note p ∷ tasks) us → IsWalk a root b ids tasks (r ∷ made) more
      go [] held e = absurd e
      go (u ∷ us) held e = kept a b b root ids p tasks made memo more us r u w.keeps (Keeps-refl b) w.known held.1 w.noted held.0 e.0 e.1 notes
