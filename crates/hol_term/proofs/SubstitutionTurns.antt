-- What a turn does to a substitution on its way.
use Rattle.std.proofs.Common.{◌≡◌, ◌<◌, ◌≤◌, refl, sym, ap, ◌∙◌, subst, arith, List, [], ◌∷◌, length, Some, ◌⊎◌, ⊎_elim}
use Rattle.std.proofs.Math.Path.{ap₂}
use Rattle.std.proofs.lemmas.Option.{slice_get_within}
use Rattle.hol_spec.specs.Names.{Name}
use Rattle.hol_spec.specs.Terms.{Term, free, bound, constant, app, lam}
use Rattle.hol_spec.specs.Limits.{term_size}
use Rattle.hol_spec.specs.Substitution.{substitute}
use Rattle.hol_type.specs.declared.table.TypeId.{TypeId}
use Rattle.hol_type.specs.Tables as type
use Rattle.hol_type.specs.TableLaws as type_law
use Rattle.hol_term.specs.declared.TermId.{TermId}
use Rattle.hol_term.specs.declared.Variable.{Variable}
use Rattle.hol_term.specs.declared.substitution.Turn.{Turn}
use Rattle.hol_term.specs.declared.substitution.Turn.TheVariants.{Visit, Apply, Abstract}
use Rattle.hol_term.specs.Tables.{Trees, term_at, type_at, Holds, Keeps}
use Rattle.hol_term.specs.TableLaws.{term_in-Some, Some-term_in, term_in-Stays, Keeps-refl, Keeps-trans}
use Rattle.tree_map.specs.Noted.{IsNoted}
use Rattle.hol_term.specs.Substitutions.{AreKnownPairs, image_of, IsItsImage}
use Rattle.hol_term.specs.Substituting.{image_at, AreNoted, Ends, IsSubstituting, steps}
use Rattle.hol_term.specs.Walks.{NotEmpty, AreHeld}
use Rattle.hol_term.proofs.ImageLaws.{AreKnownPairs-Keeps, image_at-Keeps}
use Rattle.hol_term.proofs.WalkTurns.{AreHeld-Keeps}

module _ (a : Trees) (types : List (Name × TypeId)) (terms : List (Variable × TermId)) where
  -- a longer table comes to the same
  Ends-Keeps : (b g : Trees) → Keeps b g → (root : Term) (tasks : List Turn) (us : List Term) → Ends a types terms b root tasks us
      → Ends a types terms g root tasks us
  Ends-Keeps b g k root [] us h = h
  Ends-Keeps b g k root (Visit id ∷ rest) us h = (h.0, Ends-Keeps b g k root rest (image_at a types terms id ∷ us) h.1)
  Ends-Keeps b g k root (Apply id ∷ rest) (x ∷ f ∷ us) h = (h.0, Ends-Keeps b g k root rest (app f x ∷ us) h.1)
  Ends-Keeps b g k root (Apply id ∷ rest) (x ∷ []) h = absurd h
  Ends-Keeps b g k root (Apply id ∷ rest) [] h = absurd h
  Ends-Keeps b g k root (Abstract id ty ∷ rest) (u ∷ us) h = (h.0, k.types.stays.each ty.0 h.0 h.1, h.2, Ends-Keeps b g k root rest (lam h.0 u ∷ us) h.3)
  Ends-Keeps b g k root (Abstract id ty ∷ rest) [] h = absurd h

  -- the same lists
  pub same_substituting : (b : Trees) (root : Term) (tasks others : List Turn) (made more : List TermId) (images notes : List (TermId × TermId)) → others
      ≡ tasks → more ≡ made → notes ≡ images
      → IsSubstituting a root b types terms tasks made images → IsSubstituting a root b types terms others more notes
  same_substituting b root tasks others made more images notes e f g w =
      subst (λ l. IsSubstituting a root b types terms l more notes) (sym e)
      (subst (λ l. IsSubstituting a root b types terms tasks l notes) (sym f) (subst (IsSubstituting a root b types terms tasks made) (sym g) w))

  pub substituting_begins : (id : TermId) (images : List (TermId × TermId)) → id.0 < length a.terms → AreKnownPairs a types terms
      → ((i r : TermId) → IsNoted images i r → ⊥)
      → IsSubstituting a (image_at a types terms id) a types terms (Visit id ∷ []) [] images
  substituting_begins id images lt known none = record
      { keeps = Keeps-refl a; known = known; values = []; held = tt; ends = (lt, refl); noted = λ i r n. absurd (none i r n) }

  pub substituting_ends : (b : Trees) (root : Term) (made : List TermId) (images : List (TermId × TermId)) → IsSubstituting a root b types terms [] made images
      → NotEmpty made
  substituting_ends b root made images w = go made w.values w.held w.ends
    where
      go : (made : List TermId) (ts : List Term) → AreHeld b made ts → ts ≡ root ∷ [] → NotEmpty made
      go [] [] h e = absurd (cc)
      go [] (t ∷ ts) h e = absurd h
      go (r ∷ made) ts h e = tt

  pub substituting_gives : (b : Trees) (root : Term) (made : List TermId) (images : List (TermId × TermId)) (r : TermId)
      → IsSubstituting a root b types terms [] (r ∷ made) images → Holds b r.0 root
  substituting_gives b root made images r w = go w.values w.held w.ends
    where
      top : List Term → Term
      top [] = bound 0
      top (x ∷ xs) = x

      go : (ts : List Term) → AreHeld b (r ∷ made) ts → ts ≡ root ∷ [] → Holds b r.0 root
      go [] h e = absurd h
      go (t ∷ ts) h e = let same : t ≡ root = ap top e in h.0 ∙ ap Some same

  -- an image that is made and noted
  kept : (b g : Trees) (root : Term) (id : TermId) (tasks : List Turn) (made : List TermId) (images more : List (TermId × TermId)) (us : List Term) (r : TermId)
      (u : Term)
      → Keeps a b → Keeps b g → AreKnownPairs a types terms → AreHeld b made us → AreNoted a types terms b images → Holds g r.0 u → u
      ≡ image_at a types terms id → Ends a types terms b root tasks (u ∷ us)
      → ((i s : TermId) → IsNoted more i s → IsNoted images i s ⊎ ((i ≡ id) × (s ≡ r))) → IsSubstituting a root g types terms tasks (r ∷ made) more
  kept b g root id tasks made images more us r u k l known held noted h e ends notes = record {
    keeps = Keeps-trans k l;
    known = known;
    values = u ∷ us;
    held = (h, AreHeld-Keeps b g l made us held);
    ends = Ends-Keeps b g l root tasks (u ∷ us) ends;
    noted = λ i s n. ⊎_elim
        (λ old. l.stays.each s.0 (image_at a types terms i) (noted i s old))
        (λ new. subst (λ (w : TermId). Holds g s.0 (image_at a types terms w)) (sym new.0)
        (subst (λ (v : TermId). Holds g v.0 (image_at a types terms id)) (sym new.1) (h ∙ ap Some e)))
        (notes i s n);
  }

-- a term has a node
pub size-positive : (t : Term) → 1 ≤ term_size t
size-positive (free n t) = omega arith
size-positive (bound k) = omega arith
size-positive (constant n t) = omega arith
size-positive (app f x) = omega arith
size-positive (lam t b) = omega arith

-- A visit
module _ (a b : Trees) (root : Term) (types : List (Name × TypeId)) (terms : List (Variable × TermId)) (id : TermId) (tasks : List Turn) (made : List TermId)
    (images : List (TermId × TermId)) where
  pub visit_less : steps a tasks < steps a (Visit id ∷ tasks)
  visit_less = let l = size-positive (term_at a id.0) in omega (arith, l)

  module _ (w : IsSubstituting a root b types terms (Visit id ∷ tasks) made images) where
    same_tree : (x : TermId) → x.0 ≤ id.0 → term_at a x.0 ≡ term_at b x.0
    same_tree x l = let k = w.ends.0 in term_in-Stays w.keeps.stays x.0 (omega (arith, k, l))

    pub visit_known : id.0 < length b.terms
    visit_known = let k = w.ends.0 in let l = w.keeps.longer in omega (arith, k, l)

    pub visit_pairs : AreKnownPairs b types terms
    visit_pairs = AreKnownPairs-Keeps a b w.keeps types terms w.known

    pub found_image : (r : TermId) → ((r ≡ id) × IsItsImage b types terms id) ⊎ IsNoted images id r
        → IsSubstituting a root b types terms tasks (r ∷ made) images
    found_image r h = record
        { keeps = w.keeps; known = w.known; values = image_at a types terms id ∷ w.values; held = (own, w.held); ends = w.ends.1; noted = w.noted }
      where
        itself : IsItsImage b types terms id → Holds b id.0 (image_at a types terms id)
        itself alone = term_in-Some b.terms id.0 visit_known ∙ ap Some (sym alone ∙ sym (image_at-Keeps a b w.keeps types terms w.known id w.ends.0))

        own : Holds b r.0 (image_at a types terms id)
        own = ⊎_elim (λ alone. subst (λ (v : TermId). Holds b v.0 (image_at a types terms id)) (sym alone.0) (itself alone.1)) (λ n. w.noted id r n) h

    -- a leaf
    pub kept_image : (g : Trees) → Keeps b g → (more : List (TermId × TermId)) (r : TermId)
        → ((i s : TermId) → IsNoted more i s → IsNoted images i s ⊎ ((i ≡ id) × (s ≡ r)))
        → Holds g r.0 (image_of b types terms (term_at b id.0)) → IsSubstituting a root g types terms tasks (r ∷ made) more
    kept_image g l more r notes h =
        kept a types terms b g root id tasks made images more w.values r (image_at a types terms id) w.keeps l w.known w.held w.noted
        (h ∙ ap Some (sym (image_at-Keeps a b w.keeps types terms w.known id w.ends.0))) refl w.ends.1 notes

    -- an application
    module _ (f x : TermId) (h : Holds b id.0 (app (term_at b f.0) (term_at b x.0))) (lf : f.0 < id.0) (lx : x.0 < id.0) where
      at_application : term_at a id.0 ≡ app (term_at a f.0) (term_at a x.0)
      at_application = same_tree id (omega arith) ∙ Some-term_in b.terms id.0 _ h ∙ ap₂ app (sym (same_tree f (omega (arith, lf))))
          (sym (same_tree x (omega (arith, lx))))

      pub set_out_application : IsSubstituting a root b types terms (Visit f ∷ Visit x ∷ Apply id ∷ tasks) made images
      set_out_application =
          let lt = w.ends.0 in
          let same : app (image_at a types terms f) (image_at a types terms x) ≡ image_at a types terms id = ap (image_of a types terms) (sym at_application) in
          record {
            keeps = w.keeps;
            known = w.known;
            values = w.values;
            held = w.held;
            ends = (omega (arith, lt, lf), (omega (arith, lt, lx), (same, subst (λ t. Ends a types terms b root tasks (t ∷ w.values)) (sym same) w.ends.1)));
            noted = w.noted;
          }

      pub application_less : steps a (Visit f ∷ Visit x ∷ Apply id ∷ tasks) < steps a (Visit id ∷ tasks)
      application_less = let e = ap term_size at_application in omega (arith, e)

    -- an abstraction, once its variable's type is made
    module _ (g : Trees) (l : Keeps b g) (ty binder : TypeId) (x : TermId) (h : Holds b id.0 (lam (type_at b ty.0) (term_at b x.0))) (lx : x.0 < id.0) where
      at_abstraction : term_at a id.0 ≡ lam (type_at b ty.0) (term_at a x.0)
      at_abstraction = same_tree id (omega arith) ∙ Some-term_in b.terms id.0 _ h ∙ ap (lam (type_at b ty.0)) (sym (same_tree x (omega (arith, lx))))

      pub set_out_abstraction : binder.0 < length g.types → type_at g binder.0 ≡ substitute (type.pairs_at b.types types) (type_at b ty.0)
          → IsSubstituting a root g types terms (Visit x ∷ Abstract id binder ∷ tasks) made images
      set_out_abstraction lt e =
          let own = w.ends.0 in
          let pairs = type_law.pairs_at-Stays w.keeps.types.stays types w.known.known_types in
          let binder_is : type_at g binder.0 ≡ substitute (type.pairs_at a.types types) (type_at b ty.0) =
          e ∙ ap (λ ps. substitute ps (type_at b ty.0)) (sym pairs) in
          let same : lam (type_at g binder.0) (image_at a types terms x) ≡ image_at a types terms id =
          ap (λ t. lam t (image_at a types terms x)) binder_is ∙ ap (image_of a types terms) (sym at_abstraction) in
          record {
            keeps = Keeps-trans w.keeps l;
            known = w.known;
            values = w.values;
            held = AreHeld-Keeps b g l made w.values w.held;
            ends = (
              omega (arith, own, lx),
              (
                type_at g binder.0,
                type_law.tree_at-Holds g.types binder.0 lt,
                same,
                subst (λ t. Ends a types terms g root tasks (t ∷ w.values)) (sym same)
                    (Ends-Keeps a types terms b g l root tasks (image_at a types terms id ∷ w.values) w.ends.1),
              ),
            );
            noted = λ i s n. l.stays.each s.0 (image_at a types terms i) (w.noted i s n);
          }

      pub abstraction_less : steps a (Visit x ∷ Abstract id binder ∷ tasks) < steps a (Visit id ∷ tasks)
      abstraction_less = let e = ap term_size at_abstraction in omega (arith, e)

-- A tree that comes back
module _ (a b : Trees) (root : Term) (types : List (Name × TypeId)) (terms : List (Variable × TermId)) (id : TermId) (tasks : List Turn)
    (images : List (TermId × TermId)) where
  pub apply_two : (made : List TermId) → IsSubstituting a root b types terms (Apply id ∷ tasks) made images → NotEmpty made
  apply_two made w = go made w.values w.held w.ends
    where
      go : (made : List TermId) (us : List Term) → AreHeld b made us → Ends a types terms b root (Apply id ∷ tasks) us → NotEmpty made
      go [] [] h e = absurd e
      go [] (u ∷ us) h e = absurd h
      go (r ∷ made) us h e = tt

  pub apply_one : (x : TermId) (made : List TermId) → IsSubstituting a root b types terms (Apply id ∷ tasks) (x ∷ made) images → NotEmpty made
  apply_one x made w = go made w.values w.held w.ends
    where
      go : (made : List TermId) (us : List Term) → AreHeld b (x ∷ made) us → Ends a types terms b root (Apply id ∷ tasks) us → NotEmpty made
      go [] [] h e = absurd e
      go [] (u ∷ []) h e = absurd e
      go [] (u ∷ v ∷ us) h e = absurd h.1
      go (r ∷ made) us h e = tt

  pub apply_known : (x f : TermId) (made : List TermId) → IsSubstituting a root b types terms (Apply id ∷ tasks) (x ∷ f ∷ made) images → (f.0 < length b.terms)
      × (x.0 < length b.terms)
  apply_known x f made w = go w.values w.held
    where
      go : (us : List Term) → AreHeld b (x ∷ f ∷ made) us → (f.0 < length b.terms) × (x.0 < length b.terms)
      go [] h = absurd h
      go (u ∷ []) h = absurd h.1
      go (u ∷ v ∷ us) h = (slice_get_within b.terms f.0 v h.1.0, slice_get_within b.terms x.0 u h.0)

  pub applied_image : (g : Trees) → Keeps b g → (more : List (TermId × TermId)) (r : TermId)
      → ((i s : TermId) → IsNoted more i s → IsNoted images i s ⊎ ((i ≡ id) × (s ≡ r)))
      → (x f : TermId) (made : List TermId) → IsSubstituting a root b types terms (Apply id ∷ tasks) (x ∷ f ∷ made) images
      → Holds g r.0 (app (term_at b f.0) (term_at b x.0)) → IsSubstituting a root g types terms tasks (r ∷ made) more
  applied_image g l more r notes x f made w h = go w.values w.held w.ends
    where
      go : (us : List Term) → AreHeld b (x ∷ f ∷ made) us → Ends a types terms b root (Apply id ∷ tasks) us
          → IsSubstituting a root g types terms tasks (r ∷ made) more
      go [] held e = absurd e
      go (u ∷ []) held e = absurd e
      go (u ∷ v ∷ us) held e =
          let same : app (term_at b f.0) (term_at b x.0) ≡ app v u = ap₂ app (Some-term_in b.terms f.0 v held.1.0) (Some-term_in b.terms x.0 u held.0) in
          kept a types terms b g root id tasks made images more us r (app v u) w.keeps l w.known held.1.1 w.noted (h ∙ ap Some same) e.0 e.1 notes

module _ (a b : Trees) (root : Term) (types : List (Name × TypeId)) (terms : List (Variable × TermId)) (id : TermId) (ty : TypeId) (tasks : List Turn)
    (images : List (TermId × TermId)) where
  pub abstract_one : (made : List TermId) → IsSubstituting a root b types terms (Abstract id ty ∷ tasks) made images → NotEmpty made
  abstract_one made w = go made w.values w.held w.ends
    where
      go : (made : List TermId) (us : List Term) → AreHeld b made us → Ends a types terms b root (Abstract id ty ∷ tasks) us → NotEmpty made
      go [] [] h e = absurd e
      go [] (u ∷ us) h e = absurd h
      go (r ∷ made) us h e = tt

  pub abstract_known : (x : TermId) (made : List TermId) → IsSubstituting a root b types terms (Abstract id ty ∷ tasks) (x ∷ made) images
      → (ty.0 < length b.types) × (x.0 < length b.terms)
  abstract_known x made w = go w.values w.held w.ends
    where
      go : (us : List Term) → AreHeld b (x ∷ made) us → Ends a types terms b root (Abstract id ty ∷ tasks) us → (ty.0 < length b.types) × (x.0 < length b.terms)
      go [] h e = absurd h
      go (u ∷ us) h e = (slice_get_within b.types ty.0 e.0 e.1, slice_get_within b.terms x.0 u h.0)

  pub abstracted_image : (g : Trees) → Keeps b g → (more : List (TermId × TermId)) (r : TermId)
      → ((i s : TermId) → IsNoted more i s → IsNoted images i s ⊎ ((i ≡ id) × (s ≡ r)))
      → (x : TermId) (made : List TermId) → IsSubstituting a root b types terms (Abstract id ty ∷ tasks) (x ∷ made) images
      → Holds g r.0 (lam (type_at b ty.0) (term_at b x.0)) → IsSubstituting a root g types terms tasks (r ∷ made) more
  abstracted_image g l more r notes x made w h = go w.values w.held w.ends
    where
      go : (us : List Term) → AreHeld b (x ∷ made) us → Ends a types terms b root (Abstract id ty ∷ tasks) us
          → IsSubstituting a root g types terms tasks (r ∷ made) more
      go [] held e = absurd e
      go (u ∷ us) held e =
          let same : lam (type_at b ty.0) (term_at b x.0) ≡ lam e.0 u =
          ap₂ lam (type_law.Holds-tree_at b.types ty.0 e.0 e.1) (Some-term_in b.terms x.0 u held.0) in
          kept a types terms b g root id tasks made images more us r (lam e.0 u) w.keeps l w.known held.1 w.noted (h ∙ ap Some same) e.2 e.3 notes
