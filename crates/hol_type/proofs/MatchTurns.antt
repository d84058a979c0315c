-- What a turn does to a matching.
use Rattle.std.proofs.Common.{◌≡◌, ℕ, zero, suc, ◌+◌, ◌<◌, ◌≤◌, refl, sym, ap, ◌∙◌, subst, arith, List, [], ◌∷◌, ◌++◌, length, Option, Some, None, Bool, true, false, not, ◌⊎◌, ⊎_elim, inl, inr}
use Rattle.std.specs.Prelude.{slice_get, if◌then◌else◌, unwrap_or}
use Rattle.std.specs.Map.{lookup}
use Rattle.std.proofs.Math.Path.{ap₂}
use Rattle.std.proofs.lemmas.Option.{same_Some}
use Rattle.hol_spec.specs.Names.{Name}
use Rattle.hol_spec.specs.NameEquality.{name_eq}
use Rattle.hol_laws.specs.NameEqualityLaws.{name_eq-Decides}
use Rattle.hol_laws.specs.TypeLaws.{type_size-positive}
use Rattle.hol_spec.specs.Types.{HolType, variable, operator, more, types_of}
use Rattle.hol_spec.specs.Limits.{type_size, types_size}
use Rattle.hol_spec.specs.Substitution.{TypePairs, substitute, substitute_all}
use Rattle.hol_type.specs.declared.table.TypeId.{TypeId}
use Rattle.hol_type.specs.Tables.{tree_at, types_at, pairs_at, ArePairsKnown, Holds, IsDistinct}
use Rattle.hol_type.specs.TableLaws.{tree_at-same, Holds-tree_at}
use Rattle.hol_type.specs.Views.{AreBelow}
use Rattle.hol_type.specs.Walks.{IsNoted}
use Rattle.hol_type.specs.Matchings.{Meets, with_pairs, ArePaired, IsFound, IsOpened, IsMatching, GoesOn, total}
use Rattle.hol_type.proofs.NotedLaws.{IsNoted-cons, IsNoted-behind}

-- what is so of each part and its image
abbrev AllPairs : (TypeId → TypeId → Type 0) → List TypeId → List TypeId → Type 0
AllPairs P [] images = Unit {0}
AllPairs P (p ∷ parts) [] = Unit {0}
AllPairs P (p ∷ parts) (i ∷ images) = P p i × AllPairs P parts images

-- of tasks with pairs more it is so of all, where it is so of those before and of the pairs
with_pairs-all : (P : TypeId → TypeId → Type 0) (parts images : List TypeId) (tasks : List (TypeId × TypeId)) → AllPairs P parts images
    → ((p i : TypeId) → IsNoted tasks p i → P p i) → (p i : TypeId) → IsNoted (with_pairs parts images tasks) p i → P p i
with_pairs-all P [] images tasks a t p i n = t p i n
with_pairs-all P (q ∷ parts) [] tasks a t p i n = t p i n
with_pairs-all P (q ∷ parts) (j ∷ images) tasks a t p i n =
    with_pairs-all P parts images ((q, j) ∷ tasks) a.1
    (λ x y m. ⊎_elim (λ e. subst (λ z. P z y) e.0 (subst (P q) e.1 a.0)) (λ o. t x y o) (IsNoted-cons (q, j) tasks x y m)) p i n

-- the tasks before are among them
with_pairs-old : (parts images : List TypeId) (tasks : List (TypeId × TypeId)) (p i : TypeId) → IsNoted tasks p i → IsNoted (with_pairs parts images tasks) p i
with_pairs-old [] images tasks p i n = n
with_pairs-old (q ∷ parts) [] tasks p i n = n
with_pairs-old (q ∷ parts) (j ∷ images) tasks p i n = with_pairs-old parts images ((q, j) ∷ tasks) p i (IsNoted-behind (q, j) tasks p i n)

-- and so are the pairs
with_pairs-new : (met : List (TypeId × TypeId)) (parts images : List TypeId) (tasks : List (TypeId × TypeId)) → length parts ≡ length images
    → ArePaired (with_pairs parts images tasks) met parts images
with_pairs-new met [] [] tasks e = tt
with_pairs-new met (q ∷ parts) (j ∷ images) tasks e =
    (inr (with_pairs-old parts images ((q, j) ∷ tasks) q j (0, refl)), with_pairs-new met parts images ((q, j) ∷ tasks) (omega (arith, e)))
with_pairs-new met [] (j ∷ images) tasks e = absurd (omega (arith, e))
with_pairs-new met (q ∷ parts) [] tasks e = absurd (omega (arith, e))

-- pairs stay paired where each of them does
ArePaired-more : (tasks met others noted : List (TypeId × TypeId)) (parts images : List TypeId)
    → ((p i : TypeId) → IsNoted met p i ⊎ IsNoted tasks p i → IsNoted noted p i ⊎ IsNoted others p i) → ArePaired tasks met parts images
    → ArePaired others noted parts images
ArePaired-more tasks met others noted [] [] f h = tt
ArePaired-more tasks met others noted (p ∷ parts) (i ∷ images) f h = (f p i h.0, ArePaired-more tasks met others noted parts images f h.1)
ArePaired-more tasks met others noted [] (i ∷ images) f h = absurd h
ArePaired-more tasks met others noted (p ∷ parts) [] f h = absurd h

opened-more : (ts : List HolType) (tasks met others noted : List (TypeId × TypeId)) (p i : TypeId)
    → ((p i : TypeId) → IsNoted met p i ⊎ IsNoted tasks p i → IsNoted noted p i ⊎ IsNoted others p i) → IsOpened ts tasks met p i → IsOpened ts others noted p i
opened-more ts tasks met others noted p i f o = record {
  name = o.name;
  parts = o.parts;
  images = o.images;
  is = o.is;
  becomes = o.becomes;
  lower = o.lower;
  paired =
      ArePaired-more tasks met others noted o.parts o.images f o.paired;
}

-- a matching at its beginning
pub matching_begins : (ts : List HolType) (general instance : TypeId) (met : List (TypeId × TypeId)) → IsDistinct ts → general.0 < length ts
    → instance.0 < length ts → ((p i : TypeId) → IsNoted met p i → ⊥) → IsMatching general instance ts ((general, instance) ∷ []) [] met
matching_begins ts general instance met d g h empty = record {
  distinct = d;
  known = λ p i. ⊎_elim (λ m. absurd (empty p i m)) (λ n. one p i (λ x y. (x.0 < length ts) × (y.0 < length ts)) (g, h) n);
  found_known = tt;
  needs = λ s e p i. ⊎_elim (λ m. absurd (empty p i m)) (λ n. one p i (Meets s ts) e n);
  closed = λ p i m. absurd (empty p i m);
  sources = λ n i e. absurd (cc);
  root = inr (0, refl);
}
  where
    nothing : (p i : TypeId) (k : ℕ) → slice_get {X = TypeId × TypeId} [] k ≡ Some (p, i) → ⊥
    nothing p i k e = cc

    one : (p i : TypeId) (P : TypeId → TypeId → Type 0) → P general instance → IsNoted ((general, instance) ∷ []) p i → P p i
    one p i P h n = ⊎_elim (λ e. subst (λ z. P z i) e.0 (subst (P general) e.1 h)) (λ o. absurd (nothing p i o.0 o.1))
        (IsNoted-cons (general, instance) [] p i n)

module _ (ts : List HolType) (part img : TypeId) (tasks : List (TypeId × TypeId)) (found : List (Name × TypeId)) (met : List (TypeId × TypeId)) where
  -- a task is one before it or this one
  task_or : (p i : TypeId) → IsNoted met p i ⊎ IsNoted ((part, img) ∷ tasks) p i → IsNoted met p i ⊎ ((part ≡ p) × (img ≡ i)) ⊎ IsNoted tasks p i
  task_or p i (inl m) = inl m
  task_or p i (inr n) = ⊎_elim (λ e. inr (inl e)) (λ o. inr (inr o)) (IsNoted-cons (part, img) tasks p i n)

  -- a part that was met with this image
  again : IsNoted met part img → (general instance : TypeId) → IsMatching general instance ts ((part, img) ∷ tasks) found met
      → IsMatching general instance ts tasks found met
  again m general instance w = record {
    distinct = w.distinct;
    known = λ p i. ⊎_elim (λ a. w.known p i (inl a)) (λ b. w.known p i (inr (IsNoted-behind (part, img) tasks p i b)));
    found_known = w.found_known;
    needs = λ s e p i. ⊎_elim (λ a. w.needs s e p i (inl a)) (λ b. w.needs s e p i (inr (IsNoted-behind (part, img) tasks p i b)));
    closed = λ p i n. ⊎_elim (λ a. inl a) (λ b. inr (opened-more ts ((part, img) ∷ tasks) met tasks met p i drop b)) (w.closed p i n);
    sources = w.sources;
    root = drop general instance w.root;
  }
    where
      drop : (p i : TypeId) → IsNoted met p i ⊎ IsNoted ((part, img) ∷ tasks) p i → IsNoted met p i ⊎ IsNoted tasks p i
      drop p i h = ⊎_elim (λ a. inl a) (λ b. ⊎_elim (λ e. inl (subst (λ z. IsNoted met z i) e.0 (subst (IsNoted met part) e.1 m))) (λ o. inr o) b)
          (task_or p i h)

  -- no substitution gives a part two images
  other : (r : TypeId) → IsNoted met part r → (r ≡ img → ⊥) → (general instance : TypeId) → IsMatching general instance ts ((part, img) ∷ tasks) found met
      → (s : TypePairs) → Meets s ts general instance → ⊥
  other r m differs general instance w s e =
      differs (tree_at-same w.distinct r img (w.known part r (inl m)).1 (w.known part img (inr (0, refl))).1
      (sym (w.needs s e part r (inl m)) ∙ w.needs s e part img (inr (0, refl))))

  pub meets_again : (r : TypeId) (b : Bool) → IsNoted met part r → (b ≡ true → r ≡ img) → (b ≡ false → r ≡ img → ⊥) → (general instance : TypeId)
      → IsMatching general instance ts ((part, img) ∷ tasks) found met → GoesOn b general instance ts tasks found met
  meets_again r true m same apart general instance w = again (subst (IsNoted met part) (same refl) m) general instance w
  meets_again r false m same apart general instance w = other r m (apart refl) general instance w

  -- a part that can't become its image
  pub never : ((s : TypePairs) → Meets s ts part img → ⊥) → (general instance : TypeId) → IsMatching general instance ts ((part, img) ∷ tasks) found met
      → (s : TypePairs) → Meets s ts general instance → ⊥
  never h general instance w s e = h s (w.needs s e part img (inr (0, refl)))

  module _ (noted : List (TypeId × TypeId)) (absent : (r : TypeId) → IsNoted met part r → ⊥)
      (only : (p i : TypeId) → IsNoted noted p i → IsNoted met p i ⊎ ((p ≡ part) × (i ≡ img))) (new : IsNoted noted part img)
      (kept : (p i : TypeId) → IsNoted met p i → (p ≡ part) ⊎ IsNoted noted p i) where
    -- what was met stays met
    stays : (p i : TypeId) → IsNoted met p i → IsNoted noted p i
    stays p i m = ⊎_elim (λ e. absurd (absent i (subst (λ z. IsNoted met z i) e m))) (λ n. n) (kept p i m)

    -- what is so of what was met and of this pair is so of what is met now
    all_noted : (P : TypeId → TypeId → Type 0) → ((p i : TypeId) → IsNoted met p i → P p i) → P part img → (p i : TypeId) → IsNoted noted p i → P p i
    all_noted P f h p i n = ⊎_elim (λ a. f p i a) (λ e. subst (λ z. P z i) (sym e.0) (subst (P part) (sym e.1) h)) (only p i n)

    -- what was met or a task is met or a task of longer ones
    goes : (others : List (TypeId × TypeId)) → ((p i : TypeId) → IsNoted tasks p i → IsNoted others p i) → (p i : TypeId) → IsNoted met p i
        ⊎ IsNoted ((part, img) ∷ tasks) p i → IsNoted noted p i ⊎ IsNoted others p i
    goes others old p i h = ⊎_elim (λ a. inl (stays p i a))
        (λ b. ⊎_elim (λ e. inl (subst (λ z. IsNoted noted z i) e.0 (subst (IsNoted noted part) e.1 new))) (λ o. inr (old p i o)) b) (task_or p i h)

    -- a variable
    module _ (n : Name) (h : Holds ts part.0 (variable n)) where
      same_id : (i : TypeId) → i.0 ≡ part.0 → i ≡ part
      same_id i e = λ k. record { 0 = e k }

      not_found : (general instance : TypeId) → IsMatching general instance ts ((part, img) ∷ tasks) found met → (o : Option TypeId) → lookup (name_eq n) found
          ≡ o → lookup (name_eq n) found ≡ None
      not_found general instance w None e = e
      not_found general instance w (Some j) e = let q =
          w.sources n j e in absurd (absent j (subst (λ i. IsNoted met i j) (same_id q.0 (w.distinct.each q.0.0 part.0 (variable n) q.1 h)) q.2))

      lookup-old : (m : Name) (fs : List (Name × TypeId)) (i : TypeId) → lookup (name_eq m) fs ≡ Some i → lookup (name_eq m) (fs ++ (n, img) ∷ []) ≡ Some i
      lookup-old m [] i e = absurd (cc)
      lookup-old m (f ∷ fs) i e = go (λ k. lookup-old m fs i k) (name_eq m f.0) e
        where
          go : (lookup (name_eq m) fs ≡ Some i → lookup (name_eq m) (fs ++ (n, img) ∷ []) ≡ Some i) → (b : Bool)
              → (if b then Some f.1 else lookup (name_eq m) fs) ≡ Some i → (if b then Some f.1 else lookup (name_eq m) (fs ++ (n, img) ∷ [])) ≡ Some i
          go on true k = k
          go on false k = on k

      lookup-new : (fs : List (Name × TypeId)) → lookup (name_eq n) fs ≡ None → lookup (name_eq n) (fs ++ (n, img) ∷ []) ≡ Some img
      lookup-new [] e = rw ((name_eq-Decides n n).1 refl) refl
      lookup-new (f ∷ fs) e = go (λ k. lookup-new fs k) (name_eq n f.0) e
        where
          go : (lookup (name_eq n) fs ≡ None → lookup (name_eq n) (fs ++ (n, img) ∷ []) ≡ Some img) → (b : Bool)
              → (if b then Some f.1 else lookup (name_eq n) fs) ≡ None → (if b then Some f.1 else lookup (name_eq n) (fs ++ (n, img) ∷ [])) ≡ Some img
          go on true k = absurd (cc)
          go on false k = on k

      lookup-either : (m : Name) (fs : List (Name × TypeId)) (i : TypeId) → lookup (name_eq m) (fs ++ (n, img) ∷ []) ≡ Some i → (lookup (name_eq m) fs ≡ Some i)
          ⊎ ((m ≡ n) × (img ≡ i))
      lookup-either m [] i e = go (name_eq m n) refl e
        where
          go : (b : Bool) → name_eq m n ≡ b → (if b then Some img else None) ≡ Some i → (lookup (name_eq m) [] ≡ Some i) ⊎ ((m ≡ n) × (img ≡ i))
          go true q k = inr ((name_eq-Decides m n).0 q, same_Some _ _ k)
          go false q k = absurd (cc)
      lookup-either m (f ∷ fs) i e = go (λ k. lookup-either m fs i k) (name_eq m f.0) e
        where
          go : (lookup (name_eq m) (fs ++ (n, img) ∷ []) ≡ Some i → (lookup (name_eq m) fs ≡ Some i) ⊎ ((m ≡ n) × (img ≡ i))) → (b : Bool)
              → (if b then Some f.1 else lookup (name_eq m) (fs ++ (n, img) ∷ [])) ≡ Some i → ((if b then Some f.1 else lookup (name_eq m) fs) ≡ Some i)
              ⊎ ((m ≡ n) × (img ≡ i))
          go on true k = inl k
          go on false k = on k

      known-push : (fs : List (Name × TypeId)) → img.0 < length ts → ArePairsKnown ts fs → ArePairsKnown ts (fs ++ (n, img) ∷ [])
      known-push [] k h = (k, tt)
      known-push (f ∷ fs) k h = (h.0, known-push fs k h.1)

      pub meets_variable : (general instance : TypeId) → IsMatching general instance ts ((part, img) ∷ tasks) found met
          → IsMatching general instance ts tasks (found ++ (n, img) ∷ []) noted
      meets_variable general instance w = record {
        distinct = w.distinct;
        known = λ p i. ⊎_elim (all_noted (λ x y. (x.0 < length ts) × (y.0 < length ts)) (λ x y m. w.known x y (inl m)) (w.known part img (inr (0, refl))) p i)
            (λ b. w.known p i (inr (IsNoted-behind (part, img) tasks p i b)));
        found_known = known-push found (w.known part img (inr (0, refl))).1 w.found_known;
        needs = λ s e p i. ⊎_elim (all_noted (Meets s ts) (λ x y m. w.needs s e x y (inl m)) (w.needs s e part img (inr (0, refl))) p i)
            (λ b. w.needs s e p i (inr (IsNoted-behind (part, img) tasks p i b)));
        closed = all_noted (λ p i. IsFound ts (found ++ (n, img) ∷ []) p i ⊎ IsOpened ts tasks noted p i)
            (λ p i m. ⊎_elim (λ a. inl (record { name = a.name; is = a.is; at = lookup-old a.name found i a.at }))
            (λ b. inr (opened-more ts ((part, img) ∷ tasks) met tasks noted p i (goes tasks (λ x y t. t)) b)) (w.closed p i m))
            (inl (record { name = n; is = h; at = lookup-new found (not_found general instance w (lookup (name_eq n) found) refl) }));
        sources = λ m i e. ⊎_elim
            (λ a. let q = w.sources m i a in (q.0, q.1, stays q.0 i q.2))
            (λ b. (part, subst (λ k. Holds ts part.0 (variable k)) (sym b.0) h, subst (IsNoted noted part) b.1 new))
            (lookup-either m found i e);
        root = goes tasks (λ x y t. t) general instance w.root;
      }

    -- an operator
    module _ (n : Name) (parts images : List TypeId) (h : Holds ts part.0 (operator n (types_of (types_at ts parts))))
        (k : Holds ts img.0 (operator n (types_of (types_at ts images)))) (low : AreBelow part.0 parts) (low_images : AreBelow img.0 images)
        (len : length parts ≡ length images) where
      pub meets_operator : (general instance : TypeId) → IsMatching general instance ts ((part, img) ∷ tasks) found met
          → IsMatching general instance ts (with_pairs parts images tasks) found noted
      meets_operator general instance w = record {
        distinct = w.distinct;
        known = λ p i. ⊎_elim
            (all_noted (λ x y. (x.0 < length ts) × (y.0 < length ts)) (λ x y m. w.known x y (inl m)) (w.known part img (inr (0, refl))) p i)
            (with_pairs-all (λ x y. (x.0 < length ts) × (y.0 < length ts)) parts images tasks
            (both_below parts images (omega (arith, (w.known part img (inr (0, refl))).0)) (omega (arith, (w.known part img (inr (0, refl))).1)) low
            low_images) (λ x y b. w.known x y (inr (IsNoted-behind (part, img) tasks x y b))) p i);
        found_known = w.found_known;
        needs = λ s e p i. ⊎_elim
            (all_noted (Meets s ts) (λ x y m. w.needs s e x y (inl m)) (w.needs s e part img (inr (0, refl))) p i)
            (with_pairs-all (Meets s ts) parts images tasks (all_meet s parts images (arguments s (w.needs s e part img (inr (0, refl)))))
            (λ x y b. w.needs s e x y (inr (IsNoted-behind (part, img) tasks x y b))) p i);
        closed = all_noted (λ p i. IsFound ts found p i ⊎ IsOpened ts (with_pairs parts images tasks) noted p i)
            (λ p i m. ⊎_elim (λ a. inl a)
            (λ b. inr (opened-more ts ((part, img) ∷ tasks) met (with_pairs parts images tasks) noted p i
            (goes (with_pairs parts images tasks) (with_pairs-old parts images tasks)) b)) (w.closed p i m))
            (inr (record { name = n; parts = parts; images = images; is = h; becomes = k; lower = low; paired = with_pairs-new noted parts images tasks len }));
        sources = λ m i e. let q = w.sources m i e in (q.0, q.1, stays q.0 i q.2);
        root = goes (with_pairs parts images tasks) (with_pairs-old parts images tasks) general instance w.root;
      }
        where
          both_below : (ps is : List TypeId) → part.0 ≤ length ts → img.0 ≤ length ts → AreBelow part.0 ps → AreBelow img.0 is
              → AllPairs (λ x y. (x.0 < length ts) × (y.0 < length ts)) ps is
          both_below [] is a b c d = tt
          both_below (p ∷ ps) [] a b c d = tt
          both_below (p ∷ ps) (i ∷ is) a b c d = ((omega (arith, a, c.0), omega (arith, b, d.0)), both_below ps is a b c.1 d.1)

          all_meet : (s : TypePairs) (ps is : List TypeId) → substitute_all s (types_of (types_at ts ps)) ≡ types_of (types_at ts is)
              → AllPairs (Meets s ts) ps is
          all_meet s [] is e = tt
          all_meet s (p ∷ ps) [] e = tt
          all_meet s (p ∷ ps) (i ∷ is) e = (cc, all_meet s ps is (cc))

          arguments : (s : TypePairs) → Meets s ts part img → substitute_all s (types_of (types_at ts parts)) ≡ types_of (types_at ts images)
          arguments s e =
              let f : operator n (substitute_all s (types_of (types_at ts parts))) ≡ operator n (types_of (types_at ts images)) =
              sym (ap (substitute s) (Holds-tree_at ts part.0 _ h)) ∙ e ∙ Holds-tree_at ts img.0 _ k in
              cc

-- what the test of two names says
pub names_differ : (m n : Name) → not (name_eq m n) ≡ true → m ≡ n → ⊥
names_differ m n e f = let t = (name_eq-Decides m n).1 f in cc

pub names_same : (m n : Name) → not (name_eq m n) ≡ false → m ≡ n
names_same m n e = go (name_eq m n) refl
  where
    go : (b : Bool) → name_eq m n ≡ b → m ≡ n
    go true t = (name_eq-Decides m n).0 t
    go false t = cc

-- operators of different names or different numbers of arguments are no instances of one another
pub never_named : (ts : List HolType) (part img : TypeId) (m n : Name) (parts images : List TypeId)
    → Holds ts part.0 (operator m (types_of (types_at ts parts))) → Holds ts img.0 (operator n (types_of (types_at ts images))) → (m ≡ n → ⊥) → (s : TypePairs)
    → Meets s ts part img → ⊥
never_named ts part img m n parts images h k differ s e =
    let f : operator m (substitute_all s (types_of (types_at ts parts))) ≡ operator n (types_of (types_at ts images)) =
    sym (ap (substitute s) (Holds-tree_at ts part.0 _ h)) ∙ e ∙ Holds-tree_at ts img.0 _ k in
    differ (cc)

lengths : (ts : List HolType) (s : TypePairs) (parts images : List TypeId) → substitute_all s (types_of (types_at ts parts)) ≡ types_of (types_at ts images)
    → length parts ≡ length images
lengths ts s [] [] e = refl
lengths ts s (p ∷ parts) (i ∷ images) e = ap suc (lengths ts s parts images (cc))
lengths ts s [] (i ∷ images) e = absurd (cc)
lengths ts s (p ∷ parts) [] e = absurd (cc)

pub never_counted : (ts : List HolType) (part img : TypeId) (m n : Name) (parts images : List TypeId)
    → Holds ts part.0 (operator m (types_of (types_at ts parts))) → Holds ts img.0 (operator n (types_of (types_at ts images)))
    → (length parts ≡ length images → ⊥) → (s : TypePairs) → Meets s ts part img → ⊥
never_counted ts part img m n parts images h k differ s e =
    let f : operator m (substitute_all s (types_of (types_at ts parts))) ≡ operator n (types_of (types_at ts images)) =
    sym (ap (substitute s) (Holds-tree_at ts part.0 _ h)) ∙ e ∙ Holds-tree_at ts img.0 _ k in
    differ (lengths ts s parts images (cc))

-- an operator becomes no variable
pub never_variable : (ts : List HolType) (part img : TypeId) (m n : Name) (parts : List TypeId) → Holds ts part.0 (operator m (types_of (types_at ts parts)))
    → Holds ts img.0 (variable n) → (s : TypePairs) → Meets s ts part img → ⊥
never_variable ts part img m n parts h k s e =
    let f : operator m (substitute_all s (types_of (types_at ts parts))) ≡ variable n =
    sym (ap (substitute s) (Holds-tree_at ts part.0 _ h)) ∙ e ∙ Holds-tree_at ts img.0 _ k in
    cc

-- a matching at its end
module _ (general instance : TypeId) (ts : List HolType) (found : List (Name × TypeId)) (met : List (TypeId × TypeId))
    (w : IsMatching general instance ts [] found met) where
  nothing_left : (p i : TypeId) (k : ℕ) → slice_get {X = TypeId × TypeId} [] k ≡ Some (p, i) → ⊥
  nothing_left p i k e = cc

  lookup-pairs_at : (m : Name) (fs : List (Name × TypeId)) (i : TypeId) → lookup (name_eq m) fs ≡ Some i → lookup (name_eq m) (pairs_at ts fs)
      ≡ Some (tree_at ts i.0)
  lookup-pairs_at m [] i e = absurd (cc)
  lookup-pairs_at m (f ∷ fs) i e = go (λ k. lookup-pairs_at m fs i k) (name_eq m f.0) e
    where
      go : (lookup (name_eq m) fs ≡ Some i → lookup (name_eq m) (pairs_at ts fs) ≡ Some (tree_at ts i.0)) → (b : Bool)
          → (if b then Some f.1 else lookup (name_eq m) fs) ≡ Some i → (if b then Some (tree_at ts f.1.0) else lookup (name_eq m) (pairs_at ts fs))
          ≡ Some (tree_at ts i.0)
      go on true k = ap (λ j. Some (tree_at ts j.0)) (same_Some _ _ k)
      go on false k = on k

  found_meets : (p i : TypeId) → IsFound ts found p i → Meets (pairs_at ts found) ts p i
  found_meets p i f = ap (substitute (pairs_at ts found)) (Holds-tree_at ts p.0 _ f.is) ∙ ap (λ o. unwrap_or o (variable f.name))
      (lookup-pairs_at f.name found i f.at)

  paired_meet : (n : ℕ) (parts images : List TypeId) → ((p i : TypeId) → p.0 < n → IsNoted met p i → Meets (pairs_at ts found) ts p i) → AreBelow n parts
      → ArePaired [] met parts images → substitute_all (pairs_at ts found) (types_of (types_at ts parts)) ≡ types_of (types_at ts images)
  paired_meet n [] [] on low h = refl
  paired_meet n (p ∷ parts) (i ∷ images) on low h =
      ap₂ more (⊎_elim (λ m. on p i low.0 m) (λ t. absurd (nothing_left p i t.0 t.1)) h.0) (paired_meet n parts images on low.1 h.1)
  paired_meet n [] (i ∷ images) on low h = absurd h
  paired_meet n (p ∷ parts) [] on low h = absurd h

  opened_meets : (n : ℕ) (p i : TypeId) → p.0 ≤ n → ((q j : TypeId) → q.0 < n → IsNoted met q j → Meets (pairs_at ts found) ts q j) → IsOpened ts [] met p i
      → Meets (pairs_at ts found) ts p i
  opened_meets n p i le on o =
      ap (substitute (pairs_at ts found)) (Holds-tree_at ts p.0 _ o.is)
      ∙ ap (operator o.name) (paired_meet p.0 o.parts o.images (λ q j lt m. on q j (omega (arith, lt, le)) m) o.lower o.paired)
      ∙ sym (Holds-tree_at ts i.0 _ o.becomes)

  met_meets : (n : ℕ) (p i : TypeId) → p.0 < n → IsNoted met p i → Meets (pairs_at ts found) ts p i
  met_meets zero p i lt m = absurd (omega (arith, lt))
  met_meets (suc n) p i lt m = ⊎_elim (λ f. found_meets p i f) (λ o. opened_meets n p i (omega (arith, lt)) (met_meets n) o) (w.closed p i m)

  pub matching_ends : Meets (pairs_at ts found) ts general instance
  matching_ends = ⊎_elim (λ m. met_meets (suc general.0) general instance (omega arith) m) (λ t. absurd (nothing_left general instance t.0 t.1)) w.root

total-with_pairs : (ts : List HolType) (parts images : List TypeId) (tasks : List (TypeId × TypeId))
    → total ts (with_pairs parts images tasks) ≤ types_size (types_of (types_at ts parts)) + total ts tasks
total-with_pairs ts [] images tasks = omega arith
total-with_pairs ts (p ∷ parts) [] tasks = omega arith
total-with_pairs ts (p ∷ parts) (i ∷ images) tasks = omega (arith, total-with_pairs ts parts images ((p, i) ∷ tasks))

pub with_pairs_less : (ts : List HolType) (part : TypeId) (n : Name) (parts images : List TypeId) (tasks : List (TypeId × TypeId))
    → Holds ts part.0 (operator n (types_of (types_at ts parts))) → total ts (with_pairs parts images tasks) < type_size (tree_at ts part.0) + total ts tasks
with_pairs_less ts part n parts images tasks h =
    let e : type_size (tree_at ts part.0) ≡ 1 + types_size (types_of (types_at ts parts)) = ap type_size (Holds-tree_at ts part.0 _ h) in
    omega (arith, e, total-with_pairs ts parts images tasks)

pub task_less : (ts : List HolType) (part img : TypeId) (tasks : List (TypeId × TypeId)) → total ts tasks < total ts ((part, img) ∷ tasks)
task_less ts part img tasks = omega (arith, type_size-positive (tree_at ts part.0))

-- what the answer of a turn says
pub goes_on : (b : Bool) (general instance : TypeId) (ts : List HolType) (tasks : List (TypeId × TypeId)) (found : List (Name × TypeId))
    (met : List (TypeId × TypeId)) → b ≡ true → GoesOn b general instance ts tasks found met → IsMatching general instance ts tasks found met
goes_on b general instance ts tasks found met e h = subst (λ c. GoesOn c general instance ts tasks found met) e h

pub stops : (b : Bool) (general instance : TypeId) (ts : List HolType) (tasks : List (TypeId × TypeId)) (found : List (Name × TypeId))
    (met : List (TypeId × TypeId)) → b ≡ false → GoesOn b general instance ts tasks found met → (s : TypePairs) → Meets s ts general instance → ⊥
stops b general instance ts tasks found met e h = subst (λ c. GoesOn c general instance ts tasks found met) e h
