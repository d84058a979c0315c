-- What the rules say of a tree depends on the part of the context that it can see: a closed tree has one type in all contexts.
use Rattle.std.proofs.Common.{◌≡◌, refl, sym, ap, subst, ℕ, zero, suc, ◌+◌, ◌<◌, ◌≤◌, arith, Bool, true, false, List, ◌∷◌, Option, Some, None}
use Rattle.std.specs.Prelude.{slice_get, option_map, if◌then◌else◌}
use Rattle.std.proofs.lemmas.Option.{same_Some}
use Rattle.lp_spec.specs.Trees.{Tree, SortType, SortKind, Var, Sym, App, Lam, Pi, lift, put, loose, tree_eq}
use Rattle.lp_spec.specs.Substitution.{up, ren, ups, sub, cons}
use Rattle.lp_binding_laws.specs.Composition.{put_is, lift_is}
use Rattle.lp_spec.specs.Modules.{Declaration}
use Rattle.lp_spec.specs.Conversion.{Step, beta, delta, rule, app_function, app_argument, lam_domain, lam_body, pi_domain, pi_body, Steps, done, next}
use Rattle.lp_typing_laws.specs.ConversionLaws.{IsClosed}
use Rattle.lp_spec.specs.HeadSteps.{head_step}
use Rattle.lp_spec.specs.Check.{Question, Infer, Reach, Meet, Convert, Reply, Found, No, Plan, Say, Ask, if_type, if_sort, unless_kind, found_if, recheck, if_product, if_step, product_of, infer, reach, convert_by, convert_parts, plan, Ends, said, refused, asked}
use Rattle.lp_check_laws.specs.HeadStepLaws.{head_step-Steps}

-- loose variables under renamings, substitutions, lifting and putting
loose-up : (c d : ℕ) (r : ℕ → ℕ) → ((n : ℕ) → n < c → r n < d) → (n : ℕ) → n < suc c → up r n < suc d
loose-up c d r h zero lt = omega arith
loose-up c d r h (suc n) lt = let k = h n (omega (arith, lt)) in omega (arith, k)

loose-ren : (c d : ℕ) (r : ℕ → ℕ) (t : Tree) → ((n : ℕ) → n < c → r n < d) → loose t ≤ c → loose (ren r t) ≤ d
loose-ren c d r SortType h le = omega arith
loose-ren c d r SortKind h le = omega arith
loose-ren c d r (Var n) h le = let k = h n (omega (arith, le)) in omega (arith, k)
loose-ren c d r (Sym s) h le = omega arith
loose-ren c d r (App f x) h le = omega (arith, loose-ren c d r f h (omega (arith, le)), loose-ren c d r x h (omega (arith, le)))
loose-ren c d r (Lam a b) h le = omega
    (arith, loose-ren c d r a h (omega (arith, le)), loose-ren (suc c) (suc d) (up r) b (loose-up c d r h) (omega (arith, le)))
loose-ren c d r (Pi a b) h le = omega
    (arith, loose-ren c d r a h (omega (arith, le)), loose-ren (suc c) (suc d) (up r) b (loose-up c d r h) (omega (arith, le)))

loose-ups : (c d : ℕ) (s : ℕ → Tree) → ((n : ℕ) → n < c → loose (s n) ≤ d) → (n : ℕ) → n < suc c → loose (ups s n) ≤ suc d
loose-ups c d s h zero lt = omega arith
loose-ups c d s h (suc n) lt = loose-ren d (suc d) suc (s n) (λ k l. omega (arith, l)) (h n (omega (arith, lt)))

loose-sub : (c d : ℕ) (s : ℕ → Tree) (t : Tree) → ((n : ℕ) → n < c → loose (s n) ≤ d) → loose t ≤ c → loose (sub s t) ≤ d
loose-sub c d s SortType h le = omega arith
loose-sub c d s SortKind h le = omega arith
loose-sub c d s (Var n) h le = h n (omega (arith, le))
loose-sub c d s (Sym k) h le = omega arith
loose-sub c d s (App f x) h le = omega (arith, loose-sub c d s f h (omega (arith, le)), loose-sub c d s x h (omega (arith, le)))
loose-sub c d s (Lam a b) h le = omega
    (arith, loose-sub c d s a h (omega (arith, le)), loose-sub (suc c) (suc d) (ups s) b (loose-ups c d s h) (omega (arith, le)))
loose-sub c d s (Pi a b) h le = omega
    (arith, loose-sub c d s a h (omega (arith, le)), loose-sub (suc c) (suc d) (ups s) b (loose-ups c d s h) (omega (arith, le)))

pub loose-put : (d : ℕ) (x b : Tree) → loose x ≤ d → loose b ≤ suc d → loose (put x b) ≤ d
loose-put d x b hx hb = subst (λ t. loose t ≤ d) (sym (put_is x b)) (loose-sub (suc d) d (cons x Var) b each hb)
  where
    each : (n : ℕ) → n < suc d → loose (cons x Var n) ≤ d
    each zero l = hx
    each (suc n) l = omega (arith, l)

pub loose-lift : (k d : ℕ) (t : Tree) → loose t + k ≤ d → loose (lift k t) ≤ d
loose-lift k d t h = subst (λ u. loose u ≤ d) (sym (lift_is k t)) (loose-ren (loose t) d (λ n. n + k) t (λ n l. omega (arith, l, h)) (omega arith))

module _ (m : List Declaration) (closed : IsClosed m) where
  loose-Step : (d : ℕ) {t u : Tree} → Step m t u → loose t ≤ d → loose u ≤ d
  loose-Step d (beta {b = b} {x = x} e) h = subst (λ u. loose u ≤ d) e (loose-put d x b (omega (arith, h)) (omega (arith, h)))
  loose-Step d (delta {s = s} {u = u} e) h = omega (arith, closed.definitions s u e)
  loose-Step d (rule {a = a} {b = b} e) h = subst (λ u. loose u ≤ d) e (let k = loose-lift 1 (suc d) b (omega (arith, h)) in omega (arith, h, k))
  loose-Step d (app_function h) le = omega (arith, loose-Step d h (omega (arith, le)), le)
  loose-Step d (app_argument h) le = omega (arith, loose-Step d h (omega (arith, le)), le)
  loose-Step d (lam_domain h) le = omega (arith, loose-Step d h (omega (arith, le)), le)
  loose-Step d (lam_body h) le = omega (arith, loose-Step (suc d) h (omega (arith, le)), le)
  loose-Step d (pi_domain h) le = omega (arith, loose-Step d h (omega (arith, le)), le)
  loose-Step d (pi_body h) le = omega (arith, loose-Step (suc d) h (omega (arith, le)), le)

  loose-Steps : (d : ℕ) {t u : Tree} → Steps m t u → loose t ≤ d → loose u ≤ d
  loose-Steps d done h = h
  loose-Steps d (next s k) h = loose-Steps d k (loose-Step d s h)

  loose-head : (d : ℕ) (t u : Tree) → head_step m t ≡ Some u → loose t ≤ d → loose u ≤ d
  loose-head d t u e h = loose-Steps d (head_step-Steps m t u e) h

-- the contexts agree on their d innermost entries, which see no others
record Agrees (d : ℕ) (G D : List Tree) : Type 0 where
  same : (n : ℕ) → n < d → slice_get G n ≡ slice_get D n
  seen : (n : ℕ) (A : Tree) → n < d → slice_get G n ≡ Some A → loose A + suc n ≤ d

agrees-none : (G D : List Tree) → Agrees 0 G D
agrees-none G D = record { same = λ n l. absurd (omega (arith, l)); seen = λ n A l e. absurd (omega (arith, l)) }

agrees-under : {d : ℕ} {G D : List Tree} {A : Tree} → loose A ≤ d → Agrees d G D → Agrees (suc d) (A ∷ G) (A ∷ D)
agrees-under {d = d} {G = G} {D = D} {A = A} h a = record { same = same; seen = seen }
  where
    same : (n : ℕ) → n < suc d → slice_get (A ∷ G) n ≡ slice_get (A ∷ D) n
    same zero l = refl
    same (suc n) l = a.same n (omega (arith, l))

    seen : (n : ℕ) (B : Tree) → n < suc d → slice_get (A ∷ G) n ≡ Some B → loose B + suc n ≤ suc d
    seen zero B l e = subst (λ t. loose t + suc zero ≤ suc d) (same_Some _ _ e) (omega (arith, h))
    seen (suc n) B l e = let k = a.seen n B (omega (arith, l)) e in omega (arith, k)

-- questions that are one where contexts agree, and whose trees see no more than d variables
data AreOne : ℕ → Question → Question → Type 0 where
  one_infer : {d : ℕ} {G D : List Tree} {t : Tree} → Agrees d G D → loose t ≤ d → AreOne d (Infer G t) (Infer D t)
  one_reach : {d : ℕ} {F : Tree} → loose F ≤ d → AreOne d (Reach F) (Reach F)
  one_meet : {d : ℕ} {G D : List Tree} {E F : Tree} → Agrees d G D → loose E ≤ d → loose F ≤ d → AreOne d (Meet G E F) (Meet D E F)
  one_convert : {d : ℕ} {E F : Tree} → loose E ≤ d → loose F ≤ d → AreOne d (Convert E F) (Convert E F)

-- plans of such questions, which find what sees no more than d variables
data Alike (d : ℕ) : Plan → Plan → Type 0 where
  no_alike : Alike d (Say No) (Say No)
  found_alike : {t : Tree} → loose t ≤ d → Alike d (Say (Found t)) (Say (Found t))
  ask_alike : {q o : Question} {f g : Tree → Plan} {e : ℕ} → AreOne e q o → ((t : Tree) → loose t ≤ e → Alike d (f t) (g t)) → Alike d (Ask q f) (Ask o g)

module _ (d : ℕ) where
  if_type-alike : (s : Tree) {p q : Plan} → Alike d p q → Alike d (if_type s p) (if_type s q)
  if_type-alike SortType h = h
  if_type-alike SortKind h = no_alike
  if_type-alike (Var n) h = no_alike
  if_type-alike (Sym k) h = no_alike
  if_type-alike (App f x) h = no_alike
  if_type-alike (Lam a b) h = no_alike
  if_type-alike (Pi a b) h = no_alike

  if_sort-alike : (s : Tree) {p q : Plan} → Alike d p q → Alike d (if_sort s p) (if_sort s q)
  if_sort-alike SortType h = h
  if_sort-alike SortKind h = h
  if_sort-alike (Var n) h = no_alike
  if_sort-alike (Sym k) h = no_alike
  if_sort-alike (App f x) h = no_alike
  if_sort-alike (Lam a b) h = no_alike
  if_sort-alike (Pi a b) h = no_alike

  unless_kind-alike : (s : Tree) {p q : Plan} → Alike d p q → Alike d (unless_kind s p) (unless_kind s q)
  unless_kind-alike SortType h = h
  unless_kind-alike SortKind h = no_alike
  unless_kind-alike (Var n) h = h
  unless_kind-alike (Sym k) h = h
  unless_kind-alike (App f x) h = h
  unless_kind-alike (Lam a b) h = h
  unless_kind-alike (Pi a b) h = h

module _ (m : List Declaration) (closed : IsClosed m) (r : Bool) where
  found_if-alike : (d : ℕ) (o u : Option Tree) → o ≡ u → ((t : Tree) → o ≡ Some t → loose t ≤ d) → Alike d (found_if o) (found_if u)
  found_if-alike d o u e h = subst (λ w. Alike d (found_if o) (found_if w)) e (go o h)
    where
      go : (o : Option Tree) → ((t : Tree) → o ≡ Some t → loose t ≤ d) → Alike d (found_if o) (found_if o)
      go None h = no_alike
      go (Some t) h = found_alike (h t refl)

  recheck-alike : (r : Bool) (d e : ℕ) {G D : List Tree} (t : Tree) {p q : Plan} → Agrees d G D → loose t ≤ d → Alike e p q
      → Alike e (recheck r G t p) (recheck r D t q)
  recheck-alike true d e t a h k = ask_alike (one_infer a h) (λ s l. if_sort-alike e s k)
  recheck-alike false d e t a h k = k

  -- what goes on with a product
  abbrev On : ℕ → ℕ → (Tree → Tree → Plan) → (Tree → Tree → Plan) → Type 0
  On d e f g = (A B : Tree) → loose A ≤ d → loose B ≤ suc d → Alike e (f A B) (g A B)

  if_product-alike : (d e : ℕ) (F : Tree) {f g : Tree → Tree → Plan} → loose F ≤ d → On d e f g → Alike e (if_product F f) (if_product F g)
  if_product-alike d e (Pi A B) h on = on A B (omega (arith, h)) (omega (arith, h))
  if_product-alike d e SortType h on = no_alike
  if_product-alike d e SortKind h on = no_alike
  if_product-alike d e (Var n) h on = no_alike
  if_product-alike d e (Sym s) h on = no_alike
  if_product-alike d e (App f x) h on = no_alike
  if_product-alike d e (Lam a b) h on = no_alike

  step-alike : (d e : ℕ) {G D : List Tree} (F : Tree) {f g : Tree → Tree → Plan} → Agrees d G D → loose F ≤ d → On d e f g → (o : Option Tree)
      → head_step m F ≡ o
      → Alike e (if_step o (λ H. Ask (Reach H) (λ P. recheck r G P (if_product P f)))) (if_step o (λ H. Ask (Reach H) (λ P. recheck r D P (if_product P g))))
  step-alike d e F a h on None q = no_alike
  step-alike d e F a h on (Some H) q = ask_alike (one_reach (loose-head m closed d F H q h)) (λ P l. recheck-alike r d e P a l (if_product-alike d e P l on))

  product-alike : (d e : ℕ) {G D : List Tree} (F : Tree) {f g : Tree → Tree → Plan} → Agrees d G D → loose F ≤ d → On d e f g
      → Alike e (product_of m r G F f) (product_of m r D F g)
  product-alike d e (Pi A B) a h on = on A B (omega (arith, h)) (omega (arith, h))
  product-alike d e SortType a h on = no_alike
  product-alike d e SortKind a h on = no_alike
  product-alike d e (Var n) a h on = no_alike
  product-alike d e (Sym s) a h on = step-alike d e (Sym s) a h on (head_step m (Sym s)) refl
  product-alike d e (App f x) a h on = step-alike d e (App f x) a h on (head_step m (App f x)) refl
  product-alike d e (Lam b t) a h on = step-alike d e (Lam b t) a h on (head_step m (Lam b t)) refl

  entry-seen : (d : ℕ) {G D : List Tree} (n : ℕ) → Agrees d G D → n < d → (o : Option Tree) → slice_get G n ≡ o → (t : Tree)
      → option_map (lift (suc n)) o ≡ Some t → loose t ≤ d
  entry-seen d n a l (Some A) e t q = subst (λ u. loose u ≤ d) (same_Some _ _ q) (loose-lift (suc n) d A (a.seen n A l e))
  entry-seen d n a l None e t q = absurd (cc)

  infer-alike : (d : ℕ) {G D : List Tree} (t : Tree) → Agrees d G D → loose t ≤ d → Alike d (infer m r G t) (infer m r D t)
  infer-alike d SortType a h = found_alike (omega arith)
  infer-alike d SortKind a h = no_alike
  infer-alike d {G = G} (Var n) a h =
      found_if-alike d _ _ (ap (option_map (lift (suc n))) (a.same n (omega (arith, h)))) (entry-seen d n a (omega (arith, h)) (slice_get G n) refl)
  infer-alike d (Sym s) a h = found_if-alike d _ _ refl (λ t e. let z = closed.types s t e in omega (arith, z))
  infer-alike d (App f x) a h =
      ask_alike (one_infer a (omega (arith, h))) (λ F l. product-alike d d F a l (λ A B hA hB.
      ask_alike (one_infer a (omega (arith, h))) (λ X k. ask_alike (one_meet a hA k) (λ u v. found_alike (loose-put d x B (omega (arith, h)) hB)))))
  infer-alike d (Lam b t) a h =
      ask_alike (one_infer a (omega (arith, h)))
      (λ s l. if_type-alike d s
      (ask_alike (one_infer (agrees-under {A = b} (omega (arith, h)) a) (omega (arith, h)))
      (λ B k. unless_kind-alike d B (found_alike (omega (arith, h, k))))))
  infer-alike d (Pi b t) a h =
      ask_alike (one_infer a (omega (arith, h)))
      (λ s l. if_type-alike d s (ask_alike (one_infer (agrees-under {A = b} (omega (arith, h)) a) (omega (arith, h))) (λ o k. sort o)))
    where
      sort : (o : Tree) → Alike d (if_sort o (Say (Found o))) (if_sort o (Say (Found o)))
      sort SortType = found_alike (omega arith)
      sort SortKind = found_alike (omega arith)
      sort (Var n) = no_alike
      sort (Sym k) = no_alike
      sort (App f x) = no_alike
      sort (Lam a b) = no_alike
      sort (Pi a b) = no_alike

  reach-alike : (d : ℕ) (F : Tree) → loose F ≤ d → Alike d (reach m F) (reach m F)
  reach-alike d (Pi A B) h = found_alike h
  reach-alike d SortType h = no_alike
  reach-alike d SortKind h = no_alike
  reach-alike d (Var n) h = no_alike
  reach-alike d (Sym s) h = go (head_step m (Sym s)) refl
    where
      go : (o : Option Tree) → head_step m (Sym s) ≡ o
          → Alike d (if_step o (λ H. Ask (Reach H) (λ P. Say (Found P)))) (if_step o (λ H. Ask (Reach H) (λ P. Say (Found P))))
      go None e = no_alike
      go (Some H) e = ask_alike (one_reach (loose-head m closed d (Sym s) H e h)) (λ P l. found_alike l)
  reach-alike d (App f x) h = go (head_step m (App f x)) refl
    where
      go : (o : Option Tree) → head_step m (App f x) ≡ o
          → Alike d (if_step o (λ H. Ask (Reach H) (λ P. Say (Found P)))) (if_step o (λ H. Ask (Reach H) (λ P. Say (Found P))))
      go None e = no_alike
      go (Some H) e = ask_alike (one_reach (loose-head m closed d (App f x) H e h)) (λ P l. found_alike l)
  reach-alike d (Lam a b) h = go (head_step m (Lam a b)) refl
    where
      go : (o : Option Tree) → head_step m (Lam a b) ≡ o
          → Alike d (if_step o (λ H. Ask (Reach H) (λ P. Say (Found P)))) (if_step o (λ H. Ask (Reach H) (λ P. Say (Found P))))
      go None e = no_alike
      go (Some H) e = ask_alike (one_reach (loose-head m closed d (Lam a b) H e h)) (λ P l. found_alike l)

  parts-alike : (d : ℕ) (E F : Tree) → loose E ≤ d → loose F ≤ d → Alike d (convert_parts E F) (convert_parts E F)
  parts-alike d (App f x) (App g y) h k = ask_alike (one_convert {d = d} (omega (arith, h)) (omega (arith, k)))
      (λ u l. ask_alike (one_convert {d = d} (omega (arith, h)) (omega (arith, k))) (λ v n. found_alike h))
  parts-alike d (Lam a b) (Lam c e) h k = ask_alike (one_convert {d = d} (omega (arith, h)) (omega (arith, k)))
      (λ u l. ask_alike (one_convert {d = suc d} (omega (arith, h)) (omega (arith, k))) (λ v n. found_alike h))
  parts-alike d (Pi a b) (Pi c e) h k = ask_alike (one_convert {d = d} (omega (arith, h)) (omega (arith, k)))
      (λ u l. ask_alike (one_convert {d = suc d} (omega (arith, h)) (omega (arith, k))) (λ v n. found_alike h))
  parts-alike d _ _ h k = no_alike

  by-alike : (d : ℕ) (E F : Tree) (o u : Option Tree) → head_step m E ≡ o → head_step m F ≡ u → loose E ≤ d → loose F ≤ d
      → Alike d (convert_by E F o u) (convert_by E F o u)
  by-alike d E F (Some H) u e q h k = ask_alike (one_convert (loose-head m closed d E H e h) k) (λ v n. found_alike h)
  by-alike d E F None (Some H) e q h k = ask_alike (one_convert h (loose-head m closed d F H q k)) (λ v n. found_alike h)
  by-alike d E F None None e q h k = parts-alike d E F h k

  plan-alike : {d : ℕ} {q o : Question} → AreOne d q o → Alike d (plan m r q) (plan m r o)
  plan-alike (one_infer {d = d} {t = t} a h) = infer-alike d t a h
  plan-alike (one_reach {d = d} {F = F} h) = reach-alike d F h
  plan-alike (one_meet {d = d} {G = G} {D = D} {E = E} {F = F} a h k) = go (tree_eq E F)
    where
      go : (b : Bool) → Alike d (if b then Say (Found E) else recheck r G E (Ask (Convert E F) (λ _. Say (Found E))))
          (if b then Say (Found E) else recheck r D E (Ask (Convert E F) (λ _. Say (Found E))))
      go true = found_alike h
      go false = recheck-alike r d d E a h (ask_alike (one_convert h k) (λ u l. found_alike h))
  plan-alike (one_convert {d = d} {E = E} {F = F} h k) = go (tree_eq E F)
    where
      go : (b : Bool)
          → Alike d (if b then Say (Found E) else convert_by E F (head_step m E) (head_step m F))
          (if b then Say (Found E) else convert_by E F (head_step m E) (head_step m F))
      go true = found_alike h
      go false = by-alike d E F (head_step m E) (head_step m F) refl refl h k

  -- what is found sees no more than d variables
  abbrev Sees : ℕ → Reply → Type 0
  Sees d (Found t) = loose t ≤ d
  Sees d No = Unit {0}

  ends-alike : (d : ℕ) {p q : Plan} {reply : Reply} {n : ℕ} → Ends m r p reply n → Alike d p q → Ends m r q reply n × Sees d reply
  ends-alike d said no_alike = (said, tt)
  ends-alike d said (found_alike h) = (said, h)
  ends-alike d (refused h) (ask_alike {e = e} a f) = let k = ends-alike e h (plan-alike a) in (refused k.0, tt)
  ends-alike d (asked {t = t} h g) (ask_alike {e = e} a f) =
      let k = ends-alike e h (plan-alike a) in
      let l = ends-alike d g (f t k.1) in
      (asked k.0 l.0, l.1)

  -- A closed tree has the same answer at the same price in all contexts.
  pub infer-anywhere : (G D : List Tree) (t : Tree) (reply : Reply) (n : ℕ) → loose t ≡ 0 → Ends m r (infer m r G t) reply n → Ends m r (infer m r D t) reply n
  infer-anywhere G D t reply n c h = (ends-alike 0 h (infer-alike 0 t (agrees-none G D) (omega (arith, c)))).0
