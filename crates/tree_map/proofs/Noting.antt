-- What is noted where a pair comes, and what the memo's two searches find.
use Rattle.std.proofs.Common.{◌≡◌, zero, suc, refl, sym, ap, subst, ◌∙◌, List, [], ◌∷◌, ◌++◌, Some, None, Bool, true, false, inl, inr, ◌⊎◌, ⊎_elim}
use Rattle.std.specs.Prelude.{if◌then◌else◌, option_map}
use Rattle.std.specs.List.{find}
use Rattle.std.specs.Map.{lookup}
use Rattle.std.specs.BTreeMap.{insert_entry}
use Rattle.std.specs.Ordering.{eq_by_cmp, is_eq, match_ordering}
use Rattle.std.specs.declared.cmp.Ordering.{Ordering}
use Rattle.std.specs.declared.cmp.Ordering.TheVariants.{Less, Equal, Greater}
use Rattle.tree_map.specs.Noted.{IsNoted}
use Rattle.tree_map.specs.NotedLaws.{IsNoted-cons, IsNoted-front, IsNoted-behind, IsNoted-none, lookup-noted, lookup-absent}

module _ {K V : Type 0} where
  -- what is noted in a first part is noted
  pub IsNoted-left : (es fs : List (K × V)) (p : K) (r : V) → IsNoted es p r → IsNoted (es ++ fs) p r
  IsNoted-left [] fs p r h = absurd (IsNoted-none [] refl p r h)
  IsNoted-left (e ∷ es) fs p r h = ⊎_elim (λ a. IsNoted-front e (es ++ fs) p r a) (λ a. IsNoted-behind e (es ++ fs) p r (IsNoted-left es fs p r a))
      (IsNoted-cons e es p r h)

  -- what is noted in a last part is noted
  pub IsNoted-right : (es fs : List (K × V)) (p : K) (r : V) → IsNoted fs p r → IsNoted (es ++ fs) p r
  IsNoted-right [] fs p r h = h
  IsNoted-right (e ∷ es) fs p r h = IsNoted-behind e (es ++ fs) p r (IsNoted-right es fs p r h)

  -- what is noted in two parts is noted in one of them
  pub IsNoted-append : (es fs : List (K × V)) (p : K) (r : V) → IsNoted (es ++ fs) p r → IsNoted es p r ⊎ IsNoted fs p r
  IsNoted-append [] fs p r h = inr h
  IsNoted-append (e ∷ es) fs p r h =
      ⊎_elim (λ a. inl (IsNoted-front e es p r a)) (λ a. ⊎_elim (λ b. inl (IsNoted-behind e es p r b)) (λ b. inr b) (IsNoted-append es fs p r a))
      (IsNoted-cons e (es ++ fs) p r h)

-- keys with a test that is exact
module _ {K V : Type 0} (eq : K → K → Bool) (exact : (x y : K) → eq x y ≡ true → x ≡ y) (own : (x : K) → eq x x ≡ true) (p : K) where
  -- the first pair that a test passes has the value
  lookup-find : (es : List (K × V)) → lookup (eq p) es ≡ option_map (λ e. e.1) (find (λ e. eq p e.0) es)
  lookup-find [] = refl
  lookup-find (e ∷ es) = go (lookup-find es) (eq p e.0)
    where
      go : lookup (eq p) es ≡ option_map (λ x. x.1) (find (λ x. eq p x.0) es) → (b : Bool) → (if b then Some e.1 else lookup (eq p) es)
          ≡ option_map (λ x. x.1) (if b then Some e else find (λ x. eq p x.0) es)
      go on true = refl
      go on false = on

  -- the value of the first pair that a test passes is noted
  pub find-noted : (es : List (K × V)) (e : K × V) → Some e ≡ find (λ x. eq p x.0) es → IsNoted es p e.1
  find-noted es e h = lookup-noted eq exact own p es e.1 (lookup-find es ∙ ap (option_map (λ x. x.1)) (sym h))

  -- where a test passes no pair, nothing is noted
  pub find-absent : (es : List (K × V)) → None ≡ find (λ x. eq p x.0) es → (r : V) → IsNoted es p r → ⊥
  find-absent es h = lookup-absent eq exact own p es (lookup-find es ∙ ap (option_map (λ x. x.1)) (sym h))

-- a pair that comes in an order that is exact
module _ {K V : Type 0} (cmp : K → K → Ordering) (exact : (x y : K) → eq_by_cmp cmp x y ≡ true → x ≡ y) (k : K) (v : V) where
  -- what is noted then was noted, or it is the pair
  pub insert_entry-noted : (es : List (K × V)) (p : K) (r : V) → IsNoted (insert_entry cmp es k v) p r → IsNoted es p r ⊎ ((p ≡ k) × (r ≡ v))
  insert_entry-noted [] p r h = ⊎_elim (λ w. inr (sym w.0, sym w.1)) (λ w. inl w) (IsNoted-cons (k, v) [] p r h)
  insert_entry-noted (e ∷ es) p r h = go (λ w. insert_entry-noted es p r w) (cmp k e.0) refl h
    where
      go : (IsNoted (insert_entry cmp es k v) p r → IsNoted es p r ⊎ ((p ≡ k) × (r ≡ v))) → (o : Ordering) → cmp k e.0 ≡ o
          → IsNoted (match_ordering o ((k, v) ∷ e ∷ es) ((e.0, v) ∷ es) (e ∷ insert_entry cmp es k v)) p r → IsNoted (e ∷ es) p r ⊎ ((p ≡ k) × (r ≡ v))
      go on Less q w = ⊎_elim (λ a. inr (sym a.0, sym a.1)) (λ a. inl a) (IsNoted-cons (k, v) (e ∷ es) p r w)
      go on Equal q w = ⊎_elim (λ a. inr (sym (exact k e.0 (ap is_eq q) ∙ a.0), sym a.1)) (λ a. inl (IsNoted-behind e es p r a))
          (IsNoted-cons (e.0, v) es p r w)
      go on Greater q w = ⊎_elim
          (λ a. inl (IsNoted-front e es p r a))
          (λ a. ⊎_elim (λ b. inl (IsNoted-behind e es p r b)) (λ b. inr b) (on a))
          (IsNoted-cons e (insert_entry cmp es k v) p r w)

  -- the pair is noted then
  pub insert_entry-new : (es : List (K × V)) → IsNoted (insert_entry cmp es k v) k v
  insert_entry-new [] = (0, refl)
  insert_entry-new (e ∷ es) = go (insert_entry-new es) (cmp k e.0) refl
    where
      go : IsNoted (insert_entry cmp es k v) k v → (o : Ordering) → cmp k e.0 ≡ o
          → IsNoted (match_ordering o ((k, v) ∷ e ∷ es) ((e.0, v) ∷ es) (e ∷ insert_entry cmp es k v)) k v
      go on Less q = (0, refl)
      go on Equal q = IsNoted-front (e.0, v) es k v (sym (exact k e.0 (ap is_eq q)), refl)
      go on Greater q = IsNoted-behind e (insert_entry cmp es k v) k v on

  -- what was noted of another key is still
  pub insert_entry-kept : (es : List (K × V)) (p : K) (r : V) → IsNoted es p r → (p ≡ k) ⊎ IsNoted (insert_entry cmp es k v) p r
  insert_entry-kept [] p r h = inr (IsNoted-behind (k, v) [] p r h)
  insert_entry-kept (e ∷ es) p r h = go (λ w. insert_entry-kept es p r w) (cmp k e.0) refl (IsNoted-cons e es p r h)
    where
      go : (IsNoted es p r → (p ≡ k) ⊎ IsNoted (insert_entry cmp es k v) p r) → (o : Ordering) → cmp k e.0 ≡ o → ((e.0 ≡ p) × (e.1 ≡ r)) ⊎ IsNoted es p r
          → (p ≡ k) ⊎ IsNoted (match_ordering o ((k, v) ∷ e ∷ es) ((e.0, v) ∷ es) (e ∷ insert_entry cmp es k v)) p r
      go on Less q a = inr (IsNoted-behind (k, v) (e ∷ es) p r h)
      go on Equal q (inl a) = inl (sym (exact k e.0 (ap is_eq q) ∙ a.0))
      go on Equal q (inr a) = inr (IsNoted-behind (e.0, v) es p r a)
      go on Greater q (inl a) = inr (IsNoted-front e (insert_entry cmp es k v) p r a)
      go on Greater q (inr a) = ⊎_elim (λ b. inl b) (λ b. inr (IsNoted-behind e (insert_entry cmp es k v) p r b)) (on a)

-- pairs in two parts, where one comes last
module _ {K V : Type 0} (es fs gs old : List (K × V)) (k : K) (v : V) (was : es ++ fs ≡ old) (is : gs ≡ fs ++ (k, v) ∷ []) where
  pub push-noted : (p : K) (r : V) → IsNoted (es ++ gs) p r → IsNoted old p r ⊎ ((p ≡ k) × (r ≡ v))
  push-noted p r h = ⊎_elim
      (λ a. inl (subst (λ l. IsNoted l p r) was (IsNoted-left es fs p r a)))
      (λ a. ⊎_elim
      (λ b. inl (subst (λ l. IsNoted l p r) was (IsNoted-right es fs p r b)))
      (λ b. ⊎_elim (λ c. inr (sym c.0, sym c.1)) (λ c. absurd (IsNoted-none [] refl p r c)) (IsNoted-cons (k, v) [] p r b))
      (IsNoted-append fs ((k, v) ∷ []) p r (subst (λ l. IsNoted l p r) is a)))
      (IsNoted-append es gs p r h)

  pub push-new : IsNoted (es ++ gs) k v
  push-new = IsNoted-right es gs k v (subst (λ l. IsNoted l k v) (sym is) (IsNoted-right fs ((k, v) ∷ []) k v (0, refl)))

  pub push-kept : (p : K) (r : V) → IsNoted old p r → (p ≡ k) ⊎ IsNoted (es ++ gs) p r
  push-kept p r h = inr (⊎_elim
      (λ a. IsNoted-left es gs p r a)
      (λ a. IsNoted-right es gs p r (subst (λ l. IsNoted l p r) (sym is) (IsNoted-left fs ((k, v) ∷ []) p r a)))
      (IsNoted-append es fs p r (subst (λ l. IsNoted l p r) (sym was) h)))

-- pairs in two parts, where one comes into the first in its order
module _ {K V : Type 0} (cmp : K → K → Ordering) (exact : (x y : K) → eq_by_cmp cmp x y ≡ true → x ≡ y)
    (es fs gs old : List (K × V)) (k : K) (v : V) (was : es ++ fs ≡ old) (is : gs ≡ insert_entry cmp es k v) where
  pub put-noted : (p : K) (r : V) → IsNoted (gs ++ fs) p r → IsNoted old p r ⊎ ((p ≡ k) × (r ≡ v))
  put-noted p r h = ⊎_elim
      (λ a. ⊎_elim (λ b. inl (subst (λ l. IsNoted l p r) was (IsNoted-left es fs p r b))) (λ b. inr b)
      (insert_entry-noted cmp exact k v es p r (subst (λ l. IsNoted l p r) is a)))
      (λ a. inl (subst (λ l. IsNoted l p r) was (IsNoted-right es fs p r a)))
      (IsNoted-append gs fs p r h)

  pub put-new : IsNoted (gs ++ fs) k v
  put-new = IsNoted-left gs fs k v (subst (λ l. IsNoted l k v) (sym is) (insert_entry-new cmp exact k v es))

  pub put-kept : (p : K) (r : V) → IsNoted old p r → (p ≡ k) ⊎ IsNoted (gs ++ fs) p r
  put-kept p r h = ⊎_elim
      (λ a. ⊎_elim (λ b. inl b) (λ b. inr (IsNoted-left gs fs p r (subst (λ l. IsNoted l p r) (sym is) b))) (insert_entry-kept cmp exact k v es p r a))
      (λ a. inr (IsNoted-right gs fs p r a))
      (IsNoted-append es fs p r (subst (λ l. IsNoted l p r) (sym was) h))
