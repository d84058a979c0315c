-- Pairs of a key and the value at its place.
use Rattle.std.proofs.Common.{◌≡◌, ℕ, zero, suc, Bool, true, false, cond, refl, sym, ap, ◌∙◌, arith, List, [], ◌∷◌, ◌++◌, length, take, set, Option, Some, None, slice_get}
use Rattle.std.specs.Prelude.{not, option_map, if◌then◌else◌}
use Rattle.std.specs.List.{zip, list_any, position_or_len}
use Rattle.std.specs.Map.{lookup}
use Rattle.std.proofs.lemmas.Option.{same_Some}
use Rattle.tree_map.specs.Places.{place}
use Rattle.tree_map.specs.Entries.{insert_entry, insert_key}
use Rattle.tree_map.proofs.Places.{place-None, place-Some, insert_key-new, insert_key-old}

module _ {K V : Type 0} where
  -- a first part of the pairs
  pub take-zip : (n : ℕ) (ks : List K) (vs : List V) → take n (zip ks vs) ≡ zip (take n ks) (take n vs)
  take-zip zero ks vs = refl
  take-zip (suc n) [] vs = refl
  take-zip (suc n) (k ∷ ks) [] = refl
  take-zip (suc n) (k ∷ ks) (v ∷ vs) = ap (λ es. (k, v) ∷ es) (take-zip n ks vs)

  -- as many pairs as keys
  pub length-pairs : (ks : List K) (vs : List V) → length vs ≡ length ks → length (zip ks vs) ≡ length ks
  length-pairs [] vs e = refl
  length-pairs (k ∷ ks) [] e = absurd (omega (arith, e))
  length-pairs (k ∷ ks) (v ∷ vs) e = ap suc (length-pairs ks vs (omega (arith, e)))

  module _ (p : K → Bool) where
    -- no value where no key passes
    pub lookup-None : (ks : List K) (vs : List V) → place p ks ≡ None → lookup p (zip ks vs) ≡ None
    lookup-None [] vs e = refl
    lookup-None (k ∷ ks) [] e = refl
    lookup-None (k ∷ ks) (v ∷ vs) e = go (λ g. lookup-None ks vs g) (p k) (place p ks) refl e
      where
        go : (place p ks ≡ None → lookup p (zip ks vs) ≡ None) → (b : Bool) (o : Option ℕ) → place p ks ≡ o → cond b (Some 0) (option_map suc o) ≡ None
            → cond b (Some v) (lookup p (zip ks vs)) ≡ None
        go rest true o g f = absurd (cc)
        go rest false None g f = rest g
        go rest false (Some n) g f = absurd (cc)

    -- the value at the place of the first key that passes
    pub lookup-Some : (ks : List K) (vs : List V) (n : ℕ) → length vs ≡ length ks → place p ks ≡ Some n → lookup p (zip ks vs) ≡ slice_get vs n
    lookup-Some [] vs n l e = absurd (cc)
    lookup-Some (k ∷ ks) [] n l e = absurd (omega (arith, l))
    lookup-Some (k ∷ ks) (v ∷ vs) n l e = go (λ m g. lookup-Some ks vs m (omega (arith, l)) g) (p k) (place p ks) refl e
      where
        go : ((m : ℕ) → place p ks ≡ Some m → lookup p (zip ks vs) ≡ slice_get vs m) → (b : Bool) (o : Option ℕ) → place p ks ≡ o
            → cond b (Some 0) (option_map suc o) ≡ Some n → cond b (Some v) (lookup p (zip ks vs)) ≡ slice_get (v ∷ vs) n
        go rest true o g f = ap (slice_get (v ∷ vs)) (same_Some 0 n f)
        go rest false None g f = absurd (cc)
        go rest false (Some m) g f = rest m g ∙ ap (slice_get (v ∷ vs)) (same_Some (suc m) n f)

  module _ (eq : K → K → Bool) (k : K) (v : V) where
    -- a new key goes last
    pub insert_entry-new : (ks : List K) (vs : List V) → length vs ≡ length ks → place (eq k) ks ≡ None → zip (ks ++ k ∷ []) (vs ++ v ∷ [])
        ≡ insert_entry eq (zip ks vs) k v
    insert_entry-new [] [] l e = refl
    insert_entry-new [] (w ∷ vs) l e = absurd (omega (arith, l))
    insert_entry-new (x ∷ ks) [] l e = absurd (omega (arith, l))
    insert_entry-new (x ∷ ks) (w ∷ vs) l e = go (λ g. insert_entry-new ks vs (omega (arith, l)) g) (eq k x) (place (eq k) ks) refl e
      where
        go : (place (eq k) ks ≡ None → zip (ks ++ k ∷ []) (vs ++ v ∷ []) ≡ insert_entry eq (zip ks vs) k v) → (b : Bool) (o : Option ℕ) → place (eq k) ks ≡ o
            → cond b (Some 0) (option_map suc o) ≡ None
            → (x, w) ∷ zip (ks ++ k ∷ []) (vs ++ v ∷ []) ≡ (if b then (x, v) ∷ zip ks vs else (x, w) ∷ insert_entry eq (zip ks vs) k v)
        go rest true o g f = absurd (cc)
        go rest false None g f = ap (λ es. (x, w) ∷ es) (rest g)
        go rest false (Some n) g f = absurd (cc)

    -- a key that is there keeps its place
    pub insert_entry-old : (ks : List K) (vs : List V) (n : ℕ) → length vs ≡ length ks → place (eq k) ks ≡ Some n → zip ks (set vs n v)
        ≡ insert_entry eq (zip ks vs) k v
    insert_entry-old [] vs n l e = absurd (cc)
    insert_entry-old (x ∷ ks) [] n l e = absurd (omega (arith, l))
    insert_entry-old (x ∷ ks) (w ∷ vs) n l e = go (λ m g. insert_entry-old ks vs m (omega (arith, l)) g) (eq k x) (place (eq k) ks) refl e
      where
        go : ((m : ℕ) → place (eq k) ks ≡ Some m → zip ks (set vs m v) ≡ insert_entry eq (zip ks vs) k v) → (b : Bool) (o : Option ℕ) → place (eq k) ks ≡ o
            → cond b (Some 0) (option_map suc o) ≡ Some n
            → zip (x ∷ ks) (set (w ∷ vs) n v) ≡ (if b then (x, v) ∷ zip ks vs else (x, w) ∷ insert_entry eq (zip ks vs) k v)
        go rest true o g f = ap (λ m. zip (x ∷ ks) (set (w ∷ vs) m v)) (sym (same_Some 0 n f))
        go rest false None g f = absurd (cc)
        go rest false (Some m) g f = ap (λ i. zip (x ∷ ks) (set (w ∷ vs) i v)) (sym (same_Some (suc m) n f)) ∙ ap (λ es. (x, w) ∷ es) (rest m g)

    -- the pairs, once a new key has gone last
    pub entries-new : (ks new : List K) (vs ws : List V) → length vs ≡ length ks → true ≡ not (list_any (eq k) ks) → new ≡ insert_key eq ks k → ws ≡ vs
        ++ v ∷ [] → zip new ws ≡ insert_entry eq (zip ks vs) k v
    entries-new ks new vs ws l a n w =
        let none = place-None (eq k) ks a in
        ap (λ l. zip l ws) (n ∙ sym (insert_key-new eq k ks none)) ∙ ap (zip (ks ++ k ∷ [])) w ∙ insert_entry-new ks vs l none

    -- the pairs, once a key that is there has another value
    pub entries-old : (ks new : List K) (vs us : List V) (n : ℕ) → length vs ≡ length ks → false ≡ not (list_any (eq k) ks) → new ≡ insert_key eq ks k → us ≡ vs
        → n ≡ position_or_len (eq k) ks
        → zip new (set us n v) ≡ insert_entry eq (zip ks vs) k v
    entries-old ks new vs us n l a i u m =
        let at = place-Some (eq k) ks a in
        ap (λ l. zip l (set us n v)) (i ∙ sym (insert_key-old eq k ks (position_or_len (eq k) ks) at)) ∙ ap (λ l. zip ks (set l n v)) u
        ∙ ap (λ j. zip ks (set vs j v)) m
        ∙ insert_entry-old ks vs (position_or_len (eq k) ks) l at
