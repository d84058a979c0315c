-- Keys that are found at their places, where one comes or goes.
use Rattle.std.proofs.Common.{◌≡◌, ℕ, zero, suc, ◌+◌, ◌-◌, ◌<◌, ◌≤◌, Bool, true, false, cond, refl, sym, ap, subst, ◌∙◌, arith, List, [], ◌∷◌, ◌++◌, length, take, drop, get_or, length-append, add-one, position, Option, Some, None, slice_get, ◌⊎◌, ⊎_elim, inl, inr}
use Rattle.std.specs.Prelude.{◌||◌, not, if◌then◌else◌, option_map, is_some, Result, Ok, Err, IfOk, OnOk, OnErr}
use Rattle.std.specs.Option.{unwrap_or}
use Rattle.std.specs.List.{list_any, position_or_len}
use Rattle.std.specs.Cmp.{IsEquivalence}
use Rattle.std.proofs.lemmas.List.Recursion.{is_position_or_len}
use Rattle.std.proofs.lemmas.List.{length-take-le, take-append-drop}
use Rattle.std.proofs.lemmas.Option.{same_Some, slice_get-get_or}
use Rattle.std.proofs.Math.Seq.{take-suc}
use Rattle.tree_map.specs.Places.{place, Finds, FindsWith, ArePlaced}
use Rattle.tree_map.specs.Entries.{insert_key}

module _ {T : Type 0} (p : T → Bool) where
  place-yes : (x : T) (xs : List T) → p x ≡ true → place p (x ∷ xs) ≡ Some 0
  place-yes x xs h = ap (λ b. cond b (Some 0) (option_map suc (place p xs))) h

  place-no : (x : T) (xs : List T) → p x ≡ false → place p (x ∷ xs) ≡ option_map suc (place p xs)
  place-no x xs h = ap (λ b. cond b (Some 0) (option_map suc (place p xs))) h

  -- a test that passes somewhere has a place
  pub any-place : (xs : List T) → list_any p xs ≡ is_some (place p xs)
  any-place [] = refl
  any-place (x ∷ xs) = go (p x) (place p xs) (any-place xs)
    where
      go : (b : Bool) (o : Option ℕ) → list_any p xs ≡ is_some o → (b || list_any p xs) ≡ is_some (cond b (Some 0) (option_map suc o))
      go true o h = refl
      go false None h = h
      go false (Some n) h = h

  -- the place, or the length where there is none
  pub place-position : (xs : List T) → unwrap_or (place p xs) (length xs) ≡ position_or_len p xs
  place-position = is_position_or_len (λ xs. unwrap_or (place p xs) (length xs)) p refl (λ x xs. go xs (p x) (place p xs))
    where
      go : (xs : List T) (b : Bool) (o : Option ℕ) → unwrap_or (cond b (Some 0) (option_map suc o)) (suc (length xs)) ≡ cond b 0 (1 + unwrap_or o (length xs))
      go xs true o = refl
      go xs false None = let e : suc (length xs) ≡ 1 + length xs = omega arith in e
      go xs false (Some n) = let e : suc n ≡ 1 + n = omega arith in e

  position-cons : (x : T) (xs : List T) (b : Bool) → p x ≡ b → position p (x ∷ xs) ≡ cond b (Some 0) (option_map suc (position p xs))
  position-cons x xs true h = grind (arith, h)
  position-cons x xs false h = grind (arith, h)

  pub position-place : (xs : List T) → position p xs ≡ place p xs
  position-place [] = refl
  position-place (x ∷ xs) = position-cons x xs (p x) refl ∙ ap (λ o. cond (p x) (Some 0) (option_map suc o)) (position-place xs)

  -- where the test passes nowhere, there is no place
  pub place-None : (xs : List T) → true ≡ not (list_any p xs) → place p xs ≡ None
  place-None xs h = go (place p xs) (h ∙ ap not (any-place xs))
    where
      go : (o : Option ℕ) → true ≡ not (is_some o) → o ≡ None
      go None e = refl
      go (Some n) e = absurd (cc)

  -- where it passes somewhere, the place is its first
  pub place-Some : (xs : List T) → false ≡ not (list_any p xs) → place p xs ≡ Some (position_or_len p xs)
  place-Some xs h = go (place p xs) (h ∙ ap not (any-place xs)) ∙ ap Some (place-position xs)
    where
      go : (o : Option ℕ) → false ≡ not (is_some o) → o ≡ Some (unwrap_or o (length xs))
      go None e = absurd (cc)
      go (Some n) e = refl

  one_more : (n : ℕ) (o : Option ℕ) → option_map suc (option_map (λ k. n + k) o) ≡ option_map (λ k. suc n + k) o
  one_more n None = refl
  one_more n (Some k) = let e : suc (n + k) ≡ suc n + k = omega arith in ap Some e

  none_more : (o : Option ℕ) → o ≡ option_map (λ k. 0 + k) o
  none_more None = refl
  none_more (Some n) = let e : n ≡ 0 + n = omega arith in ap Some e

  later : (x : T) (xs ys : List T) (n : ℕ) (b : Bool) → p x ≡ b → (o : Option ℕ) → place p xs ≡ o
      → ((m : ℕ) → place p xs ≡ Some m → place p (xs ++ ys) ≡ Some m)
      → place p (x ∷ xs) ≡ Some n → place p (x ∷ (xs ++ ys)) ≡ Some n
  later x xs ys n true h o _ _ e = place-yes x (xs ++ ys) h ∙ sym (place-yes x xs h) ∙ e
  later x xs ys n false h (Some m) g more e = place-no x (xs ++ ys) h ∙ ap (option_map suc) (more m g ∙ sym g) ∙ sym (place-no x xs h) ∙ e
  later x xs ys n false h None g more e = absurd (let bad : None ≡ Some n = sym (ap (option_map suc) g) ∙ sym (place-no x xs h) ∙ e in cc)

  -- found in a first part
  pub place-append-Some : (xs ys : List T) (n : ℕ) → place p xs ≡ Some n → place p (xs ++ ys) ≡ Some n
  place-append-Some [] ys n e = absurd (cc)
  place-append-Some (x ∷ xs) ys n e = later x xs ys n (p x) refl (place p xs) refl (λ m g. place-append-Some xs ys m g) e

  behind : (x : T) (xs ys : List T) (b : Bool) → p x ≡ b → (o : Option ℕ) → place p xs ≡ o
      → (place p xs ≡ None → place p (xs ++ ys) ≡ option_map (λ n. length xs + n) (place p ys))
      → place p (x ∷ xs) ≡ None → place p (x ∷ (xs ++ ys)) ≡ option_map (λ n. suc (length xs) + n) (place p ys)
  behind x xs ys true h o _ _ e = absurd (let bad : Some 0 ≡ None = sym (place-yes x xs h) ∙ e in cc)
  behind x xs ys false h (Some m) g more e = absurd (let bad : Some (suc m) ≡ None = sym (ap (option_map suc) g) ∙ sym (place-no x xs h) ∙ e in cc)
  behind x xs ys false h None g more e = place-no x (xs ++ ys) h ∙ ap (option_map suc) (more g) ∙ one_more (length xs) (place p ys)

  -- found behind it
  pub place-append-None : (xs ys : List T) → place p xs ≡ None → place p (xs ++ ys) ≡ option_map (λ n. length xs + n) (place p ys)
  place-append-None [] ys e = none_more (place p ys)
  place-append-None (x ∷ xs) ys e = behind x xs ys (p x) refl (place p xs) refl (λ g. place-append-None xs ys g) e

  last : (b : Bool) → b ≡ false → cond b (Some 0) (option_map suc None) ≡ None
  last true e = absurd (cc)
  last false e = refl

  -- a last item that doesn't pass changes no place
  pub place-push_other : (xs : List T) (y : T) → p y ≡ false → place p (xs ++ y ∷ []) ≡ place p xs
  place-push_other xs y e = go (place p xs) refl
    where
      go : (o : Option ℕ) → place p xs ≡ o → place p (xs ++ y ∷ []) ≡ place p xs
      go (Some n) h = place-append-Some xs (y ∷ []) n h ∙ sym h
      go None h = place-append-None xs (y ∷ []) h ∙ ap (option_map (λ k. length xs + k)) (last (p y) e) ∙ sym h

  -- a last item that passes, as the first
  pub place-push_new : (xs : List T) (y : T) → place p xs ≡ None → p y ≡ true → place p (xs ++ y ∷ []) ≡ Some (length xs)
  place-push_new xs y none e =
      place-append-None xs (y ∷ []) none ∙ ap (λ b. option_map (λ k. length xs + k) (cond b (Some 0) (option_map suc None))) e
      ∙ ap Some (let h : length xs + 0 ≡ length xs = omega arith in h)

  -- a place is within the list
  pub place-within : (xs : List T) (n : ℕ) → place p xs ≡ Some n → n < length xs
  place-within [] n e = absurd (cc)
  place-within (x ∷ xs) n e = go (λ m g. place-within xs m g) (p x) refl (place p xs) refl
    where
      go : ((m : ℕ) → place p xs ≡ Some m → m < length xs) → (b : Bool) → p x ≡ b → (o : Option ℕ) → place p xs ≡ o → n < suc (length xs)
      go rest true h o g = let s = same_Some 0 n (sym (place-yes x xs h) ∙ e) in omega (arith, s)
      go rest false h (Some m) g =
          let less = rest m g in
          let s = same_Some (suc m) n (sym (ap (option_map suc) g) ∙ sym (place-no x xs h) ∙ e) in
          omega (arith, s, less)
      go rest false h None g = absurd (let bad : None ≡ Some n = sym (ap (option_map suc) g) ∙ sym (place-no x xs h) ∙ e in cc)

-- tests that answer alike have one place
pub place-same : {T : Type 0} (p q : T → Bool) → ((x : T) → p x ≡ q x) → (xs : List T) → place p xs ≡ place q xs
place-same p q h [] = refl
place-same p q h (x ∷ xs) = ap (λ b. cond b (Some 0) (option_map suc (place p xs))) (h x) ∙ ap (λ o. cond (q x) (Some 0) (option_map suc o))
    (place-same p q h xs)

-- an item of a list with one more
push_at : {X : Type 0} (xs : List X) (y x : X) (n : ℕ) → slice_get (xs ++ y ∷ []) n ≡ Some x → (slice_get xs n ≡ Some x) ⊎ ((n ≡ length xs) × (y ≡ x))
push_at [] y x zero e = inr (refl, same_Some y x e)
push_at [] y x (suc n) e = absurd (cc)
push_at (z ∷ xs) y x zero e = inl e
push_at (z ∷ xs) y x (suc n) e = ⊎_elim (λ f. inl f) (λ f. inr (ap suc f.0, f.1)) (push_at xs y x n e)

-- an item stays where one more comes
at-push : {X : Type 0} (xs : List X) (y x : X) (n : ℕ) → slice_get xs n ≡ Some x → slice_get (xs ++ y ∷ []) n ≡ Some x
at-push [] y x n e = absurd (cc)
at-push (z ∷ xs) y x zero e = e
at-push (z ∷ xs) y x (suc n) e = at-push xs y x n e

at-last : {X : Type 0} (xs : List X) (y : X) → slice_get (xs ++ y ∷ []) (length xs) ≡ Some y
at-last [] y = refl
at-last (z ∷ xs) y = at-last xs y

at-within : {X : Type 0} (xs : List X) (x : X) (n : ℕ) → slice_get xs n ≡ Some x → n < length xs
at-within [] x n e = absurd (cc)
at-within (z ∷ xs) x zero e = omega arith
at-within (z ∷ xs) x (suc n) e = let h = at-within xs x n e in omega (arith, h)

module _ {T : Type 0} {eq : T → T → Bool} (laws : IsEquivalence eq) where
  -- where a new key has the next place, each is found in the keys with it
  pub Finds-push : (found : T → Option ℕ) (keys : List T) (y : T) → place (eq y) keys ≡ None → FindsWith eq found keys y → Finds eq found (keys ++ y ∷ [])
  Finds-push found keys y nowhere u = λ q. at q (eq y q) refl
    where
      at : (q : T) (b : Bool) → eq y q ≡ b → found q ≡ place (eq q) (keys ++ y ∷ [])
      at q true e =
          u q ∙ ap (λ b. cond b (Some (length keys)) (place (eq q) keys)) e
          ∙ sym (place-push_new (eq q) keys y (place-same (eq q) (eq y) (λ z. sym (laws.congr y q z e)) keys ∙ nowhere) (laws.symm q y ∙ e))
      at q false e = u q ∙ ap (λ b. cond b (Some (length keys)) (place (eq q) keys)) e ∙ sym (place-push_other (eq q) keys y (laws.symm q y ∙ e))

  -- where a new key comes, each key is found
  pub ArePlaced-push : (old new : T → Option ℕ) (keys : List T) (y : T) → ArePlaced eq old keys → place (eq y) keys ≡ None
      → (8 ≤ length keys → FindsWith eq new keys y) → ArePlaced eq new (keys ++ y ∷ [])
  ArePlaced-push old new keys y a nowhere u = record {
    at = λ h. Finds-push new keys y nowhere (u (let l = length-append keys (y ∷ []) in omega (arith, h, l)));
    once = λ n x e. ⊎_elim (λ f. place-append-Some (eq x) keys (y ∷ []) n (a.once n x f)) (λ f. last_one n x f.0 f.1) (push_at keys y x n e);
  }
    where
      last_one : (n : ℕ) (x : T) → n ≡ length keys → y ≡ x → place (eq x) (keys ++ y ∷ []) ≡ Some n
      last_one n x m e = subst (λ z. place (eq z) (keys ++ y ∷ []) ≡ Some n) e (place-push_new (eq y) keys y nowhere (laws.refl y) ∙ ap Some (sym m))

  -- a key is none of those before its place
  before : (front back : List T) (y : T) (o : Option ℕ) → place (eq y) front ≡ o → place (eq y) (front ++ back) ≡ Some (length front) → place (eq y) front
      ≡ None
  before front back y None h e = h
  before front back y (Some n) h e =
      let s = same_Some n (length front) (sym (place-append-Some (eq y) front back n h) ∙ e) in
      let less = place-within (eq y) front n h in
      absurd (omega (arith, s, less))

  -- where the last key goes, each key that stays is found
  pub ArePlaced-pop : (old new : T → Option ℕ) (keys : List T) (y : T) → ArePlaced eq old (keys ++ y ∷ []) → ((q : T) → new q ≡ cond (eq y q) None (old q))
      → ArePlaced eq new keys
  ArePlaced-pop old new keys y a u = record {
    at = λ h q. found q (a.at (let l = length-append keys (y ∷ []) in omega (arith, h, l)) q) (eq y q) refl;
    once = λ n x e. stays n x e (place (eq x) keys) refl;
  }
    where
      nowhere : place (eq y) keys ≡ None
      nowhere = before keys (y ∷ []) y (place (eq y) keys) refl (a.once (length keys) y (at-last keys y))

      found : (q : T) → old q ≡ place (eq q) (keys ++ y ∷ []) → (b : Bool) → eq y q ≡ b → new q ≡ place (eq q) keys
      found q h true e = u q ∙ ap (λ b. cond b None (old q)) e ∙ sym nowhere ∙ place-same (eq y) (eq q) (λ z. laws.congr y q z e) keys
      found q h false e = u q ∙ ap (λ b. cond b None (old q)) e ∙ h ∙ place-push_other (eq q) keys y (laws.symm q y ∙ e)

      stays : (n : ℕ) (x : T) → slice_get keys n ≡ Some x → (o : Option ℕ) → place (eq x) keys ≡ o → place (eq x) keys ≡ Some n
      stays n x e (Some m) h = h ∙ sym (place-append-Some (eq x) keys (y ∷ []) m h) ∙ a.once n x (at-push keys y x n e)
      stays n x e None h = absurd (past (place (eq x) (y ∷ [])) (sym (place-append-None (eq x) keys (y ∷ []) h) ∙ a.once n x (at-push keys y x n e)))
        where
          past : (o : Option ℕ) → option_map (λ k. length keys + k) o ≡ Some n → ⊥
          past None f = absurd (cc)
          past (Some k) f = let s = same_Some (length keys + k) n f in let less = at-within keys x n e in omega (arith, s, less)

  -- one more key in the tree that is made anew
  pub Finds-more : (old new : T → Option ℕ) (keys : List T) (i : ℕ) (y : T) → ((n : ℕ) (x : T) → slice_get keys n ≡ Some x → place (eq x) keys ≡ Some n)
      → i < length keys → y ≡ get_or keys i y
      → Finds eq old (take i keys) → ((q : T) → new q ≡ cond (eq y q) (Some i) (old q)) → Finds eq new (take (i + 1) keys)
  Finds-more old new keys i y once h e f u =
      let len : length (take i keys) ≡ i = length-take-le i keys (omega (arith, h)) in
      let at : place (eq y) keys ≡ Some i = once i y (slice_get-get_or keys i y h ∙ ap Some (sym e)) in
      let nowhere = before (take i keys) (drop i keys) y (place (eq y) (take i keys)) refl
      (ap (place (eq y)) (take-append-drop i keys) ∙ at ∙ ap Some (sym len)) in
      let both : FindsWith eq new (take i keys) y =
      λ q. u q ∙ ap (cond (eq y q) (Some i)) (f q) ∙ ap (λ n. cond (eq y q) (Some n) (place (eq q) (take i keys))) (sym len) in
      subst (Finds eq new) (sym (ap (λ n. take n keys) (add-one i) ∙ take-suc keys i y h ∙ ap (λ x. take i keys ++ x ∷ []) (sym e)))
      (Finds-push new (take i keys) y nowhere both)

-- where each key is found still, the keys are placed still
pub ArePlaced-still : {T : Type 0} (eq : T → T → Bool) (old new : T → Option ℕ) (keys : List T) → ArePlaced eq old keys → (8 < length keys → Finds eq new keys)
    → ArePlaced eq new keys
ArePlaced-still eq old new keys a f = record { at = f; once = a.once }

-- a shorter first part of a first part
take-take : {X : Type 0} (m n : ℕ) (xs : List X) → m ≤ n → take m (take n xs) ≡ take m xs
take-take zero n xs h = refl
take-take (suc m) zero xs h = absurd (omega (arith, h))
take-take (suc m) (suc n) [] h = refl
take-take (suc m) (suc n) (x ∷ xs) h = ap (λ l. x ∷ l) (take-take m n xs (omega (arith, h)))

-- a first part stays where the last item, which is behind it, goes
pub take-pop : {X : Type 0} (m : ℕ) (xs ys : List X) → m < length xs → ys ≡ take (length xs - 1) xs → take m ys ≡ take m xs
take-pop m xs ys h e = ap (take m) e ∙ take-take m (length xs - 1) xs (omega (arith, h))

-- what is known of a key that has a place, and of one that has none
module _ {T : Type 0} (eq : T → T → Bool) (k : T) (keys : List T) where
  pub insert_key-old : (n : ℕ) → place (eq k) keys ≡ Some n → keys ≡ insert_key eq keys k
  insert_key-old n e = sym (ap (λ b. if b then keys else keys ++ k ∷ []) (any-place (eq k) keys ∙ ap is_some e))

  pub insert_key-new : place (eq k) keys ≡ None → keys ++ k ∷ [] ≡ insert_key eq keys k
  insert_key-new e = sym (ap (λ b. if b then keys else keys ++ k ∷ []) (any-place (eq k) keys ∙ ap is_some e))

  pub position-old : (n : ℕ) → place (eq k) keys ≡ Some n → n ≡ position_or_len (eq k) keys
  position-old n e = ap (λ o. unwrap_or o (length keys)) (sym e) ∙ place-position (eq k) keys

  pub position-new : place (eq k) keys ≡ None → length keys ≡ position_or_len (eq k) keys
  position-new e = ap (λ o. unwrap_or o (length keys)) (sym e) ∙ place-position (eq k) keys

  pub added-old : (n : ℕ) → place (eq k) keys ≡ Some n → false ≡ not (list_any (eq k) keys)
  added-old n e = sym (ap not (any-place (eq k) keys ∙ ap is_some e))

  pub added-new : place (eq k) keys ≡ None → true ≡ not (list_any (eq k) keys)
  added-new e = sym (ap not (any-place (eq k) keys ∙ ap is_some e))

-- a call that gives a new key the next place
module _ {T E : Type 0} (eq : T → T → Bool) (old new : List T) (k : T) where
  pub entered_keys : (r : Result (ℕ × Bool) E) → place (eq k) old ≡ None → OnOk r (new ≡ old ++ k ∷ []) → OnOk r (new ≡ insert_key eq old k)
  entered_keys (Ok n) none h = h ∙ insert_key-new eq k old none
  entered_keys (Err e) none h = tt

  pub entered_index : (r : Result (ℕ × Bool) E) → place (eq k) old ≡ None → IfOk r (λ n. n ≡ (length old, true))
      → IfOk r (λ n. n.0 ≡ position_or_len (eq k) old)
  entered_index (Ok n) none h = ap (λ m. m.0) h ∙ position-new eq k old none
  entered_index (Err e) none h = tt

  pub entered_within : (r : Result (ℕ × Bool) E) → IfOk r (λ n. n ≡ (length old, true)) → OnOk r (new ≡ old ++ k ∷ []) → IfOk r (λ n. n.0 < length new)
  entered_within (Ok n) e h =
      let s : n.0 ≡ length old = ap (λ m. m.0) e in
      let l = ap length h ∙ length-append old (k ∷ []) in
      omega (arith, s, l)
  entered_within (Err e) _ h = tt

  pub entered_added : (r : Result (ℕ × Bool) E) → place (eq k) old ≡ None → IfOk r (λ n. n ≡ (length old, true)) → IfOk r (λ n. n.1 ≡ not (list_any (eq k) old))
  entered_added (Ok n) none h = ap (λ m. m.1) h ∙ added-new eq k old none
  entered_added (Err e) none h = tt

  pub entered_places : (P : List T → Type 0) (r : Result (ℕ × Bool) E) {A : Type 0} {B : Type 0} → OnOk r (new ≡ old ++ k ∷ []) → OnOk r A
      → OnErr r ((new ≡ old) × B) → (A → P (old ++ k ∷ [])) → (B → P old) → P new
  entered_places P (Ok n) h a b f g = subst P (sym h) (f a)
  entered_places P (Err e) h a b f g = subst P (sym b.0) (g b.1)
