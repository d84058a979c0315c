-- Trees under numbers, each once and after its direct parts, as in a table: from the last to the first they are descending, so one pass over the
-- numbers, downwards, counts places.
use Rattle.std.proofs.Common.{◌≡◌, ◌<◌, ◌≤◌, ℕ, zero, suc, inl, inr, refl, sym, ap, subst, ◌∙◌, Bool, true, false, List, [], ◌∷◌, ◌++◌, length, Some, arith}
use Rattle.std.specs.Prelude.{min, ◌||◌, ◌⊎◌, slice_get}
use Rattle.std.specs.List.{flat_map}
use Rattle.std.specs.Option.{unwrap_or}
use Rattle.lp_spec.specs.Trees.{Tree, SortType, SortKind, Var, Sym, App, Lam, Pi, tree_eq}
use Rattle.lp_binding_laws.specs.TreeEquality.{tree_eq-refl, tree_eq-true}
use Rattle.share_spec.specs.Folded.{parts, places, is_in}
use Rattle.share_laws.specs.WrittenOnceLaws.{in-either, in-one, in-places, in-left, in-right}
use Rattle.share_laws.specs.PlacesByNodes.{direct, total, passed, AreDescending, passed-places}

-- the number's tree
abbrev pub at : List Tree → ℕ → Tree
at ts i = unwrap_or (slice_get ts i) SortType

-- each tree has one number, and each that has one below the top has one above those of its direct parts
pub record AreNumbered (ts : List Tree) (top : ℕ) : Type 0 where
  pub within : top ≤ length ts
  pub distinct : (i j : ℕ) (t : Tree) → slice_get ts i ≡ Some t → slice_get ts j ≡ Some t → i ≡ j
  pub lower : (i : ℕ) (t p : Tree) → i < top → slice_get ts i ≡ Some t → is_in p (direct t) ≡ true → (j : ℕ) × (j < i) × (slice_get ts j ≡ Some p)

-- the trees of the numbers below n, from the last to the first
abbrev pub down : List Tree → ℕ → List Tree
down ts zero = []
down ts (suc n) = at ts n ∷ down ts n

at-get : (ts : List Tree) (i : ℕ) → i < length ts → slice_get ts i ≡ Some (at ts i)
at-get [] i h = absurd (omega arith)
at-get (t ∷ ts) zero h = refl
at-get (t ∷ ts) (suc i) h = at-get ts i (omega (arith, h))

get-below : (ts : List Tree) (i : ℕ) (t : Tree) → slice_get ts i ≡ Some t → i < length ts
get-below [] i t e = absurd (cc)
get-below (x ∷ xs) zero t e = omega arith
get-below (x ∷ xs) (suc i) t e = omega (arith, get-below xs i t e)

get-at : (ts : List Tree) (i : ℕ) (t : Tree) → slice_get ts i ≡ Some t → at ts i ≡ t
get-at ts i t e = ap (λ o. unwrap_or o SortType) e

-- what is among them has such a number, and the other way round
in-down : (ts : List Tree) (n : ℕ) (u : Tree) → n ≤ length ts → is_in u (down ts n) ≡ true → (j : ℕ) × (j < n) × (slice_get ts j ≡ Some u)
in-down ts zero u l h = absurd (cc)
in-down ts (suc n) u l h = go (tree_eq u (at ts n)) refl h (λ i. in-down ts n u (omega (arith, l)) i)
  where
    go : (b : Bool) → tree_eq u (at ts n) ≡ b → (b || is_in u (down ts n)) ≡ true → (is_in u (down ts n) ≡ true → (j : ℕ) × (j < n) × (slice_get ts j ≡ Some u))
        → (j : ℕ) × (j < suc n) × (slice_get ts j ≡ Some u)
    go true e i k = (n, omega arith, at-get ts n (omega (arith, l)) ∙ ap (λ t. Some t) (sym (tree_eq-true u (at ts n) e)))
    go false e i k = let r = k i in (r.0, omega (arith, r.1), r.2)

down-in : (ts : List Tree) (n i : ℕ) (u : Tree) → i < n → slice_get ts i ≡ Some u → is_in u (down ts n) ≡ true
down-in ts zero i u l e = absurd (omega (arith, l))
down-in ts (suc n) i u l e = go (tree_eq u (at ts n)) refl (λ k. down-in ts n i u k e)
  where
    go : (b : Bool) → tree_eq u (at ts n) ≡ b → (i < n → is_in u (down ts n) ≡ true) → (b || is_in u (down ts n)) ≡ true
    go true j k = refl
    go false j k = k (other j)
      where
        other : tree_eq u (at ts n) ≡ false → i < n
        other f = omega (arith, l, apart)
          where
            apart : i ≡ n → ⊥
            apart s = let r = ap (λ m. tree_eq u (at ts m)) s in let t = ap (λ y. tree_eq u y) (get-at ts i u e) ∙ tree_eq-refl u in cc

false-or : (b : Bool) → (b ≡ true → ⊥) → b ≡ false
false-or true h = absurd (h refl)
false-or false h = refl

module _ (ts : List Tree) (top : ℕ) (numbered : AreNumbered ts top) where
  alone : (n : ℕ) → n < top → is_in (at ts n) (down ts n) ≡ false
  alone n l = let w = numbered.within in false-or (is_in (at ts n) (down ts n))
      (λ h. let r = in-down ts n (at ts n) (omega (arith, l, w)) h in let s =
      numbered.distinct r.0 n (at ts n) r.2 (at-get ts n (omega (arith, l, w))) in omega (arith, s, r.1))

  no_part : (n j : ℕ) → n < top → j ≤ n → places (at ts n) (direct (at ts j)) ≡ 0
  no_part n j l k = let w = numbered.within in in-places (at ts n) (direct (at ts j)) (false-or (is_in (at ts n) (direct (at ts j))) (λ h.
      let r = numbered.lower j (at ts j) (at ts n) (omega (arith, l, k)) (at-get ts j (omega (arith, l, k, w))) h in
      let s = numbered.distinct r.0 n (at ts n) r.2 (at-get ts n (omega (arith, l, w))) in
      omega (arith, s, r.1, k)))

  none_of : (n m : ℕ) → n < top → m ≤ suc n → total (at ts n) (down ts m) ≡ 0
  none_of n zero l k = refl
  none_of n (suc m) l k = omega (arith, no_part n m l (omega (arith, k)), none_of n m l (omega (arith, k)))

  descending : (n : ℕ) → n ≤ top → AreDescending (down ts n)
  descending zero l = tt
  descending (suc n) l = (alone n (omega (arith, l)), none_of n (suc n) (omega (arith, l)) (omega arith), descending n (omega (arith, l)))

  own : (t w : Tree) (i : ℕ) → i < top → slice_get ts i ≡ Some t → is_in w (t ∷ []) ≡ true → is_in w (down ts top) ≡ true
  own t w i l e h = subst (λ y. is_in y (down ts top) ≡ true) (sym (tree_eq-true w t (in-one w t h))) (down-in ts top i t l e)

  first-is : (f x : Tree) → is_in f (f ∷ x ∷ []) ≡ true
  first-is f x = ap (λ b. b || (tree_eq f x || false)) (tree_eq-refl f)

  second-is : (f x : Tree) → is_in x (f ∷ x ∷ []) ≡ true
  second-is f x = in-right x (f ∷ []) (x ∷ []) (ap (λ b. b || false) (tree_eq-refl x))

  of_node : (t f x w : Tree) (i : ℕ) → i < top → slice_get ts i ≡ Some t → direct t ≡ f ∷ x ∷ []
      → (is_in w (parts f ++ parts x) ≡ true) ⊎ (is_in w (t ∷ []) ≡ true)
      → ((j : ℕ) → j < top → slice_get ts j ≡ Some f → is_in w (parts f) ≡ true → is_in w (down ts top) ≡ true)
      → ((j : ℕ) → j < top → slice_get ts j ≡ Some x → is_in w (parts x) ≡ true → is_in w (down ts top) ≡ true)
      → is_in w (down ts top) ≡ true
  of_node t f x w i l e d (inr h) p q = own t w i l e h
  of_node t f x w i l e d (inl h) p q = go (in-either w (parts f) (parts x) h)
    where
      go : (is_in w (parts f) ≡ true) ⊎ (is_in w (parts x) ≡ true) → is_in w (down ts top) ≡ true
      go (inl k) = let r = numbered.lower i t f l e (subst (λ l. is_in f l ≡ true) (sym d) (first-is f x)) in p r.0 (omega (arith, r.1, l)) r.2 k
      go (inr k) = let r = numbered.lower i t x l e (subst (λ l. is_in x l ≡ true) (sym d) (second-is f x)) in q r.0 (omega (arith, r.1, l)) r.2 k

  -- the parts of what has a number have one
  has_number : (t w : Tree) (i : ℕ) → i < top → slice_get ts i ≡ Some t → is_in w (parts t) ≡ true → is_in w (down ts top) ≡ true
  has_number (App f x) w i l e h = of_node (App f x) f x w i l e refl (in-either w (parts f ++ parts x) (App f x ∷ []) h) (λ j m k p. has_number f w j m k p)
      (λ j m k p. has_number x w j m k p)
  has_number (Lam a b) w i l e h = of_node (Lam a b) a b w i l e refl (in-either w (parts a ++ parts b) (Lam a b ∷ []) h) (λ j m k p. has_number a w j m k p)
      (λ j m k p. has_number b w j m k p)
  has_number (Pi a b) w i l e h = of_node (Pi a b) a b w i l e refl (in-either w (parts a ++ parts b) (Pi a b ∷ []) h) (λ j m k p. has_number a w j m k p)
      (λ j m k p. has_number b w j m k p)
  has_number SortType w i l e h = own SortType w i l e h
  has_number SortKind w i l e h = own SortKind w i l e h
  has_number (Var n) w i l e h = own (Var n) w i l e h
  has_number (Sym s) w i l e h = own (Sym s) w i l e h

  all_numbered : (roots : List Tree) (w : Tree) → ((r : Tree) → is_in r roots ≡ true → (i : ℕ) × (i < top) × (slice_get ts i ≡ Some r))
      → is_in w (flat_map parts roots) ≡ true → is_in w (down ts top) ≡ true
  all_numbered [] w h k = absurd (cc)
  all_numbered (r ∷ rs) w h k = go (in-either w (parts r) (flat_map parts rs) k) (λ i. all_numbered rs w (λ u j. h u (in-right u (r ∷ []) rs j)) i)
    where
      go : (is_in w (parts r) ≡ true) ⊎ (is_in w (flat_map parts rs) ≡ true) → (is_in w (flat_map parts rs) ≡ true → is_in w (down ts top) ≡ true)
          → is_in w (down ts top) ≡ true
      go (inl i) p = let n = h r (in-left r (r ∷ []) rs (ap (λ b. b || false) (tree_eq-refl r))) in has_number r w n.0 n.1 n.2 i
      go (inr i) p = p i

  -- One pass over the numbers, downwards, counts places up to two.
  pub counted-places : (roots : List Tree) → ((r : Tree) → is_in r roots ≡ true → (i : ℕ) × (i < top) × (slice_get ts i ≡ Some r)) → (t : Tree)
      → passed (down ts top) (λ u. min 2 (places u roots)) t ≡ min 2 (places t (flat_map parts roots))
  counted-places roots h t = passed-places roots (down ts top) (descending top (omega arith)) (λ w k. all_numbered roots w h k) t
