-- The items that were looked at, from the last on.
use Rattle.std.proofs.Common.{◌≡◌, ◌⊎◌, ℕ, zero, suc, ◌<◌, ◌≤◌, List, [], ◌∷◌, ◌++◌, map, length, drop, Bool, true, false, ◌||◌, cond, Some, slice_get, inl, inr, refl, sym, ap, ◌∙◌, arith}
use Rattle.std.specs.Prelude.{slice_set, slice_index_or}
use Rattle.std.proofs.lemmas.List.{length-map, length-set, get_or-set_same, get_or-set_other}
use Rattle.hol_spec.specs.Terms.{bound}
use Rattle.translate_spec.specs.Items.{Item}
use Rattle.translate_spec.specs.MadeItems.{said_by, roots_of}
use Rattle.translate_spec.specs.Reach.{Key, number_key, is_wanted, needs, wanted_from, keep_of}
use Rattle.translate_reach.specs.declared.walk.Walk.{Walk}
use Rattle.translate_reach.specs.declared.items.Need.{Need}
use Rattle.translate_reach.specs.declared.items.Items.{Items}
use Rattle.translate_reach.specs.Reached.{flag, IsReach}
use Rattle.hol_rules.specs.Kept.{Kept}
use Rattle.translate_reach.specs.Walks.{is_reached}
use Rattle.translate_reach.specs.MadeItems.{unnamed, made_items, need_keys, needs_item, step_keys, AreItems, IsInOrder, IsWalkOf, WantsOf, IsLooked}
use Rattle.translate_reach.proofs.Looked.{symbol-at, there, keep-place, wanted-place, keep-past}
use Rattle.translate_reach.proofs.Unnamed.{count-unnamed, keep-unnamed}
use Rattle.translate_reach.proofs.Walked.{or-false, wanted-append}
use Rattle.translate_reach.proofs.Wanted.{number-is}

abbrev roots_in : Kept → List ℕ → List Key
roots_in p exports = roots_of unnamed p.made exports

-- the roots are the keys of the exports
pub roots-steps : (p : Kept) (ids : List ℕ) → step_keys p ids ≡ roots_of unnamed p.made ids
roots-steps p [] = refl
roots-steps p (id ∷ ids) =
    (λ i. number_key (sym (number-is (said_by (made_items p.made)) id (0, record { hypotheses = []; conclusion = bound 0 })) i) ∷ roots-steps p ids i)

-- where nothing is to be visited, what is reached is what is marked
pub reached-marked : (p : Kept) (w : Walk) → w.tasks ≡ [] → (x : Item) → is_reached p.trees w x ≡ flag w.marks.items x.symbol
reached-marked p w e x = ap (λ l. flag w.marks.items x.symbol || is_wanted (Rattle.translate_reach.specs.Walks.keys_in p.trees l) x) e ∙ or-false
    (flag w.marks.items x.symbol)

drop-all : {A : Type 0} (xs : List A) → drop (length xs) xs ≡ []
drop-all [] = refl
drop-all (x ∷ xs) = drop-all xs

slice-there : {A : Type 0} (xs : List A) (i : ℕ) → i < length xs → (x : A) × (slice_get xs i ≡ Some x)
slice-there [] i l = absurd (omega arith)
slice-there (x ∷ xs) zero l = (x, refl)
slice-there (x ∷ xs) (suc i) l = slice-there xs i (omega arith)

map-at : {A B C : Type 0} (f : A → C) (g : B → C) (xs : List A) (ys : List B) (i : ℕ) (d : A) (y : B) → map f xs ≡ map g ys → slice_get ys i ≡ Some y
    → f (slice_index_or xs i d) ≡ g y
map-at f g [] [] i d y e s = absurd (cc)
map-at f g (x ∷ xs) (z ∷ zs) zero d y e s = let same : z ≡ y = cc in let a : f x ≡ g z = cc in a ∙ ap g same
map-at f g (x ∷ xs) (z ∷ zs) (suc i) d y e s = let rest : map f xs ≡ map g zs = cc in map-at f g xs zs i d y rest s
map-at f g [] (z ∷ zs) i d y e s = absurd (cc)
map-at f g (x ∷ xs) [] i d y e s = absurd (cc)

module _ (p : Kept) (order : IsInOrder p) (exports : List ℕ) where
  abbrev items : List Item
  items = made_items p.made

  -- before any item was looked at
  pub looked-first : (first w : Walk) (flags : List Bool) → ((i : ℕ) → flag first.marks.items i ≡ false) → first.tasks ≡ [] → IsWalkOf p w
      → WantsOf p (step_keys p exports) first w → w.tasks ≡ [] → length flags ≡ length (made_items p.made)
      → ((i : ℕ) → flag flags i ≡ false) → IsLooked p exports w flags (length (made_items p.made))
  looked-first first w flags none empty walk wants tasks count unset = record {
    walk = walk;
    tasks = tasks;
    wanted = λ x i.
        sym (reached-marked p w tasks x) ∙ wants x i ∙ ap (λ b. b || is_wanted (step_keys p exports) x) (reached-marked p first empty x ∙ none x.symbol)
        ∙ ap (λ ks. is_wanted ks x) (roots-steps p exports ∙ sym (ap (wanted_from (roots_in p exports)) (drop-all items)));
    count = count;
    each = λ j l. unset j ∙ sym (keep-past items order (roots_in p exports) j l);
    within = omega arith;
  }

  -- and one item more
  module _ (w v : Walk) (flags : List Bool) (i j : ℕ) (h : IsLooked p exports w flags j) (e : j ≡ suc i) (keys : List Key) where
    pub looked-next : ((x : Item) → slice_get (made_items p.made) i ≡ Some x → needs x.content ≡ keys) → IsWalkOf p v → v.tasks ≡ []
        → WantsOf p (cond (flag w.marks.items i) keys []) w v → IsLooked p exports v (slice_set flags i (flag w.marks.items i)) i
    looked-next is walk tasks wants =
        let roots = roots_in p exports in
        let bound = h.within in
        let at = slice-there items i (omega (arith, bound, e)) in
        let x = at.0 in
        let number = symbol-at items order i x at.1 in
        let this : flag w.marks.items i ≡ is_wanted (wanted_from roots (drop (suc i) items)) x =
        ap (flag w.marks.items) (sym number) ∙ h.wanted x (there items order i x at.1) ∙ ap (λ k. is_wanted (wanted_from roots (drop k items)) x) e in
        record {
          walk = walk;
          tasks = tasks;
          wanted = λ y k.
              sym (reached-marked p v tasks y) ∙ wants y k
              ∙ (λ n. (reached-marked p w h.tasks y ∙ h.wanted y k ∙ ap (λ m. is_wanted (wanted_from roots (drop m items)) y) e) n || is_wanted
              (cond (flag w.marks.items i) keys []) y)
              ∙ after (flag w.marks.items i) (wanted_from roots (drop (suc i) items)) y
              ∙ (λ n. is_wanted (cond (this n) (wanted_from roots (drop (suc i) items) ++ sym (is x at.1) n) (wanted_from roots (drop (suc i) items))) y)
              ∙ ap (λ ks. is_wanted ks y) (sym (wanted-place items order roots i x at.1));
          count = length-set flags i (flag w.marks.items i) ∙ h.count;
          each = λ k l. known k (is_or_more i k l) x this at.1;
          within = omega (arith, bound, e);
        }
      where
        after : (b : Bool) (ks : List Key) (y : Item) → (is_wanted ks y || is_wanted (cond b keys []) y) ≡ is_wanted (cond b (ks ++ keys) ks) y
        after true ks y = sym (wanted-append ks keys y)
        after false ks y = or-false (is_wanted ks y)

        is_or_more : (i k : ℕ) → i ≤ k → (k ≡ i) ⊎ (suc i ≤ k)
        is_or_more i k l = grind arith

        known : (k : ℕ) → (k ≡ i) ⊎ (suc i ≤ k) → (x : Item) → flag w.marks.items i ≡ is_wanted (wanted_from (roots_in p exports) (drop (suc i) items)) x
            → slice_get items i ≡ Some x
            → flag (slice_set flags i (flag w.marks.items i)) k ≡ keep_of (roots_in p exports) items k
        known k (inl same) x this at =
            let bound = h.within in let n = h.count in
            ap (flag (slice_set flags i (flag w.marks.items i))) same ∙ get_or-set_same flags i (flag w.marks.items i) false (omega (arith, bound, e, n)) ∙ this
            ∙ sym (ap (keep_of (roots_in p exports) items) same ∙ keep-place items order (roots_in p exports) i x at)
        known k (inr l) x this at =
            get_or-set_other flags i k (flag w.marks.items i) false (λ s. omega (arith, l, s)) ∙ h.each k (omega (arith, l, e))

  -- once all were looked at
  pub looked-IsReach : (w : Walk) (flags : List Bool) → IsLooked p exports w flags 0 → IsReach flags p.made exports
  looked-IsReach w flags h = record {
    count = λ named. h.count ∙ count-unnamed unnamed named p.made;
    each = λ named i. h.each i (omega arith) ∙ keep-unnamed unnamed named p.made exports i;
  }

-- what is needed of an item is what it needs
pub needs-at : (p : Kept) (list : Items) → AreItems p list → (i : ℕ) (d : Need) (x : Item) → slice_get (made_items p.made) i ≡ Some x → needs x.content
    ≡ need_keys p (slice_index_or list.needs.items i d)
needs-at p list h i d x e = sym (map-at (need_keys p) needs_item list.needs.items (made_items p.made) i d x h.needs e)

pub needs-length : (p : Kept) (list : Items) → AreItems p list → length list.needs.items ≡ length (made_items p.made)
needs-length p list h = sym (length-map list.needs.items (need_keys p)) ∙ ap length h.needs ∙ length-map (made_items p.made) needs_item
