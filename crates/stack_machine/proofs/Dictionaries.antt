-- The dictionary as a finite map.
use Rattle.std.proofs.Common.{◌≡◌, ℤ, List, [], ◌∷◌, map, Bool, true, false, cond, Option, Some, None, option_map, refl, sym, ap, subst, ◌∙◌}
use Rattle.std.specs.Ordering.{int_cmp, is_eq, eq_by_cmp, match_ordering, ordering_reverse}
use Rattle.std.specs.declared.cmp.Ordering.{Ordering}
use Rattle.std.specs.declared.cmp.Ordering.TheVariants.{Less, Equal, Greater}
use Rattle.std.specs.Map.{lookup, remove_entry}
use Rattle.std.specs.BTreeMap.{is_at, insert_entry}
use Rattle.std.specs.FinMap as entry
use Rattle.std.specs.FinMap.{find, put}
use Rattle.std.specs.FinMap.Entries.{by_order, find-put}
use Rattle.std.specs.Cmp.{int_cmp_total}
use Rattle.std.proofs.Math.Path.{ap₂}
use Rattle.article_spec.specs.State as state
use Rattle.stack_machine.specs.declared.object.Object.{Object}
use Rattle.stack_machine.specs.Stored.{Stored, object_view, IsKnown, Grows}
use Rattle.stack_machine.specs.StoredLaws.{object_view-Grows, IsKnown-Grows}
use Rattle.stack_machine.specs.Shown.{dictionary_view, AreEntriesKnown}

module _ (m : Stored) where
  abbrev pairs : List (ℤ × Object) → List (ℤ × state.Object)
  pairs es = map (λ e. (e.0, object_view m e.1)) es

  either_value : (b : Bool) (x : Object) (o : Option state.Object) (q : Option Object) → o ≡ option_map (object_view m) q → cond b (Some (object_view m x)) o
      ≡ option_map (object_view m) (cond b (Some x) q)
  either_value true x o q e = refl
  either_value false x o q e = e

  find-pairs : (k : ℤ) (es : List (ℤ × Object)) → find int_cmp k (pairs es) ≡ option_map (object_view m) (lookup (is_at (int_cmp k)) es)
  find-pairs k [] = refl
  find-pairs k (e ∷ es) = either_value (eq_by_cmp int_cmp k e.0) e.1 (find int_cmp k (pairs es)) (lookup (is_at (int_cmp k)) es) (find-pairs k es)

  -- what a key stands for
  pub dictionary-get : (es : List (ℤ × Object)) (k : ℤ) → entry.get (dictionary_view m es) k ≡ option_map (object_view m) (lookup (is_at (int_cmp k)) es)
  dictionary-get es k = entry.get-from_entries int_cmp_total (pairs es) k ∙ find-pairs k es

  put-pairs : (es : List (ℤ × Object)) (k : ℤ) (x : Object) → pairs (insert_entry int_cmp es k x) ≡ put int_cmp k (object_view m x) (pairs es)
  put-pairs [] k x = refl
  put-pairs (e ∷ es) k x = by_cases (int_cmp k e.0) (put-pairs es k x)
    where
      by_cases : (r : Ordering) → pairs (insert_entry int_cmp es k x) ≡ put int_cmp k (object_view m x) (pairs es)
          → pairs (match_ordering r ((k, x) ∷ e ∷ es) ((e.0, x) ∷ es) (e ∷ insert_entry int_cmp es k x))
          ≡ by_order r ((k, object_view m x) ∷ pairs (e ∷ es)) ((e.0, object_view m x) ∷ pairs es)
          ((e.0, object_view m e.1) ∷ put int_cmp k (object_view m x) (pairs es))
      by_cases Less h = refl
      by_cases Equal h = refl
      by_cases Greater h = ap (λ zs. (e.0, object_view m e.1) ∷ zs) h

  find-put-pairs : (es : List (ℤ × Object)) (k q : ℤ) (x : Object) → find int_cmp q (pairs (insert_entry int_cmp es k x))
      ≡ cond (eq_by_cmp int_cmp q k) (Some (object_view m x)) (find int_cmp q (pairs es))
  find-put-pairs es k q x = ap (find int_cmp q) (put-pairs es k x) ∙ find-put int_cmp int_cmp_total q k (object_view m x) (pairs es)

  -- an entry more, or another in its place
  pub dictionary-insert : (es : List (ℤ × Object)) (k : ℤ) (x : Object) → dictionary_view m (insert_entry int_cmp es k x)
      ≡ entry.insert (dictionary_view m es) k (object_view m x)
  dictionary-insert es k x = entry.same_map int_cmp_total entry.int_cmp-IsAntisymmetric _ _
      (λ q. entry.get-from_entries int_cmp_total (pairs (insert_entry int_cmp es k x)) q ∙ find-put-pairs es k q x
      ∙ sym (entry.get-insert int_cmp_total (dictionary_view m es) k (object_view m x) q
      ∙ ap (cond (eq_by_cmp int_cmp q k) (Some (object_view m x))) (entry.get-from_entries int_cmp_total (pairs es) q)))

  -- an entry less
  turned : (r : Ordering) → is_eq (ordering_reverse r) ≡ is_eq r
  turned Less = refl
  turned Equal = refl
  turned Greater = refl

  same_either_way : (q k : ℤ) → eq_by_cmp int_cmp q k ≡ is_eq (int_cmp k q)
  same_either_way q k = ap is_eq (int_cmp_total.antisymm q k) ∙ turned (int_cmp k q)

  without_value : (b : Bool) (q : Option Object) → option_map (object_view m) (cond b None q) ≡ cond b None (option_map (object_view m) q)
  without_value true q = refl
  without_value false q = refl

  pub dictionary-remove : (es fs : List (ℤ × Object)) (k : ℤ)
      → ((q : ℤ) → lookup (is_at (int_cmp q)) fs ≡ cond (is_eq (int_cmp k q)) None (lookup (is_at (int_cmp q)) es)) → dictionary_view m fs
      ≡ entry.remove (dictionary_view m es) k
  dictionary-remove es fs k h = entry.same_map int_cmp_total entry.int_cmp-IsAntisymmetric _ _
      (λ q. dictionary-get fs q ∙ ap (option_map (object_view m)) (h q) ∙ without_value (is_eq (int_cmp k q)) (lookup (is_at (int_cmp q)) es)
      ∙ sym (entry.get-remove int_cmp_total (dictionary_view m es) k q ∙ ap₂ (λ b o. cond b None o) (same_either_way q k) (dictionary-get es q)))

-- what is known of the entries
pub known_found : (m : Stored) (p : ℤ → Bool) (es : List (ℤ × Object)) (x : Object) → AreEntriesKnown m es → lookup p es ≡ Some x → IsKnown m x
known_found m p [] x h e = absurd (cc)
known_found m p (f ∷ es) x h e = either (p f.0) e (known_found m p es x h.1)
  where
    either : (b : Bool) → cond b (Some f.1) (lookup p es) ≡ Some x → (lookup p es ≡ Some x → IsKnown m x) → IsKnown m x
    either true g r = let s : f.1 ≡ x = cc in subst (IsKnown m) s h.0
    either false g r = r g

pub known_inserted : (m : Stored) (es : List (ℤ × Object)) (k : ℤ) (x : Object) → AreEntriesKnown m es → IsKnown m x
    → AreEntriesKnown m (insert_entry int_cmp es k x)
known_inserted m [] k x h l = (l, tt)
known_inserted m (e ∷ es) k x h l = either (int_cmp k e.0) (known_inserted m es k x h.1 l)
  where
    either : (r : Ordering) → AreEntriesKnown m (insert_entry int_cmp es k x)
        → AreEntriesKnown m (match_ordering r ((k, x) ∷ e ∷ es) ((e.0, x) ∷ es) (e ∷ insert_entry int_cmp es k x))
    either Less r = (l, h)
    either Equal r = (l, h.1)
    either Greater r = (h.0, r)

pub known_removed : (m : Stored) (p : ℤ → Bool) (es : List (ℤ × Object)) → AreEntriesKnown m es → AreEntriesKnown m (remove_entry p es)
known_removed m p [] h = tt
known_removed m p (e ∷ es) h = either (p e.0) (known_removed m p es h.1)
  where
    either : (b : Bool) → AreEntriesKnown m (remove_entry p es) → AreEntriesKnown m (cond b es (e ∷ remove_entry p es))
    either true r = h.1
    either false r = (h.0, r)

-- entries stay
pub entries-Grow : {a b : Stored} → Grows a b → (es : List (ℤ × Object)) → AreEntriesKnown a es → AreEntriesKnown b es
entries-Grow h [] k = tt
entries-Grow h (e ∷ es) k = (IsKnown-Grows h e.1 k.0, entries-Grow h es k.1)

pairs-Grow : {a b : Stored} → Grows a b → (es : List (ℤ × Object)) → AreEntriesKnown a es → pairs a es ≡ pairs b es
pairs-Grow h [] k = refl
pairs-Grow h (e ∷ es) k = ap₂ (λ x xs. (e.0, x) ∷ xs) (object_view-Grows h e.1 k.0) (pairs-Grow h es k.1)

pub dictionary-Grows : {a b : Stored} → Grows a b → (es : List (ℤ × Object)) → AreEntriesKnown a es → dictionary_view a es ≡ dictionary_view b es
dictionary-Grows h es k = ap entry.from_entries (pairs-Grow h es k)
