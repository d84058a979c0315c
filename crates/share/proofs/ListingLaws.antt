-- The entries of a folded module, by numbers, one after another.
use Rattle.std.proofs.Common.{◌≡◌, ℕ, zero, suc, ◌+◌, ◌<◌, ◌≤◌, refl, sym, ap, subst, ◌∙◌, append_assoc, Bool, true, false, List, [], ◌∷◌, ◌++◌, length, map, take, drop, Option, Some, None, arith}
use Rattle.std.specs.Prelude.{◌&&◌, Result, Ok, Err, OnOk, min, if◌then◌else◌, nat_le, nat_eq, option_map, slice_get, slice_index_or, get_or}
use Rattle.std.specs.List.{filter}
use Rattle.std.specs.Option.{is_some, unwrap_or}
use Rattle.std.proofs.Math.Path.{ap₂}
use Rattle.std.proofs.lemmas.List.{append-nil, map-append, length-map, take-append-drop}
use Rattle.std.proofs.lemmas.List.Elements.{filter-append}
use Rattle.std.proofs.lemmas.Option.{same_Some, slice_get-get_or, slice_get-map}
use Rattle.indexmap.specs.IndexMap.{get}
use Rattle.lp_spec.specs.Trees.{Tree, SortType}
use Rattle.lp_spec.specs.Modules.{symbol, types, Declaration}
use Rattle.lp_spec.specs.ModuleOrder.{IsModule}
use Rattle.lp_term.specs.declared.LpId.{LpId}
use Rattle.lp_term.specs.Tables.{tree_at, trees_at, Holds, Keeps}
use Rattle.lp_term.specs.TableLaws.{tree_at-Holds, tree_at-Stays}
use Rattle.holide_sig.specs.declared.decls.Decl.{Decl}
use Rattle.holide_sig.specs.declared.module.Module.{Module}
use Rattle.holide_sig.specs.Modules.{declaration_in, declarations_of, IsHeld}
use Rattle.share_spec.specs.Abbreviations.{abbreviation}
use Rattle.share_spec.specs.Folded.{Entry, kept, abbreviated, abbreviations, entries, firsts, is_shared, parts_in, places}
use Rattle.share_laws.specs.FirstsByNodes.{Alike, IsClosed}
use Rattle.share_laws.specs.FoldedAbbreviations.{shared-whole}
use Rattle.share.specs.declared.listing.Listed.{Listed}
use Rattle.share.specs.declared.listing.Listed.TheVariants as listed
use Rattle.share.specs.declared.listing.Listing.{Listing}
use Rattle.share.specs.Counts.{Agrees}
use Rattle.share.specs.Asking.{IsAsking}
use Rattle.share.specs.Meetings.{visited_in, AreIdsBelow}
use Rattle.share.specs.Typings.{told, Tells}
use Rattle.share.specs.Listings.{counted, declaration_at, entries_in, entry_in, listed_from, shared_in, AddsOne, AreListed, IsListed, IsListing, ListsMore}
use Rattle.share.proofs.AskingLaws.{declarations-after}
use Rattle.share.proofs.CountLaws.{drop-next, drop-past}
use Rattle.share.proofs.MeetingLaws.{alike-declaration, closed-declaration, none-closed, trees-stay, visited-declaration}

take-suc : {X : Type 0} (xs : List X) (i : ℕ) (x : X) → slice_get xs i ≡ Some x → take (suc i) xs ≡ take i xs ++ x ∷ []
take-suc [] i x e = absurd (cc)
take-suc (y ∷ ys) zero x e = ap (λ z. z ∷ []) (same_Some _ _ e)
take-suc (y ∷ ys) (suc i) x e = ap (λ l. y ∷ l) (take-suc ys i x e)

take-next : {X : Type 0} (xs : List X) (i : ℕ) (x : X) → slice_get xs i ≡ Some x → take (i + 1) xs ≡ take i xs ++ x ∷ []
take-next xs i x e = let n : i + 1 ≡ suc i = omega arith in ap (λ k. take k xs) n ∙ take-suc xs i x e

-- what an index gives
pub at-index : {X : Type 0} (xs : List X) (i : ℕ) (d : X) → i < length xs → slice_get xs i ≡ Some (slice_index_or xs i d)
at-index [] i d l = absurd (omega (arith, l))
at-index (x ∷ xs) zero d l = refl
at-index (x ∷ xs) (suc i) d l = at-index xs i d (omega (arith, l))

take-past : {X : Type 0} (xs : List X) (i : ℕ) → length xs ≤ i → take i xs ≡ xs
take-past [] zero l = refl
take-past [] (suc i) l = refl
take-past (x ∷ xs) zero l = absurd (omega (arith, l))
take-past (x ∷ xs) (suc i) l = ap (λ ys. x ∷ ys) (take-past xs i (omega (arith, l)))

-- Numbers of entries
listed-wider : (count n a b : ℕ) (e : Listed) → a ≤ b → IsListed count n a e → IsListed count n b e
listed-wider count n a b (listed.Kept i) l h = h
listed-wider count n a b (listed.Abbreviated body ty) l h = (h.0, omega (arith, l, h.1))

pub AreListed-wider : (count n a b : ℕ) (es : List Listed) → a ≤ b → AreListed count n a es → AreListed count n b es
AreListed-wider count n a b [] l h = tt
AreListed-wider count n a b (e ∷ es) l h = (listed-wider count n a b e l h.0, AreListed-wider count n a b es l h.1)

bodies-wider : (count k a b : ℕ) (e : Listed) → a ≤ b → IsListed count a k e → IsListed count b k e
bodies-wider count k a b (listed.Kept i) l h = h
bodies-wider count k a b (listed.Abbreviated body ty) l h = (omega (arith, l, h.0), h.1)

pub AreListed-bodies : (count k a b : ℕ) (es : List Listed) → a ≤ b → AreListed count a k es → AreListed count b k es
AreListed-bodies count k a b [] l h = tt
AreListed-bodies count k a b (e ∷ es) l h = (bodies-wider count k a b e l h.0, AreListed-bodies count k a b es l h.1)

pub AreListed-append : (count n k : ℕ) (es : List Listed) (e : Listed) → AreListed count n k es → IsListed count n k e → AreListed count n k (es ++ e ∷ [])
AreListed-append count n k [] e h i = (i, tt)
AreListed-append count n k (x ∷ xs) e h i = (h.0, AreListed-append count n k xs e h.1 i)

-- the first of them, and one more
pub AreListed-next : (count n a b i : ℕ) (es : List Listed) (e : Listed) → slice_get es i ≡ Some e → a ≤ b → AreListed count n a (take i es)
    → IsListed count n b e → AreListed count n b (take (i + 1) es)
AreListed-next count n a b i es e f l h k = subst (AreListed count n b) (sym (take-next es i e f))
    (AreListed-append count n b (take i es) e (AreListed-wider count n a b (take i es) l h) k)

pub AreListed-all : (count n k i : ℕ) (es : List Listed) → length es ≤ i → AreListed count n k (take i es) → AreListed count n k es
AreListed-all count n k i es l h = subst (AreListed count n k) (take-past es i l) h

pub AreListed-at : (count n k : ℕ) (es : List Listed) (i : ℕ) (e : Listed) → AreListed count n k es → slice_get es i ≡ Some e → IsListed count n k e
AreListed-at count n k [] i e h f = absurd (cc)
AreListed-at count n k (x ∷ xs) zero e h f = subst (IsListed count n k) (same_Some _ _ f) h.0
AreListed-at count n k (x ∷ xs) (suc i) e h f = AreListed-at count n k xs i e h.1 f

pub AreIdsBelow-at : (n : ℕ) (ids : List LpId) (i : ℕ) (id : LpId) → AreIdsBelow n ids → slice_get ids i ≡ Some id → id.0 < n
AreIdsBelow-at n [] i id h f = absurd (cc)
AreIdsBelow-at n (x ∷ xs) zero id h f = subst (λ (y : LpId). y.0 < n) (same_Some _ _ f) h.0
AreIdsBelow-at n (x ∷ xs) (suc i) id h f = AreIdsBelow-at n xs i id h.1 f

-- A grown table
entry-stays : (m : List Declaration) (old new : List Tree) (count n : ℕ) (e : Listed) → Keeps old new → n ≤ length old → IsListed count n (length old) e
    → entry_in m new e ≡ entry_in m old e
entry-stays m old new count n (listed.Kept i) k l h = refl
entry-stays m old new count n (listed.Abbreviated body ty) k l h =
    ap₂ abbreviated (sym (tree_at-Stays k.stays body.0 (omega (arith, h.0, l)))) (sym (tree_at-Stays k.stays ty.0 h.1))

pub entries-stay : (m : List Declaration) (old new : List Tree) (count n : ℕ) (es : List Listed) → Keeps old new → n ≤ length old
    → AreListed count n (length old) es → entries_in m new es ≡ entries_in m old es
entries-stay m old new count n [] k l h = refl
entries-stay m old new count n (e ∷ es) k l h = ap₂ (λ x xs. x ∷ xs) (entry-stays m old new count n e k l h.0) (entries-stay m old new count n es k l h.1)

pub Agrees-Keeps : (old new : List Tree) (counts : List ℕ) (c : Tree → ℕ) → Keeps old new → length counts ≤ length old → Agrees old counts c
    → Agrees new counts c
Agrees-Keeps old new counts c k l a i t h m =
    let here : Holds old i (tree_at old i) = tree_at-Holds old i (omega (arith, m, l)) in
    let same : tree_at old i ≡ t = same_Some _ _ (sym (k.stays.each i (tree_at old i) here) ∙ h) in
    a i (tree_at old i) here m ∙ ap c same

-- One tree
two-counted : (n : ℕ) → nat_le 2 (min 2 n) ≡ nat_le 2 n
two-counted zero = refl
two-counted (suc zero) = refl
two-counted (suc (suc n)) = let e : min 2 (suc (suc n)) ≡ 2 = omega arith in ap (nat_le 2) e ∙ sym (many n)
  where
    many : (n : ℕ) → nat_le 2 (suc (suc n)) ≡ true
    many n = grind arith

twice-places : (ts : List Tree) (counts : List ℕ) (all : List Tree) (id : LpId) (b r : Bool) → length counts ≤ length ts → id.0 < length counts → r
    ≡ nat_le 2 (get_or counts id.0 0) → r ≡ b → Agrees ts counts (counted all)
    → nat_le 2 (places (tree_at ts id.0) all) ≡ b
twice-places ts counts all id b r l m e f a =
    sym (two-counted (places (tree_at ts id.0) all)) ∙ ap (nat_le 2) (sym (a id.0 (tree_at ts id.0) (tree_at-Holds ts id.0 (omega (arith, l, m))) m)) ∙ sym e
    ∙ f

shared-is : (m : List Declaration) (all : List Tree) (t : Tree) (o : Option Tree) (b : Bool) → abbreviation m t ≡ o → nat_le 2 (places t all) ≡ b
    → shared_in m all (t ∷ []) ≡ abbreviations m (if is_some o && b then t ∷ [] else [])
shared-is m all t o b e f = ap₂ (λ p c. abbreviations m (if is_some p && c then t ∷ [] else [])) e f

shared-not : (m : List Declaration) (all : List Tree) (t : Tree) → nat_le 2 (places t all) ≡ false → shared_in m all (t ∷ []) ≡ []
shared-not m all t f = shared-is m all t (abbreviation m t) false refl f ∙ go (abbreviation m t)
  where
    go : (o : Option Tree) → abbreviations m (if is_some o && false then t ∷ [] else []) ≡ []
    go None = refl
    go (Some a) = refl

shared-none : (m : List Declaration) (all : List Tree) (t : Tree) → abbreviation m t ≡ None → shared_in m all (t ∷ []) ≡ []
shared-none m all t e = shared-is m all t None (nat_le 2 (places t all)) e refl

shared-some : (m : List Declaration) (all : List Tree) (t a : Tree) → abbreviation m t ≡ Some a → nat_le 2 (places t all) ≡ true → shared_in m all (t ∷ [])
    ≡ abbreviated t a ∷ []
shared-some m all t a e f = shared-is m all t (Some a) true e f ∙ ap (λ o. abbreviated t (unwrap_or o types) ∷ []) e

pub lists-nothing : (m : List Declaration) (old new : List Tree) (es : List Listed) (xs : List Entry) → entries_in m new es ≡ entries_in m old es → xs ≡ []
    → entries_in m new es ≡ entries_in m old es ++ xs
lists-nothing m old new es xs s e = s ∙ sym (append-nil (entries_in m old es)) ∙ ap (λ l. entries_in m old es ++ l) (sym e)

-- a tree that isn't twice there
pub lists-not : (m : List Declaration) (ts : List Tree) (es : List Listed) (counts : List ℕ) (id : LpId) (r : Bool) → length counts ≤ length ts
    → id.0 < length counts → r ≡ nat_le 2 (get_or counts id.0 0) → r ≡ false → (all : List Tree) → Agrees ts counts (counted all)
    → entries_in m ts es ≡ entries_in m ts es ++ shared_in m all (tree_at ts id.0 ∷ [])
lists-not m ts es counts id r l k e f all a = lists-nothing m ts ts es (shared_in m all (tree_at ts id.0 ∷ [])) refl
    (shared-not m all (tree_at ts id.0) (twice-places ts counts all id false r l k e f a))

-- what is told of its abbreviation is added
pub adds-none : (new : List Tree) (es : List Listed) (id : LpId) (o : Option LpId) (a : Option Tree) → o ≡ None → Tells new o a → AddsOne new es es id a
adds-none new es id o a e t = subst (AddsOne new es es id) (sym (ap (told new) e) ∙ t.1) refl

pub adds-some : (new : List Tree) (es es' : List Listed) (id ty : LpId) (o : Option LpId) (a : Option Tree) → o ≡ Some ty → Tells new o a → es' ≡ es
    ++ listed.Abbreviated id ty ∷ [] → AddsOne new es es' id a
adds-some new es es' id ty o a e t f =
    let w : Tells new (Some ty) a = subst (λ (y : Option LpId). Tells new y a) e t in
    subst (AddsOne new es es' id) w.1 (ty, w.0, refl, f)

-- a tree that is twice there
pub lists-one : (m : List Declaration) (old new : List Tree) (es es' : List Listed) (counts : List ℕ) (id : LpId) (r : Bool) → Keeps old new
    → length counts ≤ length old → id.0 < length counts → entries_in m new es ≡ entries_in m old es
    → r ≡ nat_le 2 (get_or counts id.0 0) → r ≡ true → AddsOne new es es' id (abbreviation m (tree_at old id.0)) → (all : List Tree)
    → Agrees old counts (counted all)
    → entries_in m new es' ≡ entries_in m old es ++ shared_in m all (tree_at old id.0 ∷ [])
lists-one m old new es es' counts id r k l n s g h adds all a = go (abbreviation m (tree_at old id.0)) refl adds
  where
    go : (o : Option Tree) → abbreviation m (tree_at old id.0) ≡ o → AddsOne new es es' id o → entries_in m new es' ≡ entries_in m old es
        ++ shared_in m all (tree_at old id.0 ∷ [])
    go None e f = ap (entries_in m new) f ∙ lists-nothing m old new es (shared_in m all (tree_at old id.0 ∷ [])) s (shared-none m all (tree_at old id.0) e)
    go (Some t) e f =
        ap (entries_in m new) f.3
        ∙ map-append (entry_in m new) es (listed.Abbreviated id f.0 ∷ [])
        ∙ ap₂ (λ x y. x ++ y ∷ []) s (ap₂ abbreviated (sym (tree_at-Stays k.stays id.0 (omega (arith, n, l)))) f.2)
        ∙ ap (λ l. entries_in m old es ++ l) (sym (shared-some m all (tree_at old id.0) t e (twice-places old counts all id true r l n g h a)))

pub listed-one : (count n : ℕ) (old new : List Tree) (es es' : List Listed) (id : LpId) (a : Option Tree) → Keeps old new → id.0 < n
    → AreListed count n (length old) es → AddsOne new es es' id a → AreListed count n (length new) es'
listed-one count n old new es es' id None k l h adds =
    subst (AreListed count n (length new)) (sym adds) (AreListed-wider count n (length old) (length new) es k.longer h)
listed-one count n old new es es' id (Some t) k l h adds =
    subst (AreListed count n (length new)) (sym adds.3)
    (AreListed-append count n (length new) es (listed.Abbreviated id adds.0) (AreListed-wider count n (length old) (length new) es k.longer h) (l, adds.1))

pub listing-after : (old new : Module) (n : ℕ) (before after : Listing) (id : LpId) (a : Option Tree) → new.decls ≡ old.decls → Keeps old.table new.table
    → id.0 < n → IsListing old n before → IsAsking new (get nat_eq after.answers) after.waiting
    → AddsOne new.table before.entries.items after.entries.items id a → IsListing new n after
listing-after old new n before after id a e k l h asking adds = record {
  asking = asking;
  within = (let w = h.within in let g = k.longer in omega (arith, w, g));
  known = subst (λ ds. AreListed (length ds) n (length new.table) after.entries.items) (sym e)
      (listed-one (length old.decls) n old.table new.table before.entries.items after.entries.items id a k l h.known adds);
}

-- Trees in order
pub shared-append : (m : List Declaration) (all xs ys : List Tree) → shared_in m all (xs ++ ys) ≡ shared_in m all xs ++ shared_in m all ys
shared-append m all xs ys = ap (abbreviations m) (filter-append (is_shared m all) xs ys) ∙ map-append (λ t. abbreviated t (unwrap_or (abbreviation m t) types))
    (filter (is_shared m all) xs) (filter (is_shared m all) ys)

-- one more of them
pub lists-next : (first old new : Module) (start before after : List Listed) (counts : List ℕ) (ids : List LpId) (i from : ℕ) (id : LpId) (all : List Tree)
    → old.decls ≡ first.decls → Keeps first.table old.table → IsHeld first → length counts ≤ length first.table
    → slice_get ids i ≡ Some id → id.0 < length counts → Agrees first.table counts (counted all)
    → (Agrees old.table counts (counted all) → ListsMore old new before after (shared_in (declarations_of old) all (tree_at old.table id.0 ∷ [])))
    → entries_in (declarations_of first) old.table before ++ shared_in (declarations_of first) all (trees_at first.table (drop i ids))
    ≡ entries_in (declarations_of first) first.table start ++ shared_in (declarations_of first) all (trees_at first.table (drop from ids))
    → entries_in (declarations_of first) new.table after ++ shared_in (declarations_of first) all (trees_at first.table (drop (i + 1) ids))
    ≡ entries_in (declarations_of first) first.table start ++ shared_in (declarations_of first) all (trees_at first.table (drop from ids))
lists-next first old new start before after counts ids i from id all d k h l e n a step done =
    let m = declarations_of first in
    let same : declarations_of old ≡ m = declarations-after first old d k h in
    let stays : tree_at old.table id.0 ≡ tree_at first.table id.0 = sym (tree_at-Stays k.stays id.0 (omega (arith, n, l))) in
    let one : entries_in m new.table after ≡ entries_in m old.table before ++ shared_in m all (tree_at first.table id.0 ∷ []) =
    subst (λ y. entries_in m new.table after ≡ entries_in m old.table before ++ shared_in m all (y ∷ [])) stays
    (subst (λ w. entries_in w new.table after ≡ entries_in w old.table before ++ shared_in w all (tree_at old.table id.0 ∷ [])) same
    (step (Agrees-Keeps first.table old.table counts (counted all) k l a))) in
    let next : suc i ≡ i + 1 = omega arith in
    let split : trees_at first.table (drop i ids) ≡ tree_at first.table id.0 ∷ trees_at first.table (drop (i + 1) ids) =
    ap (trees_at first.table) (drop-next ids i id e) ∙ ap (λ j. tree_at first.table id.0 ∷ trees_at first.table (drop j ids)) next in
    let rest = trees_at first.table (drop (i + 1) ids) in
    ap (λ x. x ++ shared_in m all rest) one
    ∙ append_assoc (entries_in m old.table before) (shared_in m all (tree_at first.table id.0 ∷ [])) (shared_in m all rest)
    ∙ ap (λ x. entries_in m old.table before ++ x) (sym (shared-append m all (tree_at first.table id.0 ∷ []) rest) ∙ ap (shared_in m all) (sym split))
    ∙ done

-- after the last of them
pub lists-last : (m : List Declaration) (old new : List Tree) (start after : List Listed) (ids : List LpId) (i from : ℕ) (all : List Tree) → length ids ≤ i
    → entries_in m new after ++ shared_in m all (trees_at old (drop i ids)) ≡ entries_in m old start ++ shared_in m all (trees_at old (drop from ids))
    → entries_in m new after ≡ entries_in m old start ++ shared_in m all (trees_at old (drop from ids))
lists-last m old new start after ids i from all l e =
    sym (append-nil (entries_in m new after)) ∙ ap (λ x. entries_in m new after ++ shared_in m all (trees_at old x)) (sym (drop-past ids i l)) ∙ e

-- DECLARATIONS: those before a number are listed, over trees that were met and are alike
abbrev pub ListedTo : Module → Module → List Listed → List Listed → List ℕ → List LpId → ℕ → ℕ → Type 0
ListedTo first now start listing counts order from i =
    let m = declarations_of first in
    IsModule m → (all : List Tree) → Agrees first.table counts (counted all) → (met : List Tree) × Alike (trees_at now.table order) met × IsClosed met
    × (entries_in m now.table listing ++ entries (take i m) all met (drop i m) ≡ entries_in m first.table start ++ listed_from m all from)

pub listed-first : (first : Module) (start : List Listed) (counts : List ℕ) (order : List LpId) (from : ℕ) → order ≡ []
    → ListedTo first first start start counts order from from
listed-first first start counts order from e a all g = ([], subst (λ o. Alike (trees_at first.table o) []) (sym e) (λ w. refl), none-closed, refl)

whole : (m : List Declaration) (i : ℕ) (d : Declaration) → slice_get m i ≡ Some d → take i m ++ d ∷ drop (i + 1) m ≡ m
whole m i d e = let n : suc i ≡ i + 1 = omega arith in ap (λ j. take i m ++ d ∷ drop j m) (sym n) ∙ ap (λ l. take i m ++ l) (sym (drop-next m i d e))
    ∙ take-append-drop i m

-- one more of them
pub listed-next : (first old new : Module) (start before after : List Listed) (counts : List ℕ) (order order' : List LpId) (from i : ℕ) → old.decls
    ≡ first.decls → Keeps first.table old.table → IsHeld first → length counts ≤ length first.table → i < length first.decls
    → ((all met : List Tree) (d : Declaration) → Agrees old.table counts (counted all) → Alike (trees_at old.table order) met → IsClosed met
    → slice_get (declarations_of old) i ≡ Some d → ListsMore old new before after
    (shared_in (declarations_of old) all (firsts met (parts_in d)) ++ kept d ∷ []))
    → ((met : List Tree) (d : Declaration) → Alike (trees_at old.table order) met → IsClosed met → slice_get (declarations_of old) i ≡ Some d
    → Alike (trees_at new.table order') (met ++ parts_in d))
    → ListedTo first old start before counts order from i → ListedTo first new start after counts order' from (i + 1)
listed-next first old new start before after counts order order' from i e k h l n more alike listed a all g =
    let m = declarations_of first in
    let same : declarations_of old ≡ m = declarations-after first old e k h in
    let so_far = listed a all g in
    let met = so_far.0 in
    let d = declaration_at m i in
    let at : slice_get m i ≡ Some d = at-number m i (omega (arith, n, length-map first.decls (declaration_in first.table))) in
    let at' : slice_get (declarations_of old) i ≡ Some d = subst (λ w. slice_get w i ≡ Some d) (sym same) at in
    let before' = take i m in
    let rest = drop (i + 1) m in
    let is : before' ++ d ∷ rest ≡ m = whole m i d at in
    let news = shared_in before' all (firsts met (parts_in d)) in
    let shared : shared_in m all (firsts met (parts_in d)) ≡ news =
    ap (λ w. shared_in w all (firsts met (parts_in d))) (sym is) ∙ shared-whole before' rest d all met (subst IsModule (sym is) a) in
    let one : entries_in m new.table after ≡ entries_in m old.table before ++ (news ++ kept d ∷ []) =
    subst (λ w. entries_in m new.table after ≡ entries_in m old.table before ++ (w ++ kept d ∷ [])) shared
    (subst (λ w. entries_in w new.table after ≡ entries_in w old.table before ++ (shared_in w all (firsts met (parts_in d)) ++ kept d ∷ [])) same
    (more all met d (Agrees-Keeps first.table old.table counts (counted all) k l g) so_far.1 so_far.2 at')) in
    let more_entries = entries (before' ++ d ∷ []) all (met ++ parts_in d) rest in
    let j : suc i ≡ i + 1 = omega arith in
    let split : entries before' all met (drop i m) ≡ news ++ kept d ∷ more_entries =
    ap (entries before' all met) (drop-next m i d at ∙ ap (λ q. d ∷ drop q m) j) in (
      met ++ parts_in d,
      alike met d so_far.1 so_far.2 at',
      closed-declaration met d so_far.2,
      ap₂ (λ x b. x ++ entries b all (met ++ parts_in d) rest) one (take-next m i d at)
          ∙ append_assoc (entries_in m old.table before) (news ++ kept d ∷ []) more_entries
          ∙ ap (λ x. entries_in m old.table before ++ x) (append_assoc news (kept d ∷ []) more_entries ∙ sym split)
          ∙ so_far.3,
    )
  where
    at-number : (m : List Declaration) (i : ℕ) → i < length m → slice_get m i ≡ Some (declaration_at m i)
    at-number [] i l = absurd (omega (arith, l))
    at-number (x ∷ xs) zero l = refl
    at-number (x ∷ xs) (suc i) l = at-number xs i (omega (arith, l))

-- after the last of them
pub listed-last : (first now : Module) (start listing : List Listed) (counts : List ℕ) (order : List LpId) (from i : ℕ) → length first.decls ≤ i
    → ListedTo first now start listing counts order from i
    → IsModule (declarations_of first) → (all : List Tree) → Agrees first.table counts (counted all)
    → ListsMore first now start listing (listed_from (declarations_of first) all from)
listed-last first now start listing counts order from i l h a all g =
    let m = declarations_of first in
    let so_far = h a all g in
    let none : drop i m ≡ [] = drop-past m i (omega (arith, l, length-map first.decls (declaration_in first.table))) in
    sym (append-nil (entries_in m now.table listing)) ∙ ap (λ x. entries_in m now.table listing ++ entries (take i m) all so_far.0 x) (sym none) ∙ so_far.3

-- A declaration: its trees, and itself
pub declaration-listed : (first new : Module) (start before after : List Listed) (all met : List Tree) (order order' : List LpId) (number from : ℕ)
    (d : Declaration) (x : Decl)
    → slice_get first.decls number ≡ Some x → slice_get (declarations_of first) number ≡ Some d → Alike (trees_at first.table order) met → IsClosed met → from
    ≡ length order → trees_at first.table order' ≡ visited_in (trees_at first.table order) (declaration_in first.table x)
    → ListsMore first new start before (shared_in (declarations_of first) all (trees_at first.table (drop from order'))) → after ≡ before
    ++ listed.Kept number ∷ [] → ListsMore first new start after (shared_in (declarations_of first) all (firsts met (parts_in d)) ++ kept d ∷ [])
declaration-listed first new start before after all met order order' number from d x e f h c n v more g =
    let m = declarations_of first in
    let ts = first.table in
    let same : declaration_in ts x ≡ d = same_declaration ts first.decls number x d e f in
    let seen : trees_at ts order' ≡ trees_at ts order ++ firsts met (parts_in d) =
    v ∙ ap (visited_in (trees_at ts order)) same ∙ visited-declaration (trees_at ts order) met d h c in
    let news : trees_at ts (drop from order') ≡ firsts met (parts_in d) =
    drop-trees ts from order' ∙ ap (drop from) seen ∙ drop-front (trees_at ts order) (firsts met (parts_in d)) from
    (n ∙ sym (length-map order (λ (id : LpId). tree_at ts id.0))) in
    ap (entries_in m new.table) g
    ∙ map-append (entry_in m new.table) before (listed.Kept number ∷ [])
    ∙ ap₂ (λ a o. a ++ kept (unwrap_or o (symbol [] SortType)) ∷ []) more f
    ∙ append_assoc (entries_in m ts start) (shared_in m all (trees_at ts (drop from order'))) (kept d ∷ [])
    ∙ ap (λ w. entries_in m ts start ++ (shared_in m all w ++ kept d ∷ [])) news
  where
    same_declaration : (ts : List Tree) (ds : List Decl) (i : ℕ) (x : Decl) (d : Declaration) → slice_get ds i ≡ Some x
        → slice_get (map (declaration_in ts) ds) i ≡ Some d → declaration_in ts x ≡ d
    same_declaration ts ds i x d e f = same_Some _ _ (sym (slice_get-map (declaration_in ts) ds i ∙ ap (option_map (declaration_in ts)) e) ∙ f)

    drop-trees : (ts : List Tree) (n : ℕ) (ids : List LpId) → trees_at ts (drop n ids) ≡ drop n (trees_at ts ids)
    drop-trees ts zero [] = refl
    drop-trees ts (suc n) [] = refl
    drop-trees ts zero (x ∷ xs) = refl
    drop-trees ts (suc n) (x ∷ xs) = drop-trees ts n xs

    drop-front : (xs ys : List Tree) (n : ℕ) → n ≡ length xs → drop n (xs ++ ys) ≡ ys
    drop-front [] ys zero e = refl
    drop-front [] ys (suc n) e = absurd (omega (arith, e))
    drop-front (x ∷ xs) ys zero e = absurd (omega (arith, e))
    drop-front (x ∷ xs) ys (suc n) e = drop-front xs ys n (omega (arith, e))

pub declaration-met : (first : Module) (new met : List Tree) (n : ℕ) (order order' : List LpId) (number : ℕ) (d : Declaration) (x : Decl)
    → slice_get first.decls number ≡ Some x → slice_get (declarations_of first) number ≡ Some d → Alike (trees_at first.table order) met → IsClosed met
    → trees_at first.table order' ≡ visited_in (trees_at first.table order) (declaration_in first.table x)
    → Keeps first.table new → n ≤ length first.table → AreIdsBelow n order' → Alike (trees_at new order') (met ++ parts_in d)
declaration-met first new met n order order' number d x e f h c v k l b =
    let ts = first.table in
    let same : declaration_in ts x ≡ d = same_Some _ _ (sym (slice_get-map (declaration_in ts) first.decls number ∙ ap (option_map (declaration_in ts)) e) ∙ f)
    in
    subst (λ w. Alike w (met ++ parts_in d)) (sym (trees-stay ts new n order' k l b ∙ v ∙ ap (visited_in (trees_at ts order)) same))
    (alike-declaration (trees_at ts order) met d h c)

-- The first declarations
pub kept-next : (m : List Declaration) (ts : List Tree) (i : ℕ) (es es' : List Listed) → es' ≡ es ++ listed.Kept i ∷ [] → i + 1 ≤ length m → entries_in m ts es
    ≡ map kept (take i m) → entries_in m ts es' ≡ map kept (take (i + 1) m)
kept-next m ts i es es' e l h =
    let at = slice_get-get_or m i (symbol [] SortType) (omega (arith, l)) in
    let is : declaration_at m i ≡ get_or m i (symbol [] SortType) = ap (λ o. unwrap_or o (symbol [] SortType)) at in
    ap (entries_in m ts) e
    ∙ map-append (entry_in m ts) es (listed.Kept i ∷ [])
    ∙ ap₂ (λ x y. x ++ kept y ∷ []) h is
    ∙ sym (map-append kept (take i m) (get_or m i (symbol [] SortType) ∷ []))
    ∙ ap (map kept) (sym (take-next m i (get_or m i (symbol [] SortType)) at))

pub kept-known : (n bodies types i : ℕ) (es es' : List Listed) → es' ≡ es ++ listed.Kept i ∷ [] → i + 1 ≤ n → AreListed n bodies types es
    → AreListed n bodies types es'
kept-known n bodies types i es es' e l h = subst (AreListed n bodies types) (sym e) (AreListed-append n bodies types es (listed.Kept i) h (omega (arith, l)))

pub on_ok_both : {T E : Type 0} (r : Result T E) (A B : Type 0) → OnOk r A → OnOk r B → OnOk r (A × B)
on_ok_both (Ok x) A B a b = (a, b)
on_ok_both (Err x) A B a b = tt
