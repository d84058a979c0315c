-- The lists of some scopes.
use Rattle.std.proofs.Common.{◌≡◌, ℕ, zero, suc, ◌+◌, ◌-◌, ◌<◌, Option, None, ◌≤◌, refl, sym, ap, ◌∙◌, subst, arith, List, [], ◌∷◌, ◌++◌, length, Some, length-append, ◌⊎◌, ⊎_elim, inl, inr, Bool, true, false, cond}
use Rattle.std.specs.Prelude.{slice_get, unwrap_or, nat_eq, ◌&&◌, Result, Ok, Err, IfOk, OnOk, OnErr}
use Rattle.std.specs.Map.{lookup}
use Rattle.std.specs.Ordering.{is_eq}
use Rattle.std.specs.BTreeMap.{BTreeMap, is_at, Updates}
use Rattle.std.proofs.lemmas.Cmp.{tied_itself}
use Rattle.std.proofs.lemmas.Option.{slice_get_within, slice_get-get_or, unwrap_or-slice_get, same_Some}
use Rattle.std.proofs.lemmas.Bool.{eqb-true}
use Rattle.hol_type.specs.declared.table.TypeId.{TypeId}
use Rattle.hol_term.specs.declared.scopes.Scope.{Scope}
use Rattle.hol_term.specs.contracts.scopes.ScopeOrd.TheImpl.Laws.{matches_eq-law, total-law}
use Rattle.hol_term.specs.Scopes.{list_in, lists_from, lists_of, scope_cmp, place_in, AreInner, ArePlaced, KeepsLists, AddsList}
use Rattle.hol_term.proofs.EntryLaws.{slice_get-last, slice_get-one_more}
use Rattle.std.proofs.lemmas.Bool.{and_parts}
use Rattle.hol_laws.specs.PlaceLaws.{slice_get-append}

-- a list that has a number is the number's
pub list_in-Some : (ls : List (List TypeId)) (i : ℕ) → i < length ls → slice_get ls i ≡ Some (list_in ls i)
list_in-Some ls i h = slice_get-get_or ls i [] h ∙ ap Some (sym (unwrap_or-slice_get ls i []))

pub Some-list_in : (ls : List (List TypeId)) (i : ℕ) (l : List TypeId) → slice_get ls i ≡ Some l → list_in ls i ≡ l
Some-list_in ls i l e = ap (λ o. unwrap_or o []) e

pub KeepsLists-refl : (ls : List (List TypeId)) → KeepsLists ls ls
KeepsLists-refl ls = record { each = λ i l e. e }

pub KeepsLists-trans : {a b c : List (List TypeId)} → KeepsLists a b → KeepsLists b c → KeepsLists a c
KeepsLists-trans h k = record { each = λ i l e. k.each i l (h.each i l e) }

KeepsLists-append : (ls ms : List (List TypeId)) → KeepsLists ls (ls ++ ms)
KeepsLists-append ls ms = record { each = slice_get-append ls ms }

-- a list that is kept keeps its number
pub list_in-Keeps : {a b : List (List TypeId)} → KeepsLists a b → (i : ℕ) → i < length a → list_in a i ≡ list_in b i
list_in-Keeps {a = a} {b = b} k i h = sym (Some-list_in b i (list_in a i) (k.each i (list_in a i) (list_in-Some a i h)))

pub within-Keeps : {a b : List (List TypeId)} → KeepsLists a b → (i : ℕ) → i < length a → i < length b
within-Keeps {a = a} {b = b} k i h = slice_get_within b i (list_in a i) (k.each i (list_in a i) (list_in-Some a i h))

lists_from-append : (ls : List (List TypeId)) (ss : List Scope) (s : Scope) → lists_from ls (ss ++ s ∷ []) ≡ lists_from ls ss
    ++ (s.ty ∷ list_in (lists_from ls ss) s.outer.0) ∷ []
lists_from-append ls [] s = refl
lists_from-append ls (r ∷ ss) s = lists_from-append (ls ++ (r.ty ∷ list_in ls r.outer.0) ∷ []) ss s

length-lists_from : (ls : List (List TypeId)) (ss : List Scope) → length (lists_from ls ss) ≡ length ls + length ss
length-lists_from ls [] = omega arith
length-lists_from ls (s ∷ ss) = omega
    (arith, length-lists_from (ls ++ (s.ty ∷ list_in ls s.outer.0) ∷ []) ss, length-append ls ((s.ty ∷ list_in ls s.outer.0) ∷ []))

pub length-lists_of : (ss : List Scope) → length (lists_of ss) ≡ 1 + length ss
length-lists_of ss = length-lists_from ([] ∷ []) ss

KeepsLists-lists_from : (ls : List (List TypeId)) (ss : List Scope) → KeepsLists ls (lists_from ls ss)
KeepsLists-lists_from ls [] = KeepsLists-refl ls
KeepsLists-lists_from ls (s ∷ ss) = KeepsLists-trans (KeepsLists-append ls ((s.ty ∷ list_in ls s.outer.0) ∷ []))
    (KeepsLists-lists_from (ls ++ (s.ty ∷ list_in ls s.outer.0) ∷ []) ss)

-- no scope has the first list, which is empty
pub list_in-none : (ss : List Scope) → list_in (lists_of ss) 0 ≡ []
list_in-none ss = Some-list_in (lists_of ss) 0 [] ((KeepsLists-lists_from ([] ∷ []) ss).each 0 [] refl)

-- a scope's list, after so many others
list_from : (ls : List (List TypeId)) (ss : List Scope) (j : ℕ) (s : Scope) → slice_get ss j ≡ Some s → s.outer.0 < length ls + j
    → slice_get (lists_from ls ss) (length ls + j) ≡ Some (s.ty ∷ list_in (lists_from ls ss) s.outer.0)
list_from ls [] j s e h = absurd (cc)
list_from ls (r ∷ ss) zero s e h =
    let z : length ls + 0 ≡ length ls = omega arith in
    let same : r ≡ s = same_Some _ _ e in
    let added = (r.ty ∷ list_in ls r.outer.0) ∷ [] in
    let lt : r.outer.0 < length ls = omega (arith, h, ap (λ (w : Scope). w.outer.0) same) in
    let k = KeepsLists-lists_from ls (r ∷ ss) in
    ap (slice_get (lists_from ls (r ∷ ss))) z
    ∙ (KeepsLists-lists_from (ls ++ added) ss).each (length ls) (r.ty ∷ list_in ls r.outer.0) (slice_get-last ls (r.ty ∷ list_in ls r.outer.0))
    ∙ ap (λ l. Some (r.ty ∷ l)) (list_in-Keeps k r.outer.0 lt)
    ∙ ap (λ (w : Scope). Some (w.ty ∷ list_in (lists_from ls (r ∷ ss)) w.outer.0)) same
list_from ls (r ∷ ss) (suc j) s e h =
    let ms = ls ++ (r.ty ∷ list_in ls r.outer.0) ∷ [] in
    let z : length ms + j ≡ length ls + suc j = omega (arith, length-append ls ((r.ty ∷ list_in ls r.outer.0) ∷ [])) in
    let lt : s.outer.0 < length ms + j = omega (arith, h, z) in
    ap (slice_get (lists_from ms ss)) (sym z) ∙ list_from ms ss j s e lt

-- the list of each scope
pub lists_of-Some : (ss : List Scope) (i : ℕ) (s : Scope) → AreInner ss → slice_get ss i ≡ Some s → slice_get (lists_of ss) (i + 1)
    ≡ Some (s.ty ∷ list_in (lists_of ss) s.outer.0)
lists_of-Some ss i s h e =
    let z : i + 1 ≡ 1 + i = omega arith in
    let lt : s.outer.0 < 1 + i = omega (arith, h.each i s e) in
    ap (slice_get (lists_of ss)) z ∙ list_from ([] ∷ []) ss i s e lt

-- scopes that are equal in their order are one
scope_cmp-same : (s t : Scope) → is_eq (scope_cmp s t) ≡ true → s ≡ t
scope_cmp-same s t h =
    let e : (nat_eq s.outer.0 t.outer.0 && nat_eq s.ty.0 t.ty.0) ≡ true = matches_eq-law s t ∙ h in
    let a = and_parts (nat_eq s.outer.0 t.outer.0) (nat_eq s.ty.0 t.ty.0) e in
    let x = eqb-true s.outer.0 t.outer.0 a.0 in
    let y = eqb-true s.ty.0 t.ty.0 a.1 in
    λ i. record { outer = record { 0 = x i }; ty = record { 0 = y i } }

-- scopes that have their places, once one more is put last
pub ArePlaced-more : (ss : List Scope) (old new : Scope → Option ℕ) (s : Scope) → ArePlaced ss old → old s ≡ None
    → ((t : Scope) → new t ≡ cond (is_eq (scope_cmp s t)) (Some (length ss)) (old t)) → ArePlaced (ss ++ s ∷ []) new
ArePlaced-more ss old new s h none updates = record { each = each; told = told }
  where
    same : (t : Scope) → is_eq (scope_cmp s t) ≡ true → new t ≡ Some (length ss)
    same t e = updates t ∙ ap (λ b. cond b (Some (length ss)) (old t)) e

    other : (t : Scope) → is_eq (scope_cmp s t) ≡ false → new t ≡ old t
    other t e = updates t ∙ ap (λ b. cond b (Some (length ss)) (old t)) e

    old_each : (i : ℕ) (t : Scope) → slice_get ss i ≡ Some t → (b : Bool) → is_eq (scope_cmp s t) ≡ b → new t ≡ Some i
    old_each i t at true e = absurd (let w = sym none ∙ ap old (scope_cmp-same s t e) ∙ h.each i t at in cc)
    old_each i t at false e = other t e ∙ h.each i t at

    each : (i : ℕ) (t : Scope) → slice_get (ss ++ s ∷ []) i ≡ Some t → new t ≡ Some i
    each i t at = ⊎_elim
        (λ k. old_each i t k (is_eq (scope_cmp s t)) refl)
        (λ k. ap new (sym k.1) ∙ same s (ap is_eq (tied_itself total-law s)) ∙ ap Some (sym k.0))
        (slice_get-one_more ss s t i at)

    told_by : (i : ℕ) (t : Scope) → new t ≡ Some i → (b : Bool) → is_eq (scope_cmp s t) ≡ b → slice_get (ss ++ s ∷ []) i ≡ Some t
    told_by i t k true e = ap (slice_get (ss ++ s ∷ [])) (sym (same_Some (length ss) i (sym (same t e) ∙ k))) ∙ slice_get-last ss s ∙ ap Some
        (scope_cmp-same s t e)
    told_by i t k false e = slice_get-append ss (s ∷ []) i t (h.told i t (sym (other t e) ∙ k))

    told : (i : ℕ) (t : Scope) → new t ≡ Some i → slice_get (ss ++ s ∷ []) i ≡ Some t
    told i t k = told_by i t k (is_eq (scope_cmp s t)) refl

-- scopes after one more was put last, or memory was wanting
pub put-at : {E : Type 0} (ss new : List Scope) (s : Scope) (r : Result ℕ E) → IfOk r (λ p. p ≡ length ss) → OnOk r (new ≡ ss ++ s ∷ [])
    → IfOk r (λ p. slice_get new p ≡ Some s)
put-at ss new s (Ok p) e q = ap (λ l. slice_get l p) q ∙ ap (slice_get (ss ++ s ∷ [])) e ∙ slice_get-last ss s
put-at ss new s (Err m) e q = tt

pub put-adds : {E : Type 0} (ss new : List Scope) (old now : BTreeMap Scope ℕ) (s : Scope) (r : Result ℕ E) → OnOk r (new ≡ ss ++ s ∷ [])
    → OnErr r ((new ≡ ss) × (now.entries ≡ old.entries)) → (new ≡ ss) ⊎ (new ≡ ss ++ s ∷ [])
put-adds ss new old now s (Ok p) q u = inr q
put-adds ss new old now s (Err m) q u = inl u.0

pub put-placed : {E : Type 0} (ss new : List Scope) (old now : BTreeMap Scope ℕ) (s : Scope) (r : Result ℕ E) → ArePlaced ss (place_in old) → place_in old s
    ≡ None → OnOk r (new ≡ ss ++ s ∷ []) → OnOk r (Updates scope_cmp old now s (Some (length ss))) → OnErr r ((new ≡ ss) × (now.entries ≡ old.entries))
    → ArePlaced new (place_in now)
put-placed ss new old now s (Ok p) t none q k u = subst (λ l. ArePlaced l (place_in now)) (sym q) (ArePlaced-more ss (place_in old) (place_in now) s t none k.0)
put-placed ss new old now s (Err m) t none q k u =
    subst (λ l. ArePlaced l (place_in now)) (sym u.0) (subst (λ (l : List (Scope × ℕ)). ArePlaced ss (λ t. lookup (is_at (scope_cmp t)) l)) (sym u.1) t)

-- scopes among which one is put
pub record Entered (ss new : List Scope) (s : Scope) : Type 0 where
  pub inner : AreInner new
  pub keeps : KeepsLists (lists_of ss) (lists_of new)
  pub adds : AddsList (lists_of ss) (lists_of new) (s.ty ∷ list_in (lists_of ss) s.outer.0)

pub same_scopes : (ss new : List Scope) (s : Scope) → AreInner ss → new ≡ ss → Entered ss new s
same_scopes ss new s h e = subst (λ w. Entered ss w s) (sym e)
    (record { inner = h; keeps = KeepsLists-refl (lists_of ss); adds = record { each = λ i l at. inl at } })

pub entered : (ss new : List Scope) (s : Scope) → AreInner ss → s.outer.0 < length (lists_of ss) → (new ≡ ss) ⊎ (new ≡ ss ++ s ∷ []) → Entered ss new s
entered ss new s h lt q = ⊎_elim (λ e. same_scopes ss new s h e) (λ e. subst (λ w. Entered ss w s) (sym e) grown) q
  where
    list : List TypeId
    list = s.ty ∷ list_in (lists_of ss) s.outer.0

    inner_last : (i : ℕ) (r : Scope) → slice_get (ss ++ s ∷ []) i ≡ Some r → r.outer.0 ≤ i
    inner_last i r at = ⊎_elim
        (λ old. h.each i r old)
        (λ last. omega (arith, lt, length-lists_of ss, last.0, ap (λ (w : Scope). w.outer.0) last.1))
        (slice_get-one_more ss s r i at)

    adds_last : (i : ℕ) (l : List TypeId) → slice_get (lists_of ss ++ list ∷ []) i ≡ Some l → (slice_get (lists_of ss) i ≡ Some l) ⊎ (l ≡ list)
    adds_last i l at = ⊎_elim (λ old. inl old) (λ last. inr (sym last.1)) (slice_get-one_more (lists_of ss) list l i at)

    grown : Entered ss (ss ++ s ∷ []) s
    grown = record {
      inner = record { each = inner_last };
      keeps = subst (KeepsLists (lists_of ss)) (sym (lists_from-append ([] ∷ []) ss s)) (KeepsLists-append (lists_of ss) (list ∷ []));
      adds = subst (λ ls. AddsList (lists_of ss) ls list) (sym (lists_from-append ([] ∷ []) ss s)) (record { each = adds_last });
    }

-- the list of the scope that was put
pub entered_at : (ss new : List Scope) (s : Scope) (r : ℕ) → Entered ss new s → s.outer.0 < length (lists_of ss) → slice_get new r ≡ Some s
    → slice_get (lists_of new) (r + 1) ≡ Some (s.ty ∷ list_in (lists_of ss) s.outer.0)
entered_at ss new s r e lt at = lists_of-Some new r s e.inner at ∙ ap (λ l. Some (s.ty ∷ l)) (sym (list_in-Keeps e.keeps s.outer.0 lt))

-- the innermost binder of a number's list, with those round it
module _ (ss : List Scope) (n : ℕ) (h : AreInner ss) (lt : n < length (lists_of ss)) (some : n ≡ 0 → ⊥) where
  same_number : (n - 1) + 1 ≡ n
  same_number = omega (arith, some)

  pub innermost_within : n - 1 < length ss
  innermost_within = omega (arith, lt, length-lists_of ss, some)

  pub innermost_list : (s : Scope) → slice_get ss (n - 1) ≡ Some s → list_in (lists_of ss) n ≡ s.ty ∷ list_in (lists_of ss) s.outer.0
  innermost_list s e =
      let at = lists_of-Some ss (n - 1) s h e in
      Some-list_in (lists_of ss) n (s.ty ∷ list_in (lists_of ss) s.outer.0) (ap (slice_get (lists_of ss)) (sym same_number) ∙ at)

  pub innermost_outer : (s : Scope) → slice_get ss (n - 1) ≡ Some s → s.outer.0 < n
  innermost_outer s e = omega (arith, h.each (n - 1) s e, some)
