-- Where a shape is found as shapes come and go.
use Rattle.std.proofs.Common.{◌≡◌, ◌≢◌, ℕ, zero, suc, ◌<◌, refl, sym, ap, ◌∙◌, subst, arith, Bool, true, false, List, [], ◌∷◌, ◌++◌, length, Option, None, Some, length-append, take, ◌⊎◌, ⊎_elim, inl, inr}
use Rattle.std.specs.Prelude.{◌-◌, ◌^◌, ◌==◌, max, if◌then◌else◌, slice_get, slice_set}
use Rattle.std.proofs.lemmas.Bool.{eqb-true}
use Rattle.std.proofs.lemmas.Bool.Decides.{eqb_tells}
use Rattle.std.proofs.lemmas.List.{length-set, length-take}
use Rattle.std.proofs.lemmas.Option.{slice_get_within, same_Some}
use Rattle.lp_binding_laws.specs.LookUps.{slice_get-append, slice_get-one_more, slice_get-of_take}
use Rattle.lp_term.specs.declared.shape.Shape.{Shape}
use Rattle.lp_term.specs.declared.shape.Shape.TheVariants as shape
use Rattle.lp_term.specs.declared.shapes.Children.{Children}
use Rattle.lp_term.specs.declared.shapes.Slot.{Slot}
use Rattle.lp_term.specs.declared.shapes.Slot.TheVariants as slot
use Rattle.lp_term.specs.Shapes.{node_of}
use Rattle.lp_term.specs.Tables.{PartsBelow}
use Rattle.lp_term.specs.Indexed.{greater_part, nothing, no_children, with_child, IsChild, HasRoom, Has, Lacks, IsFull, IsWith, IsApart, IsIndexed, Finds, FindsOther}

-- an item of a list in which one was set
slice_get-set : {X : Type 0} (xs : List X) (p : ℕ) (x : X) → p < length xs → slice_get (slice_set xs p x) p ≡ Some x
slice_get-set [] p x h = absurd (omega (arith, h))
slice_get-set (y ∷ xs) zero x h = refl
slice_get-set (y ∷ xs) (suc p) x h = slice_get-set xs p x (omega (arith, h))

slice_get-set_other : {X : Type 0} (xs : List X) (p q : ℕ) (x : X) → q ≢ p → slice_get (slice_set xs p x) q ≡ slice_get xs q
slice_get-set_other [] p q x h = refl
slice_get-set_other (y ∷ xs) zero zero x h = absurd (h refl)
slice_get-set_other (y ∷ xs) zero (suc q) x h = refl
slice_get-set_other (y ∷ xs) (suc p) zero x h = refl
slice_get-set_other (y ∷ xs) (suc p) (suc q) x h = slice_get-set_other xs p q x (λ e. h (ap suc e))

-- the greater part of a node is one of its parts
pub greater_part-below : (n : ℕ) (s : Shape) (p : ℕ) → PartsBelow n (node_of s) → greater_part s ≡ Some p → p < n
greater_part-below n shape.SortType p h g = absurd (cc)
greater_part-below n shape.SortKind p h g = absurd (cc)
greater_part-below n (shape.Var m) p h g = absurd (cc)
greater_part-below n (shape.Sym m) p h g = absurd (cc)
greater_part-below n (shape.App a b) p h g = omega (arith, h.0, h.1, same_Some (max a b) p g)
greater_part-below n (shape.Lam a b) p h g = omega (arith, h.0, h.1, same_Some (max a b) p g)
greater_part-below n (shape.Pi a b) p h g = omega (arith, h.0, h.1, same_Some (max a b) p g)

-- a child stays where one more comes, and the new one is there
first_by : (c : Children) (n i : ℕ) (a b : Bool) → (c.first == nothing) ≡ a → (c.second == nothing) ≡ b → i ≢ nothing → IsChild c i
    → IsChild (if a then record { first = n; second = c.second; third = c.third } else if b then record { first = c.first; second = n; third = c.third } else
    record { first = c.first; second = c.second; third = n }) i ⊎ (c.third ≡ i)
first_by c n i true b e f h (inl k) = absurd (h (sym k ∙ eqb-true c.first nothing e))
first_by c n i true b e f h (inr (inl k)) = inl (inr (inl k))
first_by c n i true b e f h (inr (inr k)) = inr k
first_by c n i false true e f h (inl k) = inl (inl k)
first_by c n i false true e f h (inr (inl k)) = absurd (h (sym k ∙ eqb-true c.second nothing f))
first_by c n i false true e f h (inr (inr k)) = inr k
first_by c n i false false e f h (inl k) = inl (inl k)
first_by c n i false false e f h (inr (inl k)) = inl (inr (inl k))
first_by c n i false false e f h (inr (inr k)) = inr k

with_child-stays : (c : Children) (n i : ℕ) → HasRoom c → i ≢ nothing → IsChild c i → IsChild (with_child c n) i
with_child-stays c n i room h k = ⊎_elim (λ s. s) (λ s. absurd (h (sym s ∙ room))) (first_by c n i (c.first == nothing) (c.second == nothing) refl refl h k)

new_by : (c : Children) (n : ℕ) (a b : Bool) → IsChild
    (if a then record { first = n; second = c.second; third = c.third } else if b then record { first = c.first; second = n; third = c.third } else record
    { first = c.first; second = c.second; third = n }) n
new_by c n true b = inl refl
new_by c n false true = inr (inl refl)
new_by c n false false = inr (inr refl)

with_child-new : (c : Children) (n : ℕ) → IsChild (with_child c n) n
with_child-new c n = new_by c n (c.first == nothing) (c.second == nothing)

-- what a search finds
module _ (shapes : List Shape) (children : List Children) (kept : Shape → Option ℕ) (s : Shape) (t : IsIndexed shapes children kept) where
  -- a shape that does not stand with its greater part is told by the tree
  pub finds_other : (p : Slot) → ((n : ℕ) → Has shapes n s → IsWith children s n → ⊥) → IsFull children s → FindsOther shapes kept s p
      → Finds shapes children s p
  finds_other (slot.At n) apart full f = f
  finds_other (slot.With p) apart full f = absurd f
  finds_other slot.Apart apart full f = (λ n h. ⊎_elim (λ w. apart n h w) (λ a. f n h a.found) (t.each n s h), full)

  pub finds_leaf : (p : Slot) → greater_part s ≡ None → FindsOther shapes kept s p → Finds shapes children s p
  finds_leaf p none f = finds_other p (λ n h w. absurd (let e = sym none ∙ w.greater in cc)) (λ q c g at room. absurd (let e = sym none ∙ g in cc)) f

  -- no child is the shape
  no_child : (p : ℕ) (c : Children) → greater_part s ≡ Some p → slice_get children p ≡ Some c → (Has shapes c.first s → ⊥) → (Has shapes c.second s → ⊥)
      → (Has shapes c.third s → ⊥) → (n : ℕ) → Has shapes n s → IsWith children s n → ⊥
  no_child p c greater at one two three n h w =
      let same : w.part ≡ p = same_Some w.part p (sym w.greater ∙ greater) in
      let with : w.with ≡ c = same_Some w.with c (sym w.at ∙ ap (slice_get children) same ∙ at) in
      let child : IsChild c n = subst (λ (d : Children). IsChild d n) with w.child in
      ⊎_elim (λ e. one (subst (λ k. Has shapes k s) (sym e) h))
      (λ r. ⊎_elim (λ e. two (subst (λ k. Has shapes k s) (sym e) h)) (λ e. three (subst (λ k. Has shapes k s) (sym e) h)) r) child

  pub finds_room : (p : ℕ) (c : Children) → greater_part s ≡ Some p → slice_get children p ≡ Some c → (Has shapes c.first s → ⊥) → (Has shapes c.second s → ⊥)
      → (Has shapes c.third s → ⊥) → HasRoom c → Finds shapes children s (slot.With p)
  finds_room p c greater at one two three room =
      (λ n h. ⊎_elim (λ w. no_child p c greater at one two three n h w) (λ a. a.full p c greater at room) (t.each n s h), greater, (c, at, room))

  pub finds_full : (p : ℕ) (c : Children) (r : Slot) → greater_part s ≡ Some p → slice_get children p ≡ Some c → (Has shapes c.first s → ⊥)
      → (Has shapes c.second s → ⊥) → (Has shapes c.third s → ⊥) → (HasRoom c → ⊥) → FindsOther shapes kept s r → Finds shapes children s r
  finds_full p c r greater at one two three full f =
      finds_other r (no_child p c greater at one two three)
      (λ q d g k room. full (let same : q ≡ p =
      same_Some q p (sym g ∙ greater) in subst (λ (e : Children). HasRoom e) (same_Some d c (sym k ∙ ap (slice_get children) same ∙ at)) room)) f

-- a shape that is put last
module _ (shapes : List Shape) (children : List Children) (kept : Shape → Option ℕ) (s : Shape) (t : IsIndexed shapes children kept)
    (below : (p : ℕ) → greater_part s ≡ Some p → p < length shapes) (few : length shapes < 2 ^ 32 - 1) where
  lower_more : (n : ℕ) (u : Shape) (p : ℕ) → Has (shapes ++ s ∷ []) n u → greater_part u ≡ Some p → p < n
  lower_more n u p h g = ⊎_elim (λ k. t.lower n u p k g) (λ k. let b = below p (ap greater_part k.1 ∙ g) in omega (arith, b, k.0))
      (slice_get-one_more shapes s u n h)

  -- a slot among the children that is an old one's stays, where the list is longer
  old_full : (i : ℕ) (u : Shape) → Has shapes i u → IsFull children u → IsFull (children ++ no_children ∷ []) u
  old_full i u h full q d g at room = ⊎_elim (λ k. full q d g k room)
      (λ k. absurd (let l = t.lower i u q h g in let w = slice_get_within shapes i u h in omega (arith, l, w, k.0, t.count)))
      (slice_get-one_more children no_children d q at)

  old_with : (i : ℕ) (u : Shape) → IsWith children u i → IsWith (children ++ no_children ∷ []) u i
  old_with i u w = record {
    part = w.part;
    with = w.with;
    greater = w.greater;
    at = slice_get-append children (no_children ∷ []) w.part w.with w.at;
    child =
        w.child;
  }

  -- apart
  pub IsIndexed-apart : (more : Shape → Option ℕ) → Lacks shapes s → IsFull children s → more s ≡ Some (length shapes)
      → ((u : Shape) → (s ≡ u → ⊥) → more u ≡ kept u) → IsIndexed (shapes ++ s ∷ []) (children ++ no_children ∷ []) more
  IsIndexed-apart more lacks full found others = record {
    each = each;
    lower = lower_more;
    count = omega (arith, t.count, length-append shapes (s ∷ []), length-append children (no_children ∷ []));
    few =
        omega (arith, few, length-append shapes (s ∷ []));
  }
    where
      old : (n : ℕ) (u : Shape) → Has shapes n u → IsWith (children ++ no_children ∷ []) u n ⊎ IsApart (children ++ no_children ∷ []) more u n
      old n u h = ⊎_elim (λ w. inl (old_with n u w))
          (λ a. inr (record { found = others u (λ e. lacks n (subst (λ v. Has shapes n v) (sym e) h)) ∙ a.found; full = old_full n u h a.full })) (t.each n u h)

      new_full : IsFull (children ++ no_children ∷ []) s
      new_full q d g at room = ⊎_elim (λ k. full q d g k room) (λ k. absurd (let b = below q g in omega (arith, b, k.0, t.count)))
          (slice_get-one_more children no_children d q at)

      each : (n : ℕ) (u : Shape) → Has (shapes ++ s ∷ []) n u → IsWith (children ++ no_children ∷ []) u n ⊎ IsApart (children ++ no_children ∷ []) more u n
      each n u h = ⊎_elim (λ k. old n u k)
          (λ k. inr (record { found = ap more (sym k.1) ∙ found ∙ ap Some (sym k.0); full = subst (IsFull (children ++ no_children ∷ [])) k.1 new_full }))
          (slice_get-one_more shapes s u n h)

  -- with its greater part
  pub IsIndexed-with : (p : ℕ) (c : Children) → greater_part s ≡ Some p → slice_get children p ≡ Some c → HasRoom c
      → IsIndexed (shapes ++ s ∷ []) (slice_set (children ++ no_children ∷ []) p (with_child c (length shapes))) kept
  IsIndexed-with p c greater at room = record {
    each = each;
    lower = lower_more;
    count = omega (
      arith,
      t.count,
      length-append shapes (s ∷ []),
      length-append children (no_children ∷ []),
      length-set (children ++ no_children ∷ []) p (with_child c (length shapes)),
    );
    few = omega (arith, few, length-append shapes (s ∷ []));
  }
    where
      set : List Children
      set = slice_set (children ++ no_children ∷ []) p (with_child c (length shapes))

      here : slice_get set p ≡ Some (with_child c (length shapes))
      here = slice_get-set (children ++ no_children ∷ []) p (with_child c (length shapes))
          (let b = below p greater in omega (arith, b, t.count, length-append children (no_children ∷ [])))

      elsewhere : (q : ℕ) → q ≢ p → slice_get set q ≡ slice_get (children ++ no_children ∷ []) q
      elsewhere q h = slice_get-set_other (children ++ no_children ∷ []) p q (with_child c (length shapes)) h

      some : (n : ℕ) (u : Shape) → Has shapes n u → n ≢ nothing
      some n u h e = absurd (let w = slice_get_within shapes n u h in omega (arith, w, few, e))

      old_child : (n : ℕ) (u : Shape) → Has shapes n u → IsWith children u n → IsWith set u n
      old_child n u h w = ⊎_elim
          (λ e. record {
            part = p;
            with = with_child c (length shapes);
            greater = w.greater ∙ ap Some e.1;
            at = here;
            child =
                with_child-stays c (length shapes) n room (some n u h)
                (subst (λ (d : Children). IsChild d n) (same_Some w.with c (sym w.at ∙ ap (slice_get children) e.1 ∙ at)) w.child);
          })
          (λ e. record {
            part = w.part;
            with = w.with;
            greater = w.greater;
            at = elsewhere w.part e.1
                ∙ slice_get-append children (no_children ∷ []) w.part w.with w.at;
            child = w.child;
          })
          (eqb_tells w.part p)

      old_apart : (n : ℕ) (u : Shape) → Has shapes n u → IsFull children u → IsFull set u
      old_apart n u h full q d g k r = ⊎_elim (λ e. full p c (g ∙ ap Some e.1) at room) (λ e. old_full n u h full q d g (sym (elsewhere q e.1) ∙ k) r)
          (eqb_tells q p)

      old : (n : ℕ) (u : Shape) → Has shapes n u → IsWith set u n ⊎ IsApart set kept u n
      old n u h = ⊎_elim (λ w. inl (old_child n u h w)) (λ a. inr (record { found = a.found; full = old_apart n u h a.full })) (t.each n u h)

      each : (n : ℕ) (u : Shape) → Has (shapes ++ s ∷ []) n u → IsWith set u n ⊎ IsApart set kept u n
      each n u h = ⊎_elim (λ k. old n u k)
          (λ k. inl (record {
            part = p;
            with = with_child c (length shapes);
            greater = ap greater_part (sym k.1) ∙ greater;
            at = here;
            child =
                subst (IsChild (with_child c (length shapes))) (sym k.0) (with_child-new c (length shapes));
          }))
          (slice_get-one_more shapes s u n h)

-- where a new shape found no memory, the tree may tell more
pub IsIndexed-more : (shapes : List Shape) (children : List Children) (kept more : Shape → Option ℕ) (s : Shape) → IsIndexed shapes children kept
    → Lacks shapes s → ((u : Shape) → (s ≡ u → ⊥) → more u ≡ kept u) → IsIndexed shapes children more
IsIndexed-more shapes children kept more s t lacks others = record {
  each = λ n u h. ⊎_elim (λ w. inl w) (λ a. inr (record { found = others u (λ e. lacks n (subst (λ v. Has shapes n v) (sym e) h)) ∙ a.found; full = a.full }))
      (t.each n u h);
  lower = t.lower;
  count = t.count;
  few = t.few;
}

-- shapes whose last ones are given up
slice_get-take : {X : Type 0} (n : ℕ) (xs : List X) (i : ℕ) → i < n → slice_get (take n xs) i ≡ slice_get xs i
slice_get-take zero xs i h = absurd (omega (arith, h))
slice_get-take (suc n) [] i h = refl
slice_get-take (suc n) (x ∷ xs) zero h = refl
slice_get-take (suc n) (x ∷ xs) (suc i) h = slice_get-take n xs i (omega (arith, h))

pub IsIndexed-take : (n : ℕ) (shapes : List Shape) (children : List Children) (kept less : Shape → Option ℕ) → IsIndexed shapes children kept
    → ((s : Shape) (i : ℕ) → i < n → kept s ≡ Some i → less s ≡ Some i) → IsIndexed (take n shapes) (take n children) less
IsIndexed-take n shapes children kept less t stay =
    record {
      each = each;
      lower = λ i s p h g. t.lower i s p (slice_get-of_take n shapes i s h) g;
      count =
          omega (arith, t.count, length-take n shapes, length-take n children);
      few = omega (arith, t.few, length-take n shapes);
    }
  where
    each : (i : ℕ) (s : Shape) → Has (take n shapes) i s → IsWith (take n children) s i ⊎ IsApart (take n children) less s i
    each i s h = ⊎_elim
        (λ w. inl (record {
          part = w.part;
          with = w.with;
          greater = w.greater;
          at =
              slice_get-take n children w.part (let l = t.lower i s w.part (slice_get-of_take n shapes i s h) w.greater in let k =
              slice_get_within (take n shapes) i s h in omega (arith, l, k, length-take n shapes)) ∙ w.at;
          child = w.child;
        }))
        (λ a. inr (record {
          found = stay s i (let k = slice_get_within (take n shapes) i s h in omega (arith, k, length-take n shapes)) a.found;
          full =
              λ p c g e r. a.full p c g (slice_get-of_take n children p c e) r;
        }))
        (t.each i s (slice_get-of_take n shapes i s h))
