-- Items are looked at from the last to the first.
use Rattle.std.proofs.Common.{◌≡◌, ℕ, zero, suc, ◌+◌, ◌<◌, ◌≤◌, List, [], ◌∷◌, ◌++◌, length, drop, Bool, true, false, cond, Some, slice_get, inl, inr, refl, sym, ap, subst, ◌∙◌, append_assoc, arith}
use Rattle.std.specs.Prelude.{◌==◌}
use Rattle.std.specs.Bool.{Decides}
use Rattle.std.specs.Cmp.{unsigned_Decides}
use Rattle.std.specs.List.{AllByRecursion}
use Rattle.std.proofs.lemmas.List.{append-nil}
use Rattle.hol_spec.specs.Lists.{IsIn}
use Rattle.hol_laws.specs.Members.{IsIn-right}
use Rattle.translate_spec.specs.Items.{Item}
use Rattle.translate_spec.specs.Reach.{Key, is_wanted, wanted_after, wanted_from, keep_of}
use Rattle.translate_laws.specs.MadeModules.{IsNew}
use Rattle.translate_laws.specs.WantedItems.{NumberedFrom, AreMadeInOrder, keep-at, below}
use Rattle.image_laws.specs.ExportsKept.{numbered-from}

-- an item has the number of those before it, and is new
pub order-at : (before xs ys : List Item) (x : Item) → AreMadeInOrder before (xs ++ x ∷ ys) → (x.symbol ≡ length (before ++ xs))
    × IsNew (before ++ xs) x.content
order-at before [] ys x h = let e = sym (append-nil before) in (h.0 ∙ ap length e, subst (λ l. IsNew l x.content) e h.1)
order-at before (z ∷ zs) ys x h =
    let r = order-at (before ++ z ∷ []) zs ys x h.3 in let e = append_assoc before (z ∷ []) zs in (r.0 ∙ ap length e, subst (λ l. IsNew l x.content) e r.1)

-- an item at a place, with those before and after it
pub record IsPlace (items : List Item) (i : ℕ) (x : Item) : Type 0 where
  pub before : List Item
  pub after : List Item
  pub whole : items ≡ before ++ x ∷ after
  pub long : length before ≡ i
  pub from : drop i items ≡ x ∷ after
  pub behind : drop (suc i) items ≡ after

pub place : (items : List Item) (i : ℕ) (x : Item) → slice_get items i ≡ Some x → IsPlace items i x
place [] i x e = absurd (cc)
place (y ∷ ys) zero x e = let f : y ≡ x = cc in record
    { before = []; after = ys; whole = ap (λ z. z ∷ ys) f; long = refl; from = ap (λ z. z ∷ ys) f; behind = refl }
place (y ∷ ys) (suc i) x e = let r = place ys i x e in record
    { before = y ∷ r.before; after = r.after; whole = ap (λ l. y ∷ l) r.whole; long = ap suc r.long; from = r.from; behind = r.behind }

numbered-at : (i : ℕ) (items : List Item) (x : Item) → NumberedFrom i items → IsIn items x → (k : ℕ) × (x.symbol ≡ i + k) × (slice_get items k ≡ Some x)
numbered-at i [] x n h = absurd h
numbered-at i (y ∷ ys) x n (inl e) = (0, ap (λ (u : Item). u.symbol) e ∙ n.0 ∙ (let z : i ≡ i + 0 = omega arith in z), ap Some (sym e))
numbered-at i (y ∷ ys) x n (inr h) = let r = numbered-at (suc i) ys x n.1 h in (suc r.0, r.1 ∙ (let z : suc i + r.0 ≡ i + suc r.0 = omega arith in z), r.2)

module _ (items : List Item) (order : AreMadeInOrder [] items) where
  -- an item is at the place of its number
  pub at-symbol : (x : Item) → IsIn items x → slice_get items x.symbol ≡ Some x
  at-symbol x h = let r = numbered-at 0 items x (numbered-from [] items order) h in ap (slice_get items) (r.1 ∙ (let z : 0 + r.0 ≡ r.0 = omega arith in z))
      ∙ r.2

  pub symbol-at : (i : ℕ) (x : Item) → slice_get items i ≡ Some x → x.symbol ≡ i
  symbol-at i x e = let p = place items i x e in (order-at [] p.before p.after x (subst (AreMadeInOrder []) p.whole order)).0 ∙ p.long

  pub there : (i : ℕ) (x : Item) → slice_get items i ≡ Some x → IsIn items x
  there i x e = let p = place items i x e in subst (λ l. IsIn l x) (sym p.whole) (IsIn-right p.before (x ∷ p.after) x (inl refl))

  module _ (roots : List Key) where
    -- the flag of an item, once those after it were looked at
    pub keep-place : (i : ℕ) (x : Item) → slice_get items i ≡ Some x → keep_of roots items i ≡ is_wanted (wanted_from roots (drop (suc i) items)) x
    keep-place i x e =
        let p = place items i x e in
        let number = symbol-at i x e in
        let front : NumberedFrom 0 (p.before ++ x ∷ p.after) = subst (NumberedFrom 0) p.whole (numbered-from [] items order) in
        let low = below 0 p.before (first p.before (x ∷ p.after) 0 front) in
        ap (keep_of roots items) (sym number) ∙ ap (λ l. keep_of roots l x.symbol) p.whole
        ∙ keep-at roots p.before p.after x
        (subst (λ k. AllByRecursion (λ (z : Item). z.symbol < k) p.before)
        ((let z : 0 + length p.before ≡ length p.before = omega arith in z) ∙ p.long ∙ sym number) low)
        ∙ ap (λ l. is_wanted (wanted_from roots l) x) (sym p.behind)
      where
        first : (xs ys : List Item) (j : ℕ) → NumberedFrom j (xs ++ ys) → NumberedFrom j xs
        first [] ys j h = tt
        first (z ∷ zs) ys j h = (h.0, first zs ys (suc j) h.1)

    -- what is wanted, once it was looked at
    pub wanted-place : (i : ℕ) (x : Item) → slice_get items i ≡ Some x → wanted_from roots (drop i items)
        ≡ wanted_after (wanted_from roots (drop (suc i) items)) x
    wanted-place i x e = let p = place items i x e in ap (wanted_from roots) p.from ∙ ap (λ l. wanted_after (wanted_from roots l) x) (sym p.behind)

    -- past the last there is none
    pub keep-past : (i : ℕ) → length items ≤ i → keep_of roots items i ≡ false
    keep-past i l = past items 0 i (numbered-from [] items order) (omega (arith, l))
      where
        other : (j k : ℕ) → (j ≡ k → ⊥) → (j == k) ≡ false
        other j k h = go (j == k) (unsigned_Decides j k)
          where
            go : (b : Bool) → Decides b (j ≡ k) → b ≡ false
            go true d = absurd (h (d.0 refl))
            go false d = refl

        past : (xs : List Item) (j i : ℕ) → NumberedFrom j xs → j + length xs ≤ i → keep_of roots xs i ≡ false
        past [] j i n l = refl
        past (z ∷ zs) j i n l =
            ap (λ b. cond b (is_wanted (wanted_from roots zs) z) (keep_of roots zs i)) (other i z.symbol (λ e. let f = n.0 in omega (arith, l, e, f)))
            ∙ past zs (suc j) i n.1 (omega (arith, l))
