-- What is kept is reached: a kept item is an export, or one that is reached needs what it gives.
use Rattle.std.proofs.Common.{◌≡◌, ℕ, suc, ◌+◌, ◌<◌, List, [], ◌∷◌, ◌++◌, length, Bool, true, false, ◌||◌, cond, inl, inr, refl, sym, ap, subst, ◌∙◌, append_assoc, arith}
use Rattle.std.specs.List.{AllByRecursion, list_any}
use Rattle.hol_spec.specs.Lists.{IsIn}
use Rattle.hol_laws.specs.Members.{IsIn-either, IsIn-right}
use Rattle.translate_spec.specs.Items.{Item}
use Rattle.translate_spec.specs.Reach.{Key, gives, needs, key_eq, is_wanted, wanted_from, keep_of}
use Rattle.translate_laws.specs.WantedItems.{NumberedFrom, AreMadeInOrder, keep-at, below}
use Rattle.image_laws.specs.ExportsKept.{numbered-from}

module _ (roots : List Key) (items : List Item) where
  -- an item gives a root, or what an item that is reached needs
  pub data IsReachedItem : Item → Type 0 where
    root : {z : Item} (k : Key) → IsIn roots k → key_eq (gives z) k ≡ true → IsReachedItem z
    needed : {z : Item} (y : Item) (k : Key) → IsReachedItem y → IsIn items y → keep_of roots items y.symbol ≡ true → IsIn (needs y.content) k
        → key_eq (gives z) k ≡ true → IsReachedItem z

  -- where what is wanted comes from
  data Source (later : List Item) (k : Key) : Type 0 where
    from_root : IsIn roots k → Source later k
    from_item : (middle after : List Item) (y : Item) → later ≡ middle ++ y ∷ after → is_wanted (wanted_from roots after) y ≡ true → IsIn (needs y.content) k
        → Source later k

  source-more : (x : Item) (xs : List Item) (k : Key) → Source xs k → Source (x ∷ xs) k
  source-more x xs k (Source.from_root i) = Source.from_root i
  source-more x xs k (Source.from_item middle after y e w i) = Source.from_item (x ∷ middle) after y (ap (λ l. x ∷ l) e) w i

  source : (later : List Item) (k : Key) → IsIn (wanted_from roots later) k → Source later k
  source [] k i = Source.from_root i
  source (x ∷ xs) k i = go (is_wanted (wanted_from roots xs) x) refl i (source xs k)
    where
      go : (b : Bool) → is_wanted (wanted_from roots xs) x ≡ b → IsIn (cond b (wanted_from roots xs ++ needs x.content) (wanted_from roots xs)) k
          → (IsIn (wanted_from roots xs) k → Source xs k) → Source (x ∷ xs) k
      go false e i rest = source-more x xs k (rest i)
      go true e i rest = elim (IsIn-either (wanted_from roots xs) (needs x.content) k i) [
        | inl j ↦ source-more x xs k (rest j)
        | inr j ↦ Source.from_item [] xs x refl e j
      ]

  any-key : (k : Key) (wanted : List Key) → list_any (key_eq k) wanted ≡ true → (w : Key) × IsIn wanted w × (key_eq k w ≡ true)
  any-key k [] e = absurd (cc)
  any-key k (w ∷ ws) e = go (key_eq k w) refl e (any-key k ws)
    where
      go : (b : Bool) → key_eq k w ≡ b → (b || list_any (key_eq k) ws) ≡ true → (list_any (key_eq k) ws ≡ true → (v : Key) × IsIn ws v × (key_eq k v ≡ true))
          → (v : Key) × IsIn (w ∷ ws) v × (key_eq k v ≡ true)
      go true is e rest = (w, inl refl, is)
      go false is e rest = let r = rest e in (r.0, inr r.1, r.2)

  -- an item's flag, and its place
  flag : NumberedFrom 0 items → (before after : List Item) (y : Item) → items ≡ before ++ y ∷ after
      → keep_of roots items y.symbol ≡ is_wanted (wanted_from roots after) y
  flag numbers before after y whole =
      ap (λ l. keep_of roots l y.symbol) whole ∙ keep-at roots before after y (low before (subst (NumberedFrom 0) whole numbers))
    where
      place : (i : ℕ) (xs : List Item) → NumberedFrom i (xs ++ y ∷ after) → y.symbol ≡ i + length xs
      place i [] h = h.0 ∙ (let z : i ≡ i + 0 = omega arith in z)
      place i (x ∷ xs) h = place (suc i) xs h.1 ∙ (let z : suc i + length xs ≡ i + suc (length xs) = omega arith in z)

      front : (i : ℕ) (xs : List Item) → NumberedFrom i (xs ++ y ∷ after) → NumberedFrom i xs
      front i [] h = tt
      front i (x ∷ xs) h = (h.0, front (suc i) xs h.1)

      low : (xs : List Item) → NumberedFrom 0 (xs ++ y ∷ after) → AllByRecursion (λ (z : Item). z.symbol < y.symbol) xs
      low xs h = subst (λ k. AllByRecursion (λ (z : Item). z.symbol < k) xs) (sym (place 0 xs h)) (below 0 xs (front 0 xs h))

  module _ (numbers : NumberedFrom 0 items) where
    wanted-reached : (before later : List Item) → items ≡ before ++ later → (middle after : List Item) (y : Item) → later ≡ middle ++ y ∷ after
        → is_wanted (wanted_from roots after) y ≡ true → IsReachedItem y
    wanted-reached before [] whole [] after y e w = absurd (cc)
    wanted-reached before [] whole (m ∷ middle) after y e w = absurd (cc)
    wanted-reached before (x ∷ xs) whole (m ∷ middle) after y e w =
        let rest : xs ≡ middle ++ y ∷ after = cc in
        wanted-reached (before ++ x ∷ []) xs (whole ∙ sym (append_assoc before (x ∷ []) xs)) middle after y rest w
    wanted-reached before (x ∷ xs) whole [] after y e w =
        let same : x ≡ y = cc in
        let rest : xs ≡ after = cc in
        let k = any-key (gives y) (wanted_from roots after) w in
        elim (source xs k.0 (subst (λ l. IsIn (wanted_from roots l) k.0) (sym rest) k.1)) [
          | Source.from_root i ↦ IsReachedItem.root k.0 i k.2
          | Source.from_item middle2 after2 u split want i ↦
              let whole2 : items ≡ (before ++ x ∷ middle2) ++ u ∷ after2 =
              whole ∙ ap (λ l. before ++ x ∷ l) split ∙ sym (append_assoc before (x ∷ middle2) (u ∷ after2)) in
              IsReachedItem.needed u k.0
              (wanted-reached (before ++ x ∷ []) xs (whole ∙ sym (append_assoc before (x ∷ []) xs)) middle2 after2 u split want)
              (subst (λ l. IsIn l u) (sym whole2) (IsIn-right (before ++ x ∷ middle2) (u ∷ after2) u (inl refl)))
              (flag numbers (before ++ x ∷ middle2) after2 u whole2 ∙ want) i k.2
        ]

    split-at : (xs : List Item) (z : Item) → IsIn xs z → (front : List Item) × (back : List Item) × (xs ≡ front ++ z ∷ back)
    split-at [] z i = absurd i
    split-at (x ∷ xs) z (inl e) = ([], xs, ap (λ y. y ∷ xs) (sym e))
    split-at (x ∷ xs) z (inr i) = let r = split-at xs z i in (x ∷ r.0, r.1, ap (λ l. x ∷ l) r.2)

    -- What is kept is reached
    pub kept-reached : (z : Item) → IsIn items z → keep_of roots items z.symbol ≡ true → IsReachedItem z
    kept-reached z i k =
        let s = split-at items z i in
        wanted-reached [] items refl s.0 s.1 z s.2 (sym (flag numbers s.0 s.1 z s.2) ∙ k)

-- the items of what was made
pub made-reached : (roots : List Key) (items : List Item) → AreMadeInOrder [] items → (z : Item) → IsIn items z → keep_of roots items z.symbol ≡ true
    → IsReachedItem roots items z
made-reached roots items order z i k = kept-reached roots items (numbered-from [] items order) z i k
