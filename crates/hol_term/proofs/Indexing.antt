-- Where a node is found as entries come and go.
use Rattle.std.proofs.Common.{◌≡◌, ◌≢◌, ℕ, zero, suc, ◌+◌, ◌<◌, ◌≤◌, refl, sym, ap, ◌∙◌, subst, arith, Bool, true, false, cond, List, [], ◌∷◌, ◌++◌, length, Option, None, Some, length-append, take, ◌⊎◌, ⊎_elim, inl, inr}
use Rattle.std.specs.Prelude.{◌==◌, max, if◌then◌else◌, slice_get, slice_set}
use Rattle.std.specs.Ordering.{is_eq}
use Rattle.std.specs.Bool.{OnTrue, OnFalse}
use Rattle.std.specs.Map.{lookup}
use Rattle.std.specs.BTreeMap.{BTreeMap, is_at}
use Rattle.std.proofs.lemmas.Bool.{eqb-true}
use Rattle.std.proofs.lemmas.Bool.Decides.{eqb_tells}
use Rattle.std.proofs.lemmas.List.{length-set, length-take}
use Rattle.std.proofs.lemmas.Option.{slice_get_within, same_Some}
use Rattle.hol_laws.specs.PlaceLaws.{slice_get-append}
use Rattle.hol_term.specs.declared.node.Node.{Node}
use Rattle.hol_term.specs.declared.node.Node.TheVariants as node
use Rattle.hol_term.specs.declared.node.Entry.{Entry}
use Rattle.hol_term.specs.declared.entries.Children.{Children}
use Rattle.hol_term.specs.declared.entries.Slot.{Slot}
use Rattle.hol_term.specs.declared.entries.Slot.TheVariants as slot
use Rattle.hol_term.specs.contracts.node.NodePartialEq.TheImpl as node_eq
use Rattle.hol_term.specs.contracts.node.NodeOrd.TheImpl.Laws.{matches_eq-law}
use Rattle.hol_term.specs.Nodes.{PartsBelow}
use Rattle.hol_term.specs.Indexed.{node_cmp, nodes_of, kept_in, greater_part, nothing, no_children, with_child, IsChild, HasRoom, Has, Lacks, IsFull, IsWith, IsApart, IsIndexed, Finds, FindsOther, Forgets}
use Rattle.hol_term.proofs.EntryLaws.{slice_get-one_more, node_eq-true, node_eq-refl}

-- nodes that are equal in their order are one
pub node_cmp-same : (s u : Node) → is_eq (node_cmp s u) ≡ true → s ≡ u
node_cmp-same s u e = node_eq-true s u (matches_eq-law s u ∙ e)

pub node_cmp-refl : (s : Node) → is_eq (node_cmp s s) ≡ true
node_cmp-refl s = sym (matches_eq-law s s) ∙ node_eq-refl s

-- the nodes of entries by number
pub nodes_of-Some : (es : List Entry) (i : ℕ) (e : Entry) → slice_get es i ≡ Some e → slice_get (nodes_of es) i ≡ Some e.node
nodes_of-Some [] i e h = absurd (cc)
nodes_of-Some (o ∷ es) zero e h = ap (λ (w : Entry). Some w.node) (same_Some o e h)
nodes_of-Some (o ∷ es) (suc i) e h = nodes_of-Some es i e h

pub Some-nodes_of : (es : List Entry) (i : ℕ) (s : Node) → slice_get (nodes_of es) i ≡ Some s → (e : Entry) × (slice_get es i ≡ Some e) × (e.node ≡ s)
Some-nodes_of [] i s h = absurd (cc)
Some-nodes_of (o ∷ es) zero s h = (o, refl, same_Some o.node s h)
Some-nodes_of (o ∷ es) (suc i) s h = Some-nodes_of es i s h

pub nodes_of-append : (es : List Entry) (e : Entry) → nodes_of (es ++ e ∷ []) ≡ nodes_of es ++ e.node ∷ []
nodes_of-append [] e = refl
nodes_of-append (o ∷ es) e = ap (λ l. o.node ∷ l) (nodes_of-append es e)

pub nodes_of-take : (n : ℕ) (es : List Entry) → nodes_of (take n es) ≡ take n (nodes_of es)
nodes_of-take zero es = refl
nodes_of-take (suc n) [] = refl
nodes_of-take (suc n) (o ∷ es) = ap (λ l. o.node ∷ l) (nodes_of-take n es)

pub length-nodes_of : (es : List Entry) → length (nodes_of es) ≡ length es
length-nodes_of [] = refl
length-nodes_of (o ∷ es) = ap suc (length-nodes_of es)

-- whether the entry of a number has the node
pub has-yes : (es : List Entry) (i : ℕ) (e : Entry) (s : Node) (b : Bool) → slice_get es i ≡ Some e → b ≡ node_eq.eq-value.it e.node s
    → OnTrue b (Has (nodes_of es) i s)
has-yes es i e s true at h = nodes_of-Some es i e at ∙ ap Some (node_eq-true e.node s (sym h))
has-yes es i e s false at h = tt

pub has-no : (es : List Entry) (i : ℕ) (e : Entry) (s : Node) (b : Bool) → slice_get es i ≡ Some e → b ≡ node_eq.eq-value.it e.node s
    → OnFalse b (Has (nodes_of es) i s → ⊥)
has-no es i e s true at h = tt
has-no es i e s false at h = λ k.
    let same : e.node ≡ s = same_Some e.node s (sym (nodes_of-Some es i e at) ∙ k) in
    let w : false ≡ true = h ∙ ap (λ n. node_eq.eq-value.it e.node n) (sym same) ∙ node_eq-refl e.node in
    absurd (cc)

pub has-past : (es : List Entry) (i : ℕ) (s : Node) → length es ≤ i → Has (nodes_of es) i s → ⊥
has-past es i s h k = absurd (let w = slice_get_within (nodes_of es) i s k in omega (arith, h, w, length-nodes_of es))

-- an item of a list in which one was set
slice_get-set : {X : Type 0} (xs : List X) (p : ℕ) (x : X) → p < length xs → slice_get (slice_set xs p x) p ≡ Some x
slice_get-set [] p x h = absurd (omega (arith, h))
slice_get-set (y ∷ xs) zero x h = refl
slice_get-set (y ∷ xs) (suc p) x h = slice_get-set xs p x (omega (arith, h))

slice_get-set_other : {X : Type 0} (xs : List X) (p q : ℕ) (x : X) → q ≢ p → slice_get (slice_set xs p x) q ≡ slice_get xs q
slice_get-set_other [] p q x h = refl
slice_get-set_other (y ∷ xs) zero zero x h = absurd (h refl)
slice_get-set_other (y ∷ xs) zero (suc q) x h = refl
slice_get-set_other (y ∷ xs) (suc p) zero x h = refl
slice_get-set_other (y ∷ xs) (suc p) (suc q) x h = slice_get-set_other xs p q x (λ e. h (ap suc e))

-- an item of a list whose last ones are given up
slice_get-take : {X : Type 0} (n : ℕ) (xs : List X) (i : ℕ) → i < n → slice_get (take n xs) i ≡ slice_get xs i
slice_get-take zero xs i h = absurd (omega (arith, h))
slice_get-take (suc n) [] i h = refl
slice_get-take (suc n) (x ∷ xs) zero h = refl
slice_get-take (suc n) (x ∷ xs) (suc i) h = slice_get-take n xs i (omega (arith, h))

-- the greatest part of a node is one of its parts
pub greater_part-below : (n m : ℕ) (s : Node) (p : ℕ) → PartsBelow n m s → greater_part s ≡ Some p → p < n
greater_part-below n m (node.Free name ty) p h g = absurd (cc)
greater_part-below n m (node.Bound k) p h g = absurd (cc)
greater_part-below n m (node.Const name ty) p h g = absurd (cc)
greater_part-below n m (node.App f x) p h g = omega (arith, h.0, h.1, same_Some (max f.0 x.0) p g)
greater_part-below n m (node.Lam ty b) p h g = omega (arith, h.1, same_Some b.0 p g)

-- a child stays where one more comes, and the new one is there
first_by : (c : Children) (n i : ℕ) (a b : Bool) → (c.first == nothing) ≡ a → (c.second == nothing) ≡ b → i ≢ nothing → IsChild c i
    → IsChild (if a then record { first = n; second = c.second; third = c.third } else if b then record { first = c.first; second = n; third = c.third } else
    record { first = c.first; second = c.second; third = n }) i ⊎ (c.third ≡ i)
first_by c n i true b e f h (inl k) = absurd (h (sym k ∙ eqb-true c.first nothing e))
first_by c n i true b e f h (inr (inl k)) = inl (inr (inl k))
first_by c n i true b e f h (inr (inr k)) = inr k
first_by c n i false true e f h (inl k) = inl (inl k)
first_by c n i false true e f h (inr (inl k)) = absurd (h (sym k ∙ eqb-true c.second nothing f))
first_by c n i false true e f h (inr (inr k)) = inr k
first_by c n i false false e f h (inl k) = inl (inl k)
first_by c n i false false e f h (inr (inl k)) = inl (inr (inl k))
first_by c n i false false e f h (inr (inr k)) = inr k

with_child-stays : (c : Children) (n i : ℕ) → HasRoom c → i ≢ nothing → IsChild c i → IsChild (with_child c n) i
with_child-stays c n i room h k = ⊎_elim (λ s. s) (λ s. absurd (h (sym s ∙ room))) (first_by c n i (c.first == nothing) (c.second == nothing) refl refl h k)

new_by : (c : Children) (n : ℕ) (a b : Bool) → IsChild
    (if a then record { first = n; second = c.second; third = c.third } else if b then record { first = c.first; second = n; third = c.third } else record
    { first = c.first; second = c.second; third = n }) n
new_by c n true b = inl refl
new_by c n false true = inr (inl refl)
new_by c n false false = inr (inr refl)

with_child-new : (c : Children) (n : ℕ) → IsChild (with_child c n) n
with_child-new c n = new_by c n (c.first == nothing) (c.second == nothing)

-- what a search finds
module _ (nodes : List Node) (children : List Children) (kept : Node → Option ℕ) (s : Node) (t : IsIndexed nodes children kept) where
  -- a node that does not stand with its greatest part is told by the tree of nodes
  finds_other : (r : Slot) → ((n : ℕ) → Has nodes n s → IsWith children s n → ⊥) → IsFull children s (length nodes) → FindsOther kept s r
      → Finds nodes children s r
  finds_other (slot.At n) apart full f = t.told n s f
  finds_other (slot.With p) apart full f = absurd f
  finds_other slot.Apart apart full f = (λ n h. ⊎_elim (λ w. apart n h w) (λ a. absurd (let e = sym f ∙ a.found in cc)) (t.each n s h), full)

  pub finds_leaf : (r : Slot) → greater_part s ≡ None → FindsOther kept s r → Finds nodes children s r
  finds_leaf r none f = finds_other r (λ n h w. absurd (let e = sym none ∙ w.greater in cc)) (λ q c g at room few. absurd (let e = sym none ∙ g in cc)) f

  -- a part that the table lacks has no children
  pub finds_strange : (p : ℕ) (r : Slot) → greater_part s ≡ Some p → slice_get children p ≡ None → FindsOther kept s r → Finds nodes children s r
  finds_strange p r greater none f =
      finds_other r
      (λ n h w. absurd (let e = sym none ∙ ap (slice_get children) (sym (same_Some w.part p (sym w.greater ∙ greater))) ∙ w.at in cc))
      (λ q c g at room few. absurd (let e = sym none ∙ ap (slice_get children) (sym (same_Some q p (sym g ∙ greater))) ∙ at in cc)) f

  module _ (p : ℕ) (c : Children) (greater : greater_part s ≡ Some p) (at : slice_get children p ≡ Some c) where
    -- no child is the node
    no_child : (Has nodes c.first s → ⊥) → (Has nodes c.second s → ⊥) → (Has nodes c.third s → ⊥) → (n : ℕ) → Has nodes n s → IsWith children s n → ⊥
    no_child one two three n h w =
        let same : w.part ≡ p = same_Some w.part p (sym w.greater ∙ greater) in
        let with : w.with ≡ c = same_Some w.with c (sym w.at ∙ ap (slice_get children) same ∙ at) in
        let child : IsChild c n = subst (λ (d : Children). IsChild d n) with w.child in
        ⊎_elim (λ e. one (subst (λ k. Has nodes k s) (sym e) h))
        (λ r. ⊎_elim (λ e. two (subst (λ k. Has nodes k s) (sym e) h)) (λ e. three (subst (λ k. Has nodes k s) (sym e) h)) r) child

    pub finds_room : (Has nodes c.first s → ⊥) → (Has nodes c.second s → ⊥) → (Has nodes c.third s → ⊥) → HasRoom c → length nodes < nothing
        → Finds nodes children s (slot.With p)
    finds_room one two three room few = (
      λ n h. ⊎_elim (λ w. no_child one two three n h w) (λ a. a.full p c greater at room (let l = slice_get_within nodes n s h in omega (arith, l, few)))
          (t.each n s h),
      few,
      greater,
      (c, at, room),
    )

    pub finds_full : (r : Slot) → (Has nodes c.first s → ⊥) → (Has nodes c.second s → ⊥) → (Has nodes c.third s → ⊥) → (HasRoom c → length nodes < nothing → ⊥)
        → FindsOther kept s r → Finds nodes children s r
    finds_full r one two three full f =
        finds_other r (no_child one two three)
        (λ q d g k room few. full (let same : q ≡ p =
        same_Some q p (sym g ∙ greater) in subst (λ (e : Children). HasRoom e) (same_Some d c (sym k ∙ ap (slice_get children) same ∙ at)) room) few) f

-- an entry that is put last
module _ (nodes : List Node) (children : List Children) (kept : Node → Option ℕ) (s : Node) (t : IsIndexed nodes children kept)
    (below : (p : ℕ) → greater_part s ≡ Some p → p < length nodes) (lacks : Lacks nodes s) where
  lower_more : (n : ℕ) (u : Node) (p : ℕ) → Has (nodes ++ s ∷ []) n u → greater_part u ≡ Some p → p < n
  lower_more n u p h g = ⊎_elim (λ k. t.lower n u p k g) (λ k. let b = below p (ap greater_part k.1 ∙ g) in omega (arith, b, k.0))
      (slice_get-one_more nodes s u n h)

  -- what is full stays so, where the list of children is longer
  old_full : (i : ℕ) (u : Node) → Has nodes i u → IsFull children u i → IsFull (children ++ no_children ∷ []) u i
  old_full i u h full q d g at room few = ⊎_elim (λ k. full q d g k room few)
      (λ k. absurd (let l = t.lower i u q h g in let w = slice_get_within nodes i u h in omega (arith, l, w, k.0, t.count)))
      (slice_get-one_more children no_children d q at)

  old_with : (i : ℕ) (u : Node) → IsWith children u i → IsWith (children ++ no_children ∷ []) u i
  old_with i u w = record {
    part = w.part;
    with = w.with;
    greater = w.greater;
    at = slice_get-append children (no_children ∷ []) w.part w.with w.at;
    child =
        w.child;
  }

  -- apart
  module _ (more : Node → Option ℕ) (full : IsFull children s (length nodes))
      (updates : (u : Node) → more u ≡ cond (is_eq (node_cmp s u)) (Some (length nodes)) (kept u)) where
    new_kept : more s ≡ Some (length nodes)
    new_kept = updates s ∙ ap (λ b. cond b (Some (length nodes)) (kept s)) (node_cmp-refl s)

    old_kept : (n : ℕ) (u : Node) → Has nodes n u → kept u ≡ Some n → more u ≡ Some n
    old_kept n u h k = go (is_eq (node_cmp s u)) refl
      where
        go : (b : Bool) → is_eq (node_cmp s u) ≡ b → more u ≡ Some n
        go true e = absurd (lacks n (subst (λ v. Has nodes n v) (sym (node_cmp-same s u e)) h))
        go false e = updates u ∙ ap (λ b. cond b (Some (length nodes)) (kept u)) e ∙ k

    told_more : (n : ℕ) (u : Node) → more u ≡ Some n → Has (nodes ++ s ∷ []) n u
    told_more n u k = go (is_eq (node_cmp s u)) refl
      where
        last : {X : Type 0} (xs : List X) (x : X) → slice_get (xs ++ x ∷ []) (length xs) ≡ Some x
        last [] x = refl
        last (z ∷ xs) x = last xs x

        go : (b : Bool) → is_eq (node_cmp s u) ≡ b → Has (nodes ++ s ∷ []) n u
        go true e =
            let same : length nodes ≡ n = same_Some (length nodes) n (sym (updates u ∙ ap (λ b. cond b (Some (length nodes)) (kept u)) e) ∙ k) in
            ap (slice_get (nodes ++ s ∷ [])) (sym same) ∙ last nodes s ∙ ap Some (node_cmp-same s u e)
        go false e = slice_get-append nodes (s ∷ []) n u (t.told n u (sym (updates u ∙ ap (λ b. cond b (Some (length nodes)) (kept u)) e) ∙ k))

    old : (n : ℕ) (u : Node) → Has nodes n u → IsWith (children ++ no_children ∷ []) u n ⊎ IsApart (children ++ no_children ∷ []) more u n
    old n u h = ⊎_elim (λ w. inl (old_with n u w)) (λ a. inr (record { found = old_kept n u h a.found; full = old_full n u h a.full })) (t.each n u h)

    new_full : IsFull (children ++ no_children ∷ []) s (length nodes)
    new_full q d g at room few = ⊎_elim (λ k. full q d g k room few) (λ k. absurd (let b = below q g in omega (arith, b, k.0, t.count)))
        (slice_get-one_more children no_children d q at)

    each_apart : (n : ℕ) (u : Node) → Has (nodes ++ s ∷ []) n u → IsWith (children ++ no_children ∷ []) u n ⊎ IsApart (children ++ no_children ∷ []) more u n
    each_apart n u h = ⊎_elim (λ k. old n u k)
        (λ k. inr (record {
          found = ap more (sym k.1) ∙ new_kept ∙ ap Some (sym k.0);
          full =
              subst (λ v. IsFull (children ++ no_children ∷ []) v n) k.1 (subst (IsFull (children ++ no_children ∷ []) s) (sym k.0) new_full);
        }))
        (slice_get-one_more nodes s u n h)

    pub IsIndexed-apart : IsIndexed (nodes ++ s ∷ []) (children ++ no_children ∷ []) more
    IsIndexed-apart = record {
      each = each_apart;
      told = told_more;
      lower = lower_more;
      count =
          omega (arith, t.count, length-append nodes (s ∷ []), length-append children (no_children ∷ []));
    }

  -- with its greatest part
  module _ (p : ℕ) (c : Children) (greater : greater_part s ≡ Some p) (at : slice_get children p ≡ Some c) (room : HasRoom c) (few : length nodes < nothing)
    where
      set : List Children
      set = slice_set (children ++ no_children ∷ []) p (with_child c (length nodes))

      here : slice_get set p ≡ Some (with_child c (length nodes))
      unfolding set
      here = slice_get-set (children ++ no_children ∷ []) p (with_child c (length nodes))
          (let b = below p greater in omega (arith, b, t.count, length-append children (no_children ∷ [])))

      elsewhere : (q : ℕ) → q ≢ p → slice_get set q ≡ slice_get (children ++ no_children ∷ []) q
      unfolding set
      elsewhere q h = slice_get-set_other (children ++ no_children ∷ []) p q (with_child c (length nodes)) h

      some : (n : ℕ) (u : Node) → Has nodes n u → n ≢ nothing
      some n u h e = absurd (let w = slice_get_within nodes n u h in omega (arith, w, few, e))

      old_child : (n : ℕ) (u : Node) → Has nodes n u → IsWith children u n → IsWith set u n
      old_child n u h w = ⊎_elim
          (λ e. record {
            part = p;
            with = with_child c (length nodes);
            greater = w.greater ∙ ap Some e.1;
            at = here;
            child =
                with_child-stays c (length nodes) n room (some n u h)
                (subst (λ (d : Children). IsChild d n) (same_Some w.with c (sym w.at ∙ ap (slice_get children) e.1 ∙ at)) w.child);
          })
          (λ e. record {
            part = w.part;
            with = w.with;
            greater = w.greater;
            at = elsewhere w.part e.1
                ∙ slice_get-append children (no_children ∷ []) w.part w.with w.at;
            child = w.child;
          })
          (eqb_tells w.part p)

      old_apart : (n : ℕ) (u : Node) → Has nodes n u → IsFull children u n → IsFull set u n
      old_apart n u h full q d g k r l = ⊎_elim (λ e. full p c (g ∙ ap Some e.1) at room l) (λ e. old_full n u h full q d g (sym (elsewhere q e.1) ∙ k) r l)
          (eqb_tells q p)

      each_with : (n : ℕ) (u : Node) → Has (nodes ++ s ∷ []) n u → IsWith set u n ⊎ IsApart set kept u n
      each_with n u h = ⊎_elim
          (λ k. ⊎_elim (λ w. inl (old_child n u k w)) (λ a. inr (record { found = a.found; full = old_apart n u k a.full })) (t.each n u k))
          (λ k. inl (record {
            part = p;
            with = with_child c (length nodes);
            greater = ap greater_part (sym k.1) ∙ greater;
            at = here;
            child =
                subst (IsChild (with_child c (length nodes))) (sym k.0) (with_child-new c (length nodes));
          }))
          (slice_get-one_more nodes s u n h)

      pub IsIndexed-with : IsIndexed (nodes ++ s ∷ []) (slice_set (children ++ no_children ∷ []) p (with_child c (length nodes))) kept
      unfolding set
      IsIndexed-with = record {
        each = each_with;
        told = λ n u k. slice_get-append nodes (s ∷ []) n u (t.told n u k);
        lower = lower_more;
        count = omega (
          arith,
          t.count,
          length-append nodes (s ∷ []),
          length-append children (no_children ∷ []),
          length-set (children ++ no_children ∷ []) p (with_child c (length nodes)),
        );
      }

-- entries whose last ones are given up
slice_get-of_take : {X : Type 0} (n : ℕ) (xs : List X) (i : ℕ) (x : X) → slice_get (take n xs) i ≡ Some x → slice_get xs i ≡ Some x
slice_get-of_take zero xs i x h = absurd (cc)
slice_get-of_take (suc n) [] i x h = h
slice_get-of_take (suc n) (y ∷ xs) zero x h = h
slice_get-of_take (suc n) (y ∷ xs) (suc i) x h = slice_get-of_take n xs i x h

pub IsIndexed-take : (n : ℕ) (nodes : List Node) (children : List Children) (kept less : Node → Option ℕ) → IsIndexed nodes children kept
    → ((s : Node) (i : ℕ) → i < n → kept s ≡ Some i → less s ≡ Some i) → ((s : Node) (i : ℕ) → less s ≡ Some i → (kept s ≡ Some i) × (i < n))
    → IsIndexed (take n nodes) (take n children) less
IsIndexed-take n nodes children kept less t stay go = record {
  each = each;
  told = λ i s k. let h = go s i k in slice_get-take n nodes i h.1 ∙ t.told i s h.0;
  lower = λ i s p h g. t.lower i s p (slice_get-of_take n nodes i s h) g;
  count = omega (arith, t.count, length-take n nodes, length-take n children);
}
  where
    each : (i : ℕ) (s : Node) → Has (take n nodes) i s → IsWith (take n children) s i ⊎ IsApart (take n children) less s i
    each i s h =
        let whole = slice_get-of_take n nodes i s h in
        let within : i < n = let k = slice_get_within (take n nodes) i s h in omega (arith, k, length-take n nodes) in
        ⊎_elim
        (λ w. inl (record {
          part = w.part;
          with = w.with;
          greater = w.greater;
          at =
              slice_get-take n children w.part (let l = t.lower i s w.part whole w.greater in omega (arith, l, within)) ∙ w.at;
          child = w.child;
        }))
        (λ a. inr (record { found = stay s i within a.found; full = λ q c g k room few. a.full q c g (slice_get-of_take n children q c k) room few }))
        (t.each i s whole)

-- the table of entries, once one more is put with its greatest part
pub indexed_with : (es new : List Entry) (children more : List Children) (kept : Node → Option ℕ) (e : Entry) (p : ℕ) → IsIndexed (nodes_of es) children kept
    → ((q : ℕ) → greater_part e.node ≡ Some q → q < length es)
    → Finds (nodes_of es) children e.node (slot.With p) → new ≡ es ++ e ∷ []
    → ((c : Children) → slice_get children p ≡ Some c → more ≡ slice_set (children ++ no_children ∷ []) p (with_child c (length es)))
    → IsIndexed (nodes_of new) more kept
indexed_with es new children more kept e p t below f grown child =
    let c = f.3.0 in
    let lower : (q : ℕ) → greater_part e.node ≡ Some q → q < length (nodes_of es) = λ q g. let b = below q g in omega (arith, b, length-nodes_of es) in
    let made = IsIndexed-with (nodes_of es) children kept e.node t lower f.0 p c f.2 f.3.1 f.3.2 f.1 in
    let children_are : slice_set (children ++ no_children ∷ []) p (with_child c (length (nodes_of es))) ≡ more =
    ap (λ n. slice_set (children ++ no_children ∷ []) p (with_child c n)) (length-nodes_of es) ∙ sym (child c f.3.1) in
    let nodes_are : nodes_of es ++ e.node ∷ [] ≡ nodes_of new = sym (nodes_of-append es e) ∙ ap nodes_of (sym grown) in
    subst (λ l. IsIndexed l more kept) nodes_are (subst (λ l. IsIndexed (nodes_of es ++ e.node ∷ []) l kept) children_are made)

-- the table of entries, once one more is put apart
pub indexed_apart : (es new : List Entry) (children more : List Children) (kept now : Node → Option ℕ) (e : Entry) → IsIndexed (nodes_of es) children kept
    → ((q : ℕ) → greater_part e.node ≡ Some q → q < length es)
    → Finds (nodes_of es) children e.node slot.Apart → new ≡ es ++ e ∷ [] → more ≡ children ++ no_children ∷ []
    → ((u : Node) → now u ≡ cond (is_eq (node_cmp e.node u)) (Some (length es)) (kept u)) → IsIndexed (nodes_of new) more now
indexed_apart es new children more kept now e t below f grown child updates =
    let lower : (q : ℕ) → greater_part e.node ≡ Some q → q < length (nodes_of es) = λ q g. let b = below q g in omega (arith, b, length-nodes_of es) in
    let changed : (u : Node) → now u ≡ cond (is_eq (node_cmp e.node u)) (Some (length (nodes_of es))) (kept u) =
    λ u. updates u ∙ ap (λ n. cond (is_eq (node_cmp e.node u)) (Some n) (kept u)) (sym (length-nodes_of es)) in
    let made = IsIndexed-apart (nodes_of es) children kept e.node t lower f.0 now f.1 changed in
    let nodes_are : nodes_of es ++ e.node ∷ [] ≡ nodes_of new = sym (nodes_of-append es e) ∙ ap nodes_of (sym grown) in
    subst (λ l. IsIndexed l more now) nodes_are (subst (λ l. IsIndexed (nodes_of es ++ e.node ∷ []) l now) (sym child) made)

-- the table of entries where nothing changed
pub indexed_same : (es new : List Entry) (children more : List Children) (m n : BTreeMap Node ℕ) → IsIndexed (nodes_of es) children (kept_in m) → new ≡ es
    → more ≡ children → n.entries ≡ m.entries → IsIndexed (nodes_of new) more (kept_in n)
indexed_same es new children more m n t a b e =
    subst (λ l. IsIndexed (nodes_of l) more (kept_in n)) (sym a)
    (subst (λ l. IsIndexed (nodes_of es) l (kept_in n)) (sym b)
    (subst (λ (l : List (Node × ℕ)). IsIndexed (nodes_of es) children (λ s. lookup (is_at (node_cmp s)) l)) (sym e) t))

-- a new entry has a node that the others lack
pub lacks_node : (es : List Entry) (s : Node) → Lacks (nodes_of es) s → (j : ℕ) (o : Entry) → slice_get es j ≡ Some o → o.node ≡ s → ⊥
lacks_node es s h j o at same = h j (nodes_of-Some es j o at ∙ ap Some same)

-- a tree of nodes from which one node with its number is taken
pub forgets : (old new : Node → Option ℕ) (s : Node) (k : ℕ) → old s ≡ Some k → ((q : Node) → new q ≡ cond (is_eq (node_cmp s q)) None (old q))
    → Forgets old new s k
forgets old new s k at updates = record {
  stays = λ q n h other. stays q n h other (is_eq (node_cmp s q)) refl;
  was = λ q n h. was q n h (is_eq (node_cmp s q)) refl;
  gone = λ h. absurd (let w : None ≡ Some k = sym (updates s ∙ ap (λ b. cond b None (old s)) (node_cmp-refl s)) ∙ h in cc);
}
  where
    stays : (q : Node) (n : ℕ) → old q ≡ Some n → (n ≡ k → ⊥) → (b : Bool) → is_eq (node_cmp s q) ≡ b → new q ≡ Some n
    stays q n h other true e = absurd (other (same_Some n k (sym h ∙ ap old (sym (node_cmp-same s q e)) ∙ at)))
    stays q n h other false e = updates q ∙ ap (λ b. cond b None (old q)) e ∙ h

    was : (q : Node) (n : ℕ) → new q ≡ Some n → (b : Bool) → is_eq (node_cmp s q) ≡ b → old q ≡ Some n
    was q n h true e = absurd (let w : None ≡ Some n = sym (updates q ∙ ap (λ b. cond b None (old q)) e) ∙ h in cc)
    was q n h false e = sym (updates q ∙ ap (λ b. cond b None (old q)) e) ∙ h

-- a tree of nodes from which those from the number `len` on are taken, as far as `number`
pub record Forgotten (old now : Node → Option ℕ) (len number : ℕ) : Type 0 where
  pub stays : (n : ℕ) (s : Node) → n < len → old s ≡ Some n → now s ≡ Some n
  pub told : (n : ℕ) (s : Node) → now s ≡ Some n → (old s ≡ Some n) × (n < number → n < len)

pub Forgotten-none : (old : Node → Option ℕ) (len : ℕ) → Forgotten old old len len
Forgotten-none old len = record { stays = λ n s lt h. h; told = λ n s h. (h, λ k. k) }

pub Forgotten-more : (es : List Entry) (old now new : Node → Option ℕ) (len number : ℕ) (e : Entry)
    → ((n : ℕ) (s : Node) → old s ≡ Some n → Has (nodes_of es) n s) → slice_get es number ≡ Some e → len ≤ number
    → Forgotten old now len number → Forgets now new e.node number → Forgotten old new len (number + 1)
Forgotten-more es old now new len number e has at low t f = record {
  stays = λ n s lt h. f.stays s n (t.stays n s lt h) (λ k. absurd (omega (arith, lt, low, k)));
  told = λ n s h. let o = t.told n s (f.was s n h) in (o.0, below n s h o.0 o.1);
}
  where
    gone : (n : ℕ) (s : Node) → new s ≡ Some n → old s ≡ Some n → n ≡ number → ⊥
    gone n s h o k =
        let same : e.node ≡ s = same_Some e.node s (sym (nodes_of-Some es number e at) ∙ ap (slice_get (nodes_of es)) (sym k) ∙ has n s o) in
        f.gone (ap new same ∙ h ∙ ap Some k)

    below : (n : ℕ) (s : Node) → new s ≡ Some n → old s ≡ Some n → (n < number → n < len) → n < number + 1 → n < len
    below n s h o lower lt = ⊎_elim (λ k. absurd (gone n s h o k.1)) (λ k. lower (omega (arith, lt, k.1))) (eqb_tells n number)

pub Forgotten-all : (es : List Entry) (old now : Node → Option ℕ) (len number : ℕ) → ((n : ℕ) (s : Node) → old s ≡ Some n → Has (nodes_of es) n s)
    → length es ≤ number → Forgotten old now len number → (s : Node) (n : ℕ) → now s ≡ Some n → (old s ≡ Some n) × (n < len)
Forgotten-all es old now len number has past t s n h =
    let o = t.told n s h in
    let w = slice_get_within (nodes_of es) n s (has n s o.0) in
    (o.0, o.1 (omega (arith, w, past, length-nodes_of es)))

-- the table of entries whose last ones are given up
pub indexed_take : (n : ℕ) (es : List Entry) (children : List Children) (kept less : Node → Option ℕ) → IsIndexed (nodes_of es) children kept
    → ((s : Node) (i : ℕ) → i < n → kept s ≡ Some i → less s ≡ Some i) → ((s : Node) (i : ℕ) → less s ≡ Some i → (kept s ≡ Some i) × (i < n))
    → IsIndexed (nodes_of (take n es)) (take n children) less
indexed_take n es children kept less t stay go = subst (λ l. IsIndexed l (take n children) less) (sym (nodes_of-take n es))
    (IsIndexed-take n (nodes_of es) children kept less t stay go)
