-- Lists of places in the order of their sets: a further place, one fewer, and what stands where.
use Rattle.std.proofs.Common.{◌≡◌, ℕ, zero, suc, ◌+◌, ◌-◌, ◌<◌, ◌≤◌, ◌⊎◌, inl, inr, refl, sym, ap, subst, ◌∙◌, arith, List, [], ◌∷◌, ◌++◌, length, length-append, Bool, true, false, cond, Option, Some, true≢false}
use Rattle.std.specs.Prelude.{slice_get, insert, remove, Vec}
use Rattle.std.specs.Map.{lookup}
use Rattle.std.proofs.lemmas.List.Edits.{length-insert, get_or-insert_at, get_or-insert_below, get_or-insert_above, length-remove, get_or-remove_below, get_or-remove_above}
use Rattle.std.proofs.lemmas.Option.{same_Some, slice_get_within}
use Rattle.hol_laws.specs.PlaceLaws.{slice_get-append, slice_get-last}
use Rattle.hol_term.specs.declared.TermId.{TermId}
use Rattle.sequent.specs.Sequents.{same_id}
use Rattle.compose.specs.declared.pool.Said.{Said}
use Rattle.compose.specs.Orders.{has, AreSame, IsBefore}
use Rattle.compose.specs.Listed.{hyps_in, set_at, place_at, IsAmong, AreWithin, AreOrdered, IsFound, IsBetween, IsNoted, IsStruck, IsListed, items_of, list_of, AreListed}
use Rattle.compose.proofs.IdLaws.{same_id-true, same_id-itself}
use Rattle.compose.proofs.OrderLaws.{nat_cases, before-not_same, before-trans}

-- an item of a list with one more at the end is one of the list, or the one at the end
pub slice_get-push : {A : Type 0} (xs : List A) (x : A) (i : ℕ) (y : A) → slice_get (xs ++ x ∷ []) i ≡ Some y → (slice_get xs i ≡ Some y)
    ⊎ ((i ≡ length xs) × (x ≡ y))
slice_get-push [] x zero y e = inr (refl, same_Some _ _ e)
slice_get-push [] x (suc i) y e = absurd (cc)
slice_get-push (z ∷ xs) x zero y e = inl e
slice_get-push (z ∷ xs) x (suc i) y e = go (slice_get-push xs x i y e)
  where
    go : (slice_get xs i ≡ Some y) ⊎ ((i ≡ length xs) × (x ≡ y)) → (slice_get (z ∷ xs) (suc i) ≡ Some y) ⊎ ((suc i ≡ suc (length xs)) × (x ≡ y))
    go (inl f) = inl f
    go (inr f) = inr (ap suc f.0, f.1)

-- a place below the length has a sequent
pub held_at : (held : List Said) (p : ℕ) → p < length held → (s : Said) × (slice_get held p ≡ Some s)
held_at [] p l = absurd (omega (arith, l))
held_at (s ∷ held) zero l = (s, refl)
held_at (s ∷ held) (suc p) l = held_at held p (omega (arith, l))

-- the set at a place stays where a sequent comes at the end
pub set_at-push : (held : List Said) (s : Said) (p : ℕ) → p < length held → set_at (held ++ s ∷ []) p ≡ set_at held p
set_at-push held s p l = let w = held_at held p l in ap hyps_in (slice_get-append held (s ∷ []) p w.0 w.1) ∙ sym (ap hyps_in w.1)

-- what comes first, by places that are the same
before_at : (old new : List Said) (x y p q : ℕ) → set_at new x ≡ set_at old p → set_at new y ≡ set_at old q → IsBefore (set_at old p) (set_at old q)
    → IsBefore (set_at new x) (set_at new y)
before_at old new x y p q e f h = subst (λ a. IsBefore a (set_at new y)) (sym e) (subst (λ b. IsBefore (set_at old p) b) (sym f) h)

module _ (held : List Said) (s : Said) (list : List ℕ) (within : AreWithin held list) where
  -- an order stays where a sequent comes at the end
  pub AreOrdered-push : AreOrdered held list → AreOrdered (held ++ s ∷ []) list
  AreOrdered-push h i j l w =
      before_at held (held ++ s ∷ []) (place_at list i) (place_at list j) (place_at list i) (place_at list j)
      (set_at-push held s (place_at list i) (within i (omega (arith, l, w)))) (set_at-push held s (place_at list j) (within j w)) (h i j l w)

  -- and where it is taken back
  pub AreOrdered-pop : AreOrdered (held ++ s ∷ []) list → AreOrdered held list
  AreOrdered-pop h i j l w =
      before_at (held ++ s ∷ []) held (place_at list i) (place_at list j) (place_at list i) (place_at list j)
      (sym (set_at-push held s (place_at list i) (within i (omega (arith, l, w))))) (sym (set_at-push held s (place_at list j) (within j w))) (h i j l w)

-- each place of a list still has a sequent
pub within-push : (held : List Said) (s : Said) (list : List ℕ) → AreWithin held list → AreWithin (held ++ s ∷ []) list
within-push held s list h i l = let w = h i l in let long = length-append held (s ∷ []) in omega (arith, w, long)

-- two places of a list with one set are one
pub one_of_each : (held : List Said) (list : List ℕ) (i j : ℕ) → AreOrdered held list → i < length list → j < length list
    → AreSame (set_at held (place_at list i)) (set_at held (place_at list j)) → i ≡ j
one_of_each held list i j h v w e = go (nat_cases i j)
  where
    go : (i < j) ⊎ ((i ≡ j) ⊎ (j < i)) → i ≡ j
    go (inl l) = absurd (before-not_same _ _ (h i j l w) e)
    go (inr (inl f)) = f
    go (inr (inr l)) = absurd (before-not_same _ _ (h j i l v) (λ n. sym (e n)))

-- the middle of what is left is looked at
module _ (held : List Said) (list : List ℕ) (set : List TermId) (low high middle : ℕ) (ordered : AreOrdered held list) (h : IsBetween held list set low high)
    (w : middle < high) where
  pub between-above : low ≤ middle → IsBefore (set_at held (place_at list middle)) set → IsBetween held list set (middle + 1) high
  between-above m b = record { order = omega (arith, w); within = h.within; below = below; above = h.above }
    where
      below : (i : ℕ) → i < middle + 1 → IsBefore (set_at held (place_at list i)) set
      below i l = go (nat_cases i middle)
        where
          go : (i < middle) ⊎ ((i ≡ middle) ⊎ (middle < i)) → IsBefore (set_at held (place_at list i)) set
          go (inl less) = before-trans _ _ _ (ordered i middle less (let within = h.within in omega (arith, w, within))) b
          go (inr (inl e)) = subst (λ k. IsBefore (set_at held (place_at list k)) set) (sym e) b
          go (inr (inr more)) = absurd (omega (arith, l, more))

  pub between-below : low ≤ middle → IsBefore set (set_at held (place_at list middle)) → IsBetween held list set low middle
  between-below m b = record { order = m; within = (let within = h.within in omega (arith, w, within)); below = h.below; above = above }
    where
      above : (i : ℕ) → middle ≤ i → i < length list → IsBefore set (set_at held (place_at list i))
      above i l v = go (nat_cases middle i)
        where
          go : (middle < i) ⊎ ((middle ≡ i) ⊎ (i < middle)) → IsBefore set (set_at held (place_at list i))
          go (inl less) = before-trans _ _ _ b (ordered middle i less v)
          go (inr (inl e)) = subst (λ k. IsBefore set (set_at held (place_at list k))) e b
          go (inr (inr more)) = absurd (omega (arith, l, more))

-- at the beginning all is left
pub between-begins : (held : List Said) (list : List ℕ) (set : List TermId) → IsBetween held list set 0 (length list)
between-begins held list set = record
    { order = omega arith; within = omega arith; below = λ i l. absurd (omega (arith, l)); above = λ i l v. absurd (omega (arith, l, v)) }

-- an earlier place has the set already
pub noted-known : (held : List Said) (list : List ℕ) (place i : ℕ) → AreWithin held list → AreOrdered held list → length held ≡ place + 1
    → IsFound held list (set_at held place) i → IsNoted held place list list
noted-known held list place i within ordered last f = record {
  ordered = ordered;
  only = λ j l. inl (j, l, refl);
  kept = λ q a. a;
  stands = (place_at list i, (i, f.within, refl), (let w = within i f.within in omega (arith, w, last)), f.same);
}

module _ (list : List ℕ) (k place : ℕ) (w : k ≤ length list) where
  abbrev StandsAt : ℕ → Type 0
  StandsAt i = ((i < k) × (place_at (insert list k place) i ≡ place_at list i))
      ⊎ (((i ≡ k) × (place_at (insert list k place) i ≡ place))
      ⊎ ((j : ℕ) × (i ≡ j + 1) × (k ≤ j) × (j < length list) × (place_at (insert list k place) i ≡ place_at list j)))

  -- what stands where once a place is put in
  stands_at : (i : ℕ) → i < length (insert list k place) → StandsAt i
  stands_at i l = go (nat_cases i k)
    where
      go : (i < k) ⊎ ((i ≡ k) ⊎ (k < i)) → StandsAt i
      go (inl less) = inl (less, get_or-insert_below list k place 0 i less w)
      go (inr (inl e)) = inr (inl (e, ap (place_at (insert list k place)) e ∙ get_or-insert_at list k place 0 w))
      go (inr (inr more)) =
          let back : i ≡ (i - 1) + 1 = omega (arith, more) in
          let long = length-insert list k place w in
          inr (inr (
            i - 1,
            back,
            omega (arith, more),
            omega (arith, more, l, long),
            ap (place_at (insert list k place)) back
                ∙ get_or-insert_above list k place 0 (i - 1) (omega (arith, more)) w,
          ))

  still_among : (q : ℕ) → IsAmong list q → IsAmong (insert list k place) q
  still_among q a = go (nat_cases a.0 k)
    where
      go : (a.0 < k) ⊎ ((a.0 ≡ k) ⊎ (k < a.0)) → IsAmong (insert list k place) q
      go (inl less) =
          (a.0, (let long = length-insert list k place w in let l = a.1 in omega (arith, l, long)), get_or-insert_below list k place 0 a.0 less w ∙ a.2)
      go (inr (inl e)) = (
        a.0 + 1,
        (let long = length-insert list k place w in let l = a.1 in omega (arith, l, long)),
        get_or-insert_above list k place 0 a.0 (omega (arith, e)) w ∙ a.2,
      )
      go (inr (inr more)) = (
        a.0 + 1,
        (let long = length-insert list k place w in let l = a.1 in omega (arith, l, long)),
        get_or-insert_above list k place 0 a.0 (omega (arith, more)) w ∙ a.2,
      )

-- a place is put in where its set belongs
pub noted-new : (held : List Said) (list : List ℕ) (place k : ℕ) → AreOrdered held list → IsBetween held list (set_at held place) k k
    → IsNoted held place list (insert list k place)
noted-new held list place k ordered h = record {
  ordered = λ i j l v. in_order i j l (at i (omega (arith, l, v))) (at j v);
  only = λ i l. from i (at i l);
  kept = still_among list k place h.within;
  stands = (
    place,
    (
      k,
      (let long = length-insert list k place h.within in let w = h.within in omega (arith, long, w)),
      get_or-insert_at list k place 0 h.within,
    ),
    omega arith,
    λ n. refl,
  );
}
  where
    at : (i : ℕ) → i < length (insert list k place) → StandsAt list k place h.within i
    at = stands_at list k place h.within

    from : (i : ℕ) → StandsAt list k place h.within i → IsAmong list (place_at (insert list k place) i) ⊎ (place_at (insert list k place) i ≡ place)
    from i (inl a) = inl (i, (let l = a.0 in let w = h.within in omega (arith, l, w)), sym a.1)
    from i (inr (inl a)) = inr a.1
    from i (inr (inr a)) = inl (a.0, a.3, sym a.4)

    set : {x p : ℕ} → x ≡ p → set_at held x ≡ set_at held p
    set e = ap (set_at held) e

    in_order : (i j : ℕ) → i < j → StandsAt list k place h.within i → StandsAt list k place h.within j
        → IsBefore (set_at held (place_at (insert list k place) i)) (set_at held (place_at (insert list k place) j))
    in_order i j l (inl a) (inl b) = before_at held held _ _ _ _ (set a.1) (set b.1) (ordered i j l (let m = b.0 in let w = h.within in omega (arith, m, w)))
    in_order i j l (inl a) (inr (inl b)) = before_at held held _ _ (place_at list i) place (set a.1) (set b.1) (h.below i a.0)
    in_order i j l (inl a) (inr (inr b)) = before_at held held _ _ _ _ (set a.1) (set b.4)
        (ordered i b.0 (let m = a.0 in let n = b.2 in omega (arith, m, n)) b.3)
    in_order i j l (inr (inl a)) (inl b) = absurd (let m = a.0 in let n = b.0 in omega (arith, l, m, n))
    in_order i j l (inr (inl a)) (inr (inl b)) = absurd (let m = a.0 in let n = b.0 in omega (arith, l, m, n))
    in_order i j l (inr (inl a)) (inr (inr b)) = before_at held held _ _ place (place_at list b.0) (set a.1) (set b.4) (h.above b.0 b.2 b.3)
    in_order i j l (inr (inr a)) (inl b) = absurd (let m = a.1 in let n = a.2 in let o = b.0 in omega (arith, l, m, n, o))
    in_order i j l (inr (inr a)) (inr (inl b)) = absurd (let m = a.1 in let n = a.2 in let o = b.0 in omega (arith, l, m, n, o))
    in_order i j l (inr (inr a)) (inr (inr b)) = before_at held held _ _ _ _ (set a.4) (set b.4)
        (ordered a.0 b.0 (let m = a.1 in let n = b.1 in omega (arith, l, m, n)) b.3)

-- a list of one place
pub noted-alone : (held : List Said) (place : ℕ) → IsNoted held place [] (place ∷ [])
noted-alone held place = record {
  ordered = λ i j l w. absurd (omega (arith, l, w));
  only = λ i l. inr (alone i l);
  kept = λ q a. absurd (let l = a.1 in omega (arith, l));
  stands = (place, (0, omega arith, refl), omega arith, λ n. refl);
}
  where
    alone : (i : ℕ) → i < 1 → place_at (place ∷ []) i ≡ place
    alone zero l = refl
    alone (suc i) l = absurd (omega (arith, l))

module _ (list : List ℕ) (k : ℕ) (w : k < length list) where
  abbrev StoodAt : ℕ → Type 0
  StoodAt i = (j : ℕ) × (j < length list) × (j ≡ k → ⊥) × (place_at (remove list k) i ≡ place_at list j) × (((i < k) × (j ≡ i)) ⊎ ((k ≤ i) × (j ≡ i + 1)))

  -- what stands where once a place is struck off
  stood_at : (i : ℕ) → i < length (remove list k) → StoodAt i
  stood_at i l = go (nat_cases i k)
    where
      long : length (remove list k) + 1 ≡ length list
      long = length-remove list k w

      go : (i < k) ⊎ ((i ≡ k) ⊎ (k < i)) → StoodAt i
      go (inl less) = (i, omega (arith, l, long), (λ e. omega (arith, e, less)), get_or-remove_below list k 0 i less w, inl (less, refl))
      go (inr (inl e)) =
          (i + 1, omega (arith, l, long), (λ f. omega (arith, e, f)), get_or-remove_above list k 0 i (omega (arith, e)) w, inr (omega (arith, e), refl))
      go (inr (inr more)) = (
        i + 1,
        omega (arith, l, long),
        (λ f. omega (arith, more, f)),
        get_or-remove_above list k 0 i (omega (arith, more)) w,
        inr (omega (arith, more), refl),
      )

-- a place is struck off
pub struck : (held : List Said) (list : List ℕ) (place k : ℕ) → k < length list → place_at list k ≡ place → AreOrdered held list
    → IsStruck held place list (remove list k)
struck held list place k w e ordered = record {
  ordered = λ i j l v. in_order i j l (at i (omega (arith, l, v))) (at j v);
  only = λ i l. (let a = at i l in ((a.0, a.1, sym a.3), λ f. a.2 (one_of_each held list a.0 k ordered a.1 w (same a.0 (sym a.3 ∙ f)))));
  kept = λ q a n. still a.0 q a.1 a.2 n (nat_cases a.0 k);
}
  where
    at : (i : ℕ) → i < length (remove list k) → StoodAt list k w i
    at = stood_at list k w

    same : (j : ℕ) → place_at list j ≡ place → AreSame (set_at held (place_at list j)) (set_at held (place_at list k))
    same j f n = ap (λ p. has (set_at held p) n) (f ∙ sym e)

    in_order : (i j : ℕ) → i < j → StoodAt list k w i → StoodAt list k w j
        → IsBefore (set_at held (place_at (remove list k) i)) (set_at held (place_at (remove list k) j))
    in_order i j l a b = before_at held held _ _ (place_at list a.0) (place_at list b.0) (ap (set_at held) a.3) (ap (set_at held) b.3)
        (ordered a.0 b.0 (go a.4 b.4) b.1)
      where
        go : ((i < k) × (a.0 ≡ i)) ⊎ ((k ≤ i) × (a.0 ≡ i + 1)) → ((j < k) × (b.0 ≡ j)) ⊎ ((k ≤ j) × (b.0 ≡ j + 1)) → a.0 < b.0
        go (inl x) (inl y) = let m = x.1 in let n = y.1 in omega (arith, l, m, n)
        go (inl x) (inr y) = let m = x.1 in let n = y.1 in omega (arith, l, m, n)
        go (inr x) (inl y) = absurd (let m = x.0 in let n = y.0 in omega (arith, l, m, n))
        go (inr x) (inr y) = let m = x.1 in let n = y.1 in omega (arith, l, m, n)

    still : (i q : ℕ) → i < length list → place_at list i ≡ q → (q ≡ place → ⊥) → (i < k) ⊎ ((i ≡ k) ⊎ (k < i)) → IsAmong (remove list k) q
    still i q l f n (inl less) = (i, (let long = length-remove list k w in omega (arith, less, w, long)), get_or-remove_below list k 0 i less w ∙ f)
    still i q l f n (inr (inl g)) = absurd (n (sym f ∙ ap (place_at list) g ∙ e))
    still i q l f n (inr (inr more)) =
        let back : i ≡ (i - 1) + 1 = omega (arith, more) in (
          i - 1,
          (let long = length-remove list k w in omega (arith, more, l, long)),
          get_or-remove_above list k 0 (i - 1) (omega (arith, more)) w
              ∙ sym (ap (place_at list) back) ∙ f,
        )

-- there was no such place
pub struck-none : (held : List Said) (list : List ℕ) (place : ℕ) → ((i : ℕ) → i < length list → place_at list i ≡ place → ⊥) → AreOrdered held list
    → IsStruck held place list list
struck-none held list place none ordered = record { ordered = ordered; only = λ i l. ((i, l, refl), none i l); kept = λ q a n. a }

-- a list of places of one conclusion, as sequents are added and taken back
module _ (held : List Said) (id : TermId) (list : List ℕ) where
  pub within-all : IsListed held id list → AreWithin held list
  within-all h i l = let w = h.within i l in slice_get_within held (place_at list i) w.0 w.1

  within_among : (q : ℕ) → AreWithin held list → IsAmong list q → q < length held
  within_among q h a = subst (λ p. p < length held) a.2 (h a.0 a.1)

  module _ (s : Said) where
    same_pushed : (q : ℕ) (set : List TermId) → q < length held → AreSame (set_at held q) set → AreSame (set_at (held ++ s ∷ []) q) set
    same_pushed q set l h n = ap (λ x. has x n) (set_at-push held s q l) ∙ h n

    same_popped : (q : ℕ) (set : List TermId) → q < length held → AreSame (set_at (held ++ s ∷ []) q) set → AreSame (set_at held q) set
    same_popped q set l h n = sym (ap (λ x. has x n) (set_at-push held s q l)) ∙ h n

    other_conclusion : (t : Said) → same_id s.sequent.concl id ≡ false → s ≡ t → t.sequent.concl ≡ id → ⊥
    other_conclusion t apart e c = true≢false (sym (same_id-itself id) ∙ ap (λ p. same_id p id) (sym c ∙ sym (ap (λ (u : Said). u.sequent.concl) e)) ∙ apart)

    -- a sequent of another conclusion
    pub listed-other : same_id s.sequent.concl id ≡ false → IsListed held id list → IsListed (held ++ s ∷ []) id list
    listed-other apart h = record {
      within = λ i l. (let w = h.within i l in (w.0, slice_get-append held (s ∷ []) (place_at list i) w.0 w.1, w.2));
      ordered = AreOrdered-push held s list (within-all h) h.ordered;
      first = λ p t e c. first p t c (slice_get-push held s p t e);
    }
      where
        first : (p : ℕ) (t : Said) → t.sequent.concl ≡ id → (slice_get held p ≡ Some t) ⊎ ((p ≡ length held) × (s ≡ t)) → (q : ℕ) × IsAmong list q × (q ≤ p)
            × AreSame (set_at (held ++ s ∷ []) q) t.sequent.hyps
        first p t c (inl e) = let w = h.first p t e c in (w.0, w.1, w.2, same_pushed w.0 t.sequent.hyps (within_among w.0 (within-all h) w.1) w.3)
        first p t c (inr e) = absurd (other_conclusion t apart e.1 c)

    -- one of this conclusion, which is noted
    pub listed-noted : (new : List ℕ) → s.sequent.concl ≡ id → IsListed held id list → IsNoted (held ++ s ∷ []) (length held) list new
        → IsListed (held ++ s ∷ []) id new
    listed-noted new own h n = record
        { within = λ i l. within i (n.only i l); ordered = n.ordered; first = λ p t e c. first p t c (slice_get-push held s p t e) }
      where
        within : (i : ℕ) → IsAmong list (place_at new i) ⊎ (place_at new i ≡ length held) → (t : Said) × (slice_get (held ++ s ∷ []) (place_at new i) ≡ Some t)
            × (t.sequent.concl ≡ id)
        within i (inl a) = let w = h.within a.0 a.1 in
            (w.0, ap (slice_get (held ++ s ∷ [])) (sym a.2) ∙ slice_get-append held (s ∷ []) (place_at list a.0) w.0 w.1, w.2)
        within i (inr e) = (s, ap (slice_get (held ++ s ∷ [])) e ∙ slice_get-last held s, own)

        first : (p : ℕ) (t : Said) → t.sequent.concl ≡ id → (slice_get held p ≡ Some t) ⊎ ((p ≡ length held) × (s ≡ t)) → (q : ℕ) × IsAmong new q × (q ≤ p)
            × AreSame (set_at (held ++ s ∷ []) q) t.sequent.hyps
        first p t c (inl e) = let w = h.first p t e c in (w.0, n.kept w.0 w.1, w.2, same_pushed w.0 t.sequent.hyps (within_among w.0 (within-all h) w.1) w.3)
        first p t c (inr e) =
            let w = n.stands in
            let set : set_at (held ++ s ∷ []) (length held) ≡ t.sequent.hyps = ap hyps_in (slice_get-last held s) ∙ ap (λ (u : Said). u.sequent.hyps) e.1 in
            (w.0, w.1, subst (λ m. w.0 ≤ m) (sym e.0) w.2, λ m. w.3 m ∙ ap (λ x. has x m) set)

    -- a sequent of another conclusion is taken back
    pub listed-other-back : same_id s.sequent.concl id ≡ false → IsListed (held ++ s ∷ []) id list → IsListed held id list
    listed-other-back apart h = record { within = within; ordered = AreOrdered-pop held s list inside h.ordered; first = first }
      where
        go : (i : ℕ) (t : Said) → t.sequent.concl ≡ id → (slice_get held (place_at list i) ≡ Some t) ⊎ ((place_at list i ≡ length held) × (s ≡ t))
            → slice_get held (place_at list i) ≡ Some t
        go i t c (inl e) = e
        go i t c (inr e) = absurd (other_conclusion t apart e.1 c)

        within : (i : ℕ) → i < length list → (t : Said) × (slice_get held (place_at list i) ≡ Some t) × (t.sequent.concl ≡ id)
        within i l = let w = h.within i l in (w.0, go i w.0 w.2 (slice_get-push held s (place_at list i) w.0 w.1), w.2)

        inside : AreWithin held list
        inside i l = let w = within i l in slice_get_within held (place_at list i) w.0 w.1

        first : (p : ℕ) (t : Said) → slice_get held p ≡ Some t → t.sequent.concl ≡ id → (q : ℕ) × IsAmong list q × (q ≤ p)
            × AreSame (set_at held q) t.sequent.hyps
        first p t e c = let w = h.first p t (slice_get-append held (s ∷ []) p t e) c in
            (w.0, w.1, w.2, same_popped w.0 t.sequent.hyps (within_among w.0 inside w.1) w.3)

    -- one of this conclusion is taken back, and struck off
    pub listed-struck : (new : List ℕ) → IsListed (held ++ s ∷ []) id list → IsStruck (held ++ s ∷ []) (length held) list new → IsListed held id new
    listed-struck new h n = record { within = within; ordered = AreOrdered-pop held s new inside n.ordered; first = first }
      where
        go : (p : ℕ) (t : Said) → (p ≡ length held → ⊥) → (slice_get held p ≡ Some t) ⊎ ((p ≡ length held) × (s ≡ t)) → slice_get held p ≡ Some t
        go p t apart (inl e) = e
        go p t apart (inr e) = absurd (apart e.0)

        within : (i : ℕ) → i < length new → (t : Said) × (slice_get held (place_at new i) ≡ Some t) × (t.sequent.concl ≡ id)
        within i l =
            let a = n.only i l in
            let w = h.within a.0.0 a.0.1 in
            (w.0, go (place_at new i) w.0 a.1 (slice_get-push held s (place_at new i) w.0 (ap (slice_get (held ++ s ∷ [])) (sym a.0.2) ∙ w.1)), w.2)

        inside : AreWithin held new
        inside i l = let w = within i l in slice_get_within held (place_at new i) w.0 w.1

        first : (p : ℕ) (t : Said) → slice_get held p ≡ Some t → t.sequent.concl ≡ id → (q : ℕ) × IsAmong new q × (q ≤ p)
            × AreSame (set_at held q) t.sequent.hyps
        first p t e c =
            let w = h.first p t (slice_get-append held (s ∷ []) p t e) c in
            let l : w.0 < length held = let m = slice_get_within held p t e in let o = w.2 in omega (arith, m, o) in
            (w.0, n.kept w.0 w.1 (λ f. omega (arith, f, l)), w.2, same_popped w.0 t.sequent.hyps l w.3)

-- the lists of all conclusions, where that of one changes
module _ {Z : Type 0} (held : List Said) (s : Said) (old new : List (TermId × Vec ℕ Z))
    (others : (id : TermId) → same_id s.sequent.concl id ≡ false → list_of new id ≡ list_of old id) where
  pub AreListed-add : AreListed held old → IsNoted (held ++ s ∷ []) (length held) (list_of old s.sequent.concl) (list_of new s.sequent.concl)
      → AreListed (held ++ s ∷ []) new
  AreListed-add h n id = go (same_id s.sequent.concl id) refl
    where
      go : (b : Bool) → same_id s.sequent.concl id ≡ b → IsListed (held ++ s ∷ []) id (list_of new id)
      go true e =
          let own = same_id-true s.sequent.concl id e in
          subst (λ x. IsListed (held ++ s ∷ []) x (list_of new x)) own
          (listed-noted held s.sequent.concl (list_of old s.sequent.concl) s (list_of new s.sequent.concl) refl (h s.sequent.concl) n)
      go false e = subst (IsListed (held ++ s ∷ []) id) (sym (others id e)) (listed-other held id (list_of old id) s e (h id))

  pub AreListed-back : AreListed (held ++ s ∷ []) old → IsStruck (held ++ s ∷ []) (length held) (list_of old s.sequent.concl) (list_of new s.sequent.concl)
      → AreListed held new
  AreListed-back h n id = go (same_id s.sequent.concl id) refl
    where
      go : (b : Bool) → same_id s.sequent.concl id ≡ b → IsListed held id (list_of new id)
      go true e =
          let own = same_id-true s.sequent.concl id e in
          subst (λ x. IsListed held x (list_of new x)) own
          (listed-struck held s.sequent.concl (list_of old s.sequent.concl) s (list_of new s.sequent.concl) (h s.sequent.concl) n)
      go false e = subst (IsListed held id) (sym (others id e)) (listed-other-back held id (list_of old id) s e (h id))

-- a list was lent, and has the same places
pub list_of-kept : {Z : Type 0} (old new : List (TermId × Vec ℕ Z)) (concl : TermId) (was now : Vec ℕ Z) → Some was ≡ lookup (same_id concl) old
    → ((id : TermId) → lookup (same_id id) new ≡ cond (same_id concl id) (Some now) (lookup (same_id id) old))
    → now.items ≡ was.items → (id : TermId) → list_of new id ≡ list_of old id
list_of-kept old new concl was now there update same id = ap items_of (update id) ∙ go (same_id concl id) refl
  where
    go : (b : Bool) → same_id concl id ≡ b → items_of (cond b (Some now) (lookup (same_id id) old)) ≡ list_of old id
    go true e = same ∙ ap items_of there ∙ ap (list_of old) (same_id-true concl id e)
    go false e = refl

-- the lists say the same where each list is the same
pub AreListed-same : {Y Z : Type 0} (held : List Said) (old : List (TermId × Vec ℕ Y)) (new : List (TermId × Vec ℕ Z))
    → ((id : TermId) → list_of new id ≡ list_of old id) → AreListed held old → AreListed held new
AreListed-same held old new e h id = subst (IsListed held id) (sym (e id)) (h id)

-- the list of a conclusion that was read
pub listed_now : {Z : Type 0} (held pool : List Said) (lists : List (TermId × Vec ℕ Z)) (id : TermId) (list : List ℕ) → held ≡ pool → AreListed held lists
    → list ≡ list_of lists id → IsListed pool id list
listed_now held pool lists id list e h f = subst (λ l. IsListed pool id l) (sym f) (subst (λ p. IsListed p id (list_of lists id)) e (h id))

-- a place of a list is one of the pool
pub place-within : (pool : List Said) (id : TermId) (list : List ℕ) (i : ℕ) → IsListed pool id list → i < length list → place_at list i < length pool
place-within pool id list i h l = let w = h.within i l in slice_get_within pool (place_at list i) w.0 w.1
