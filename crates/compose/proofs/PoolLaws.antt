-- What a look-up finds: the first sequent that is the same, by the list of its conclusion.
use Rattle.std.proofs.Common.{◌≡◌, ℕ, zero, suc, ◌-◌, ◌<◌, ◌≤◌, ◌⊎◌, inl, inr, refl, sym, ap, subst, ◌∙◌, arith, List, [], ◌∷◌, ◌++◌, length, length-append, take, get_or, Bool, true, false, ◌&&◌, ◌||◌, Option, None, Some, Result, Ok, Err, OnOk, OnErr, true≢false}
use Rattle.std.specs.Prelude.{◌==◌, slice_get}
use Rattle.std.proofs.lemmas.List.{map-append}
use Rattle.std.specs.Bool.{Decides}
use Rattle.std.specs.List.{find, list_all, AllByRecursion}
use Rattle.std.proofs.lemmas.Bool.{eqb-true}
use Rattle.std.proofs.lemmas.Bool.Decides.{Decides-eqb, Decides-like, same_from_decides}
use Rattle.std.proofs.lemmas.Option.{same_Some, slice_get-map, slice_get_read}
use Rattle.std.proofs.Math.Path.{ap₂}
use Rattle.std.proofs.Math.Seq.{take-length, take-append_seam}
use Rattle.hol_spec.specs.Lists.{is_in}
use Rattle.hol_spec.specs.Sequents.{within}
use Rattle.hol_spec.specs.Terms.{term_eq}
use Rattle.hol_laws.specs.ListLaws.{is_in-map}
use Rattle.hol_laws.specs.RenamingLaws.{length_map}
use Rattle.hol_laws.specs.TermLaws.{term_eq-Decides}
use Rattle.hol_term.specs.declared.TermId.{TermId}
use Rattle.hol_term.specs.Tables.{Trees, term_at, terms_at, AreKnown, IsDistinct}
use Rattle.hol_term.specs.TableLaws.{term_in-same}
use Rattle.sequent.specs.declared.Sequent.{Sequent}
use Rattle.sequent.specs.Sequents.{same_id, sequent_at, IsKnown}
use Rattle.compose.specs.declared.pool.Said.{Said}
use Rattle.compose.specs.Orders.{has, AreSame}
use Rattle.compose.specs.Listed.{hyps_in, set_at, place_at, IsFound, IsBetween, IsListed}
use Rattle.compose.specs.Places.{first_place}
use Rattle.compose.specs.Pools.{is_same_at, steps_in, step_of, AreSequentsKnown}
use Rattle.compose.proofs.IdLaws.{same_id-true, same_id-itself}
use Rattle.compose.proofs.OrderLaws.{both_ways, before-not_same, or-true}
use Rattle.compose.proofs.ListedLaws.{one_of_each}
use Rattle.compose.proofs.PlaceLaws.{first_place-at, first_place-nowhere, find-below, find-not_below, find-nowhere}

first_half : (a b : Bool) → (a && b) ≡ true → a ≡ true
first_half true b e = refl
first_half false b e = absurd (cc)

second_half : (a b : Bool) → (a && b) ≡ true → b ≡ true
second_half true b e = e
second_half false b e = absurd (cc)

both_halves : (a b : Bool) → a ≡ true → b ≡ true → (a && b) ≡ true
both_halves true b e f = f
both_halves false b e f = absurd (cc)

-- what is added at the end is taken off again
pub take-push : {A : Type 0} (xs ys : List A) (x : A) → ys ≡ xs ++ x ∷ [] → take (length ys - 1) ys ≡ xs
take-push xs ys x e = rw e (ap (λ n. take n (xs ++ x ∷ [])) (let l = length-append xs (x ∷ []) in omega (arith, l)) ∙ take-append_seam xs (x ∷ []))

-- and from the steps
pub steps-push : (held : List Said) (s : Said) (steps : List ℕ) (step : ℕ) → steps ≡ steps_in held → s.step ≡ step → steps ++ step ∷ []
    ≡ steps_in (held ++ s ∷ [])
steps-push held s steps step e f = ap₂ (λ l n. l ++ n ∷ []) e (sym f) ∙ sym (map-append (λ (u : Said). u.step) held (s ∷ []))

pub steps-pop : (held : List Said) (s : Said) (steps : List ℕ) → steps ≡ steps_in (held ++ s ∷ []) → take (length steps - 1) steps ≡ steps_in held
steps-pop held s steps e = take-push (steps_in held) steps s.step (e ∙ map-append (λ (u : Said). u.step) held (s ∷ []))

-- what holds of an answer, and what follows from it
pub on_err_map : {T E A B : Type 0} (r : Result T E) → (A → B) → OnErr r A → OnErr r B
on_err_map (Ok v) f h = tt
on_err_map (Err x) f h = f h

pub on_ok_map : {T E A B : Type 0} (r : Result T E) → (A → B) → OnOk r A → OnOk r B
on_ok_map (Ok v) f h = f h
on_ok_map (Err x) f h = tt

same_id-Decides : (p q : TermId) → Decides (same_id p q) (p ≡ q)
same_id-Decides p q = Decides-like (same_id p q) (λ e i. record { 0 = e i }) (ap (λ (id : TermId). id.0)) (Decides-eqb p.0 q.0)

-- each number of some is among others, as a test and by the numbers
list_all-has : (xs ys : List TermId) → list_all (λ id. is_in same_id id ys) xs ≡ true → (n : ℕ) → has xs n ≡ true → has ys n ≡ true
list_all-has [] ys e n h = absurd (true≢false (sym h))
list_all-has (x ∷ xs) ys e n h = go (n == x.0) refl h (list_all-has xs ys (second_half (is_in same_id x ys) _ e) n)
  where
    go : (b : Bool) → (n == x.0) ≡ b → (b || has xs n) ≡ true → (has xs n ≡ true → has ys n ≡ true) → has ys n ≡ true
    go true p k on = ap (has ys) (eqb-true n x.0 p) ∙ first_half (has ys x.0) _ e
    go false p k on = on k

has-list_all : (xs ys : List TermId) → ((n : ℕ) → has xs n ≡ true → has ys n ≡ true) → list_all (λ id. is_in same_id id ys) xs ≡ true
has-list_all [] ys h = refl
has-list_all (x ∷ xs) ys h =
    both_halves (has ys x.0) (list_all (λ id. is_in same_id id ys) xs) (h x.0 (ap (λ b. b || has xs x.0) (same_id-itself x)))
    (has-list_all xs ys (λ n k. h n (or-true (n == x.0) (has xs n) k)))

abbrev IsOf : Trees → TermId → Type 0
IsOf trees p = p.0 < length trees.terms

each_known : (trees : Trees) (ids : List TermId) → AreKnown trees ids → AllByRecursion (IsOf trees) ids
each_known trees [] k = tt
each_known trees (p ∷ ids) k = (k.0, each_known trees ids k.1)

module _ (trees : Trees) (d : IsDistinct trees.terms) where
  -- numbers are one exactly where their trees are
  term_eq-at : (p q : TermId) → p.0 < length trees.terms → q.0 < length trees.terms → term_eq (term_at trees p.0) (term_at trees q.0) ≡ same_id p q
  term_eq-at p q h k =
      same_from_decides (term_eq (term_at trees p.0) (term_at trees q.0)) (same_id p q) (term_eq-Decides (term_at trees p.0) (term_at trees q.0))
      (Decides-like (same_id p q) (ap (λ (id : TermId). term_at trees id.0)) (term_in-same d p q h k) (same_id-Decides p q))

  all_in-at : (xs ys : List TermId) → AreKnown trees xs → AreKnown trees ys → list_all (λ t. is_in term_eq t (terms_at trees ys)) (terms_at trees xs)
      ≡ list_all (λ id. is_in same_id id ys) xs
  all_in-at [] ys k l = refl
  all_in-at (x ∷ xs) ys k l = ap₂ (λ a b. a && b)
      (is_in-map (λ id. term_at trees id.0) same_id term_eq (IsOf trees) term_eq-at x ys k.0 (each_known trees ys l)) (all_in-at xs ys k.1 l)

  -- a sequent is within another where its hypotheses and its conclusion are
  within-at : (a b : Sequent) → IsKnown trees a → IsKnown trees b → within (sequent_at trees a) (sequent_at trees b)
      ≡ (list_all (λ id. is_in same_id id b.hyps) a.hyps && same_id a.concl b.concl)
  within-at a b k l = ap₂ (λ x y. x && y) (all_in-at a.hyps b.hyps k.0 l.0) (term_eq-at a.concl b.concl k.1 l.1)

  module _ (sequent : Sequent) (k : IsKnown trees sequent) (s : Said) (l : IsKnown trees s.sequent) where
    -- what is the same has the same conclusion and the same set of hypotheses
    same-parts : is_same_at trees sequent s ≡ true → (s.sequent.concl ≡ sequent.concl) × AreSame s.sequent.hyps sequent.hyps
    same-parts e =
        let one = sym (within-at s.sequent sequent l k)
        ∙ first_half (within (sequent_at trees s.sequent) (sequent_at trees sequent)) (within (sequent_at trees sequent) (sequent_at trees s.sequent)) e in
        let two = sym (within-at sequent s.sequent k l)
        ∙ second_half (within (sequent_at trees s.sequent) (sequent_at trees sequent)) (within (sequent_at trees sequent) (sequent_at trees s.sequent)) e in
        let there = list_all-has s.sequent.hyps sequent.hyps (first_half _ _ one) in
        let back = list_all-has sequent.hyps s.sequent.hyps (first_half _ _ two) in (
          same_id-true s.sequent.concl sequent.concl
              (second_half (list_all (λ id. is_in same_id id sequent.hyps) s.sequent.hyps) (same_id s.sequent.concl sequent.concl) one),
          λ n. both_ways (has s.sequent.hyps n) (has sequent.hyps n) (there n) (back n),
        )

    -- and what has them is the same
    parts-same : s.sequent.concl ≡ sequent.concl → AreSame s.sequent.hyps sequent.hyps → is_same_at trees sequent s ≡ true
    parts-same e h =
        let one : same_id s.sequent.concl sequent.concl ≡ true = ap (λ p. same_id s.sequent.concl p) (sym e) ∙ same_id-itself s.sequent.concl in
        let two : same_id sequent.concl s.sequent.concl ≡ true = ap (λ p. same_id p s.sequent.concl) (sym e) ∙ same_id-itself s.sequent.concl in
        both_halves (within (sequent_at trees s.sequent) (sequent_at trees sequent)) (within (sequent_at trees sequent) (sequent_at trees s.sequent))
        (within-at s.sequent sequent l k ∙ both_halves (list_all (λ id. is_in same_id id sequent.hyps) s.sequent.hyps) (same_id s.sequent.concl sequent.concl)
        (has-list_all s.sequent.hyps sequent.hyps (λ n m. sym (h n) ∙ m)) one)
        (within-at sequent s.sequent k l ∙ both_halves (list_all (λ id. is_in same_id id s.sequent.hyps) sequent.hyps) (same_id sequent.concl s.sequent.concl)
        (has-list_all sequent.hyps s.sequent.hyps (λ n m. h n ∙ m)) two)

  known_at : (pool : List Said) (i : ℕ) (s : Said) → AreSequentsKnown trees pool → slice_get pool i ≡ Some s → IsKnown trees s.sequent
  known_at [] i s h e = absurd (cc)
  known_at (t ∷ pool) zero s h e = subst (λ (u : Said). IsKnown trees u.sequent) (same_Some _ _ e) h.0
  known_at (t ∷ pool) (suc i) s h e = known_at pool i s h.1 e

  module _ (sequent : Sequent) (k : IsKnown trees sequent) (pool : List Said) (known : AreSequentsKnown trees pool) (list : List ℕ)
      (h : IsListed pool sequent.concl list) where
    -- of what is the same as the sequent, the list has the first that is the same
    listed : (j : ℕ) (s : Said) → slice_get pool j ≡ Some s → is_same_at trees sequent s ≡ true → (i : ℕ) × (i < length list) × (place_at list i ≤ j)
        × AreSame (set_at pool (place_at list i)) sequent.hyps
    listed j s e same =
        let parts = same-parts sequent k s (known_at pool j s known e) same in
        let w = h.first j s e parts.0 in
        (w.1.0, w.1.1, subst (λ p. p ≤ j) (sym w.1.2) w.2, λ n. ap (λ p. has (set_at pool p) n) w.1.2 ∙ w.3 n ∙ parts.1 n)

    -- where the search finds the set of the hypotheses stands the first
    pub place-found : (i : ℕ) → IsFound pool list sequent.hyps i → Some (place_at list i) ≡ first_place (is_same_at trees sequent) pool
    place-found i f =
        let w = h.within i f.within in
        let set : set_at pool (place_at list i) ≡ w.0.sequent.hyps = ap hyps_in w.1 in
        sym (first_place-at (is_same_at trees sequent) pool (place_at list i) w.0 w.1
        (parts-same sequent k w.0 (known_at pool (place_at list i) w.0 known w.1) w.2 (λ n. sym (ap (λ x. has x n) set) ∙ f.same n))
        (λ j s l g same. before j s l (listed j s g same)))
      where
        before : (j : ℕ) (s : Said) → j < place_at list i → (m : ℕ) × (m < length list) × (place_at list m ≤ j)
            × AreSame (set_at pool (place_at list m)) sequent.hyps → ⊥
        before j s l w =
            let one : w.0 ≡ i = one_of_each pool list w.0 i h.ordered w.1 f.within (λ n. w.3 n ∙ sym (f.same n)) in
            let same : place_at list w.0 ≡ place_at list i = ap (place_at list) one in
            let m = w.2 in omega (arith, l, m, same)

    -- where it finds none, none is the same
    pub place-none : (i : ℕ) → IsBetween pool list sequent.hyps i i → None ≡ first_place (is_same_at trees sequent) pool
    place-none i b = sym (first_place-nowhere (is_same_at trees sequent) pool (λ j s g same. none (listed j s g same)))
      where
        none : {j : ℕ} → (m : ℕ) × (m < length list) × (place_at list m ≤ j) × AreSame (set_at pool (place_at list m)) sequent.hyps → ⊥
        none w = go (split w.0 i)
          where
            split : (m n : ℕ) → (m < n) ⊎ (n ≤ m)
            split m n = grind arith

            go : (w.0 < i) ⊎ (i ≤ w.0) → ⊥
            go (inl l) = before-not_same (set_at pool (place_at list w.0)) sequent.hyps (b.below w.0 l) w.3
            go (inr l) = before-not_same sequent.hyps (set_at pool (place_at list w.0)) (b.above w.0 l w.1) (λ n. sym (w.3 n))

-- the step that was read at a place
pub read-step : (pool held : List Said) (steps : List ℕ) (i step : ℕ) → steps ≡ steps_in held → held ≡ pool → i < length pool → step ≡ get_or steps i step
    → slice_get (steps_in pool) i ≡ Some step
read-step pool held steps i step e f l g =
    let same : steps ≡ steps_in pool = e ∙ ap steps_in f in
    slice_get_read (steps_in pool) (length pool) i step (sym (length_map (λ (s : Said). s.step) pool)) l (g ∙ ap (λ xs. get_or xs i step) same)

module _ (test : Said → Bool) (pool : List Said) where
  -- the step at the first place is that of the first
  pub found-step : (n i step : ℕ) → Some i ≡ first_place test pool → i < n → slice_get (steps_in pool) i ≡ Some step → Some step
      ≡ step_of (find test (take n pool))
  found-step n i step e l f = sym (ap step_of (find-below test pool n i (sym e) l) ∙ sym (slice_get-map (λ (s : Said). s.step) pool i) ∙ f)

  pub found-step_of_all : (i step : ℕ) → Some i ≡ first_place test pool → i < length pool → slice_get (steps_in pool) i ≡ Some step → Some step
      ≡ step_of (find test pool)
  found-step_of_all i step e l f = found-step (length pool) i step e l f ∙ ap (λ xs. step_of (find test xs)) (take-length pool)

  pub found-none_of_all : None ≡ first_place test pool → None ≡ step_of (find test pool)
  found-none_of_all e = ap step_of (sym (find-nowhere test pool (length pool) (sym e)) ∙ ap (find test) (take-length pool))

  pub found-none : (n : ℕ) → None ≡ first_place test pool → None ≡ step_of (find test (take n pool))
  found-none n e = ap step_of (sym (find-nowhere test pool n (sym e)))

  pub found-later : (n i : ℕ) → Some i ≡ first_place test pool → n ≤ i → None ≡ step_of (find test (take n pool))
  found-later n i e l = ap step_of (sym (find-not_below test pool n i (sym e) l))
