-- What was noted in a memo, after another note, and after some were forgotten.
use Rattle.std.proofs.Common.{◌≡◌, ◌≢◌, ℕ, zero, suc, ◌<◌, ◌≤◌, refl, sym, ap, ◌∙◌, subst, List, [], ◌∷◌, ◌++◌, length, Some, None, arith, inl, inr, ◌⊎◌, ⊎_elim}
use Rattle.std.specs.Prelude.{slice_get, slice_set, take}
use Rattle.std.proofs.lemmas.Bool.{cases_lt}
use Rattle.std.proofs.lemmas.Bool.Decides.{eqb_tells}
use Rattle.std.proofs.lemmas.List.{length-set, length-take}
use Rattle.std.proofs.lemmas.Option.{slice_get_within, same_Some}
use Rattle.lp_binding_laws.specs.LookUps.{slice_get-append, slice_get-one_more, slice_get-of_take}
use Rattle.lp_term.specs.declared.LpId.{LpId}
use Rattle.lp_kernel.specs.Noted.{IsNoted, IsLonger, IsForgotten}

same_id : (p q : LpId) → p.0 ≡ q.0 → p ≡ q
same_id p q e = λ i. record { 0 = e i }

-- an item of a list in which one was set
pub slice_get-set : {X : Type 0} (xs : List X) (p : ℕ) (x : X) → p < length xs → slice_get (slice_set xs p x) p ≡ Some x
slice_get-set [] p x h = absurd (omega (arith, h))
slice_get-set (y ∷ xs) zero x h = refl
slice_get-set (y ∷ xs) (suc p) x h = slice_get-set xs p x (omega (arith, h))

pub slice_get-set_other : {X : Type 0} (xs : List X) (p q : ℕ) (x : X) → q ≢ p → slice_get (slice_set xs p x) q ≡ slice_get xs q
slice_get-set_other [] p q x h = refl
slice_get-set_other (y ∷ xs) zero zero x h = absurd (h refl)
slice_get-set_other (y ∷ xs) zero (suc q) x h = refl
slice_get-set_other (y ∷ xs) (suc p) zero x h = refl
slice_get-set_other (y ∷ xs) (suc p) (suc q) x h = slice_get-set_other xs p q x (λ e. h (ap suc e))

slice_get-take : {X : Type 0} (n : ℕ) (xs : List X) (i : ℕ) → i < n → slice_get (take n xs) i ≡ slice_get xs i
slice_get-take zero xs i h = absurd (omega (arith, h))
slice_get-take (suc n) [] i h = refl
slice_get-take (suc n) (x ∷ xs) zero h = refl
slice_get-take (suc n) (x ∷ xs) (suc i) h = slice_get-take n xs i (omega (arith, h))

-- a list that is made longer
pub IsLonger-refl : (xs : List ℕ) → IsLonger xs xs
IsLonger-refl xs = record { noted = λ p n e. e; stay = λ p n e. e }

pub IsLonger-more : {old now new : List ℕ} → IsLonger old now → new ≡ now ++ 0 ∷ [] → IsLonger old new
IsLonger-more {old} {now} {new} l e = record {
  noted = λ p n h. ⊎_elim (λ k. l.noted p n k) (λ k. absurd (omega (arith, k.1))) (slice_get-one_more now 0 (suc n) p (ap (λ xs. slice_get xs p) (sym e) ∙ h));
  stay = λ p n h. ap (λ xs. slice_get xs p) e ∙ slice_get-append now (0 ∷ []) p n (l.stay p n h);
}

-- what is noted once one more is
module _ (old now : List ℕ) (id found : LpId) (n : ℕ) (l : IsLonger old now) (room : id.0 < length now) (is : n ≡ suc found.0) where
  pub noted_new : IsNoted (slice_set now id.0 n) id found
  noted_new = slice_get-set now id.0 n room ∙ ap Some is

  pub noted_before : (t r : LpId) → IsNoted (slice_set now id.0 n) t r → IsNoted old t r ⊎ ((t ≡ id) × (r ≡ found))
  noted_before t r h = ⊎_elim
      (λ e. let here : n ≡ suc r.0 = same_Some n (suc r.0) (sym (slice_get-set now id.0 n room) ∙ ap (slice_get (slice_set now id.0 n)) (sym e.1) ∙ h) in inr
      (same_id t id e.1, same_id r found (omega (arith, here, is))))
      (λ e. inl (l.noted t.0 r.0 (sym (slice_get-set_other now id.0 t.0 n e.1) ∙ h)))
      (eqb_tells t.0 id.0)

  pub noted_kept : (t r : LpId) → IsNoted old t r → (t ≡ id) ⊎ IsNoted (slice_set now id.0 n) t r
  noted_kept t r h = ⊎_elim
      (λ e. inl (same_id t id e.1))
      (λ e. inr (slice_get-set_other now id.0 t.0 n e.1 ∙ l.stay t.0 (suc r.0) h))
      (eqb_tells t.0 id.0)

-- as places are gone through, and large numbers forgotten
pub forgotten-start : (xs : List ℕ) (len : ℕ) → IsForgotten xs xs 0 len
forgotten-start xs len = record { same = refl; lower = λ p n h. (h, λ lt. absurd (omega (arith, lt))); stay = λ p n lt h. h }

module _ (old now : List ℕ) (i len x : ℕ) (f : IsForgotten old now i len) (room : i < length now) (at : slice_get now i ≡ Some x) where
  pub forgotten-large : len < x → IsForgotten old (slice_set now i 0) (suc i) len
  forgotten-large large = record { same = length-set now i 0 ∙ f.same; lower = lower; stay = stay }
    where
      lower : (p n : ℕ) → slice_get (slice_set now i 0) p ≡ Some (suc n) → slice_get old p ≡ Some (suc n) × (p < suc i → n < len)
      lower p n h = ⊎_elim
          (λ e. absurd (let no : 0 ≡ suc n =
          same_Some 0 (suc n) (sym (slice_get-set now i 0 room) ∙ ap (slice_get (slice_set now i 0)) (sym e.1) ∙ h) in omega (arith, no)))
          (λ e. let was = f.lower p n (sym (slice_get-set_other now i p 0 e.1) ∙ h) in
          (was.0, λ lt. was.1 (⊎_elim (λ less. less) (λ same. absurd (e.1 (omega (arith, same, lt)))) (cases_lt p i))))
          (eqb_tells p i)

      stay : (p n : ℕ) → n < len → slice_get old p ≡ Some (suc n) → slice_get (slice_set now i 0) p ≡ Some (suc n)
      stay p n lt h = ⊎_elim
          (λ e. absurd (let is : x ≡ suc n = same_Some x (suc n) (sym at ∙ ap (slice_get now) (sym e.1) ∙ f.stay p n lt h) in omega (arith, is, large, lt)))
          (λ e. slice_get-set_other now i p 0 e.1 ∙ f.stay p n lt h)
          (eqb_tells p i)

  pub forgotten-small : x ≤ len → IsForgotten old now (suc i) len
  forgotten-small small = record {
    same = f.same;
    lower = λ p n h. let was = f.lower p n h in (
      was.0,
      λ lt. ⊎_elim (λ less. was.1 less) (λ same. let here : p ≡ i = omega (arith, same, lt) in let is : x ≡ suc n =
          same_Some x (suc n) (sym at ∙ ap (slice_get now) (sym here) ∙ h) in omega (arith, is, small)) (cases_lt p i),
    );
    stay = f.stay;
  }

-- what is noted in the front of a list whose large numbers were forgotten
module _ (types front new : List ℕ) (len : ℕ) (is : front ≡ take len types) (f : IsForgotten front new (length new) len) where
  pub cut-lower : (t r : LpId) → IsNoted new t r → IsNoted types t r × (t.0 < len) × (r.0 < len)
  cut-lower t r h =
      let was = f.lower t.0 r.0 h in
      let old : slice_get (take len types) t.0 ≡ Some (suc r.0) = ap (λ xs. slice_get xs t.0) (sym is) ∙ was.0 in
      let low = slice_get_within (take len types) t.0 (suc r.0) old in
      (slice_get-of_take len types t.0 (suc r.0) old, omega (arith, low, length-take len types), was.1 (slice_get_within new t.0 (suc r.0) h))

  pub cut-kept : (t r : LpId) → t.0 < len → r.0 < len → IsNoted types t r → IsNoted new t r
  cut-kept t r a b h = f.stay t.0 r.0 b (ap (λ xs. slice_get xs t.0) is ∙ slice_get-take len types t.0 a ∙ h)
