-- Names that are found by their spelling, where one more comes.
use Rattle.std.proofs.Common.{◌≡◌, ℕ, ◌<◌, ◌≤◌, Bool, true, false, cond, refl, sym, ap, subst, ◌∙◌, arith, List, [], ◌∷◌, ◌++◌, length, Option, Some, None, slice_get, ⊎_elim}
use Rattle.std.specs.Prelude.{if◌then◌else◌, Vec, Result, Ok, Err, IfOk, OnOk, OnErr}
use Rattle.std.specs.Str.{bytes_eq}
use Rattle.std.specs.Ordering.{is_eq, nat_cmp}
use Rattle.std.specs.Cmp.{eq_by_cmp_equiv, nat_cmp_total, unsigned_ties}
use Rattle.std.specs.Cmp.Lexicographic.{slice_cmp, same_text, nat_list_cmp_total}
use Rattle.std.specs.Map.{lookup, IsKeyTest, AreApart, KeepsOthers}
use Rattle.std.specs.BTreeMap.{BTreeMap, get, Updates}
use Rattle.std.proofs.lemmas.Cmp.{nat_list_eq_equiv}
use Rattle.std.proofs.lemmas.Bool.{eqb-true}
use Rattle.std.proofs.lemmas.Map.Text.{is_eq-slice_cmp}
use Rattle.name_table.specs.Spellings.{packed, unpacked, IsShort}
use Rattle.name_table.specs.Places.{number_of, with_name, get_long, ArePlaced}
use Rattle.name_table.specs.NameLaws.{with_name-new, number_of-push_other, number_of-push_old, number_of-push_new, push_at}
use Rattle.name_table.proofs.Packing.{length-digits}

-- names that are apart are told apart
pub apart_names : (x y : List ℕ) → (x ≡ y → ⊥) → bytes_eq x y ≡ false
apart_names x y h = go (bytes_eq x y) refl
  where
    go : (b : Bool) → bytes_eq x y ≡ b → b ≡ false
    go true e = absurd (h (same_text x y (sym e)))
    go false e = refl

-- short names of other numbers are others
apart_keys : (k j : ℕ) → IsShort k → IsShort j → (k ≡ j → ⊥) → bytes_eq (unpacked k) (unpacked j) ≡ false
apart_keys k j s t h = apart_names (unpacked k) (unpacked j) (λ e. h (sym s ∙ ap packed e ∙ t))

-- a short name is none that is longer
apart_lengths : (k : ℕ) (x : List ℕ) → 15 < length x → unpacked k ≡ x → ⊥
apart_lengths k x h e = let few = length-digits 15 k in let same = ap length e in omega (arith, h, few, same)

pub short-long : (k : ℕ) (x : List ℕ) → 15 < length x → bytes_eq (unpacked k) x ≡ false
short-long k x h = apart_names (unpacked k) x (apart_lengths k x h)

pub long-short : (x : List ℕ) (k : ℕ) → 15 < length x → bytes_eq x (unpacked k) ≡ false
long-short x k h = apart_names x (unpacked k) (λ e. apart_lengths k x h (sym e))

-- each name has one number where one more comes
once-push : (names : List (List ℕ)) (y : List ℕ) → number_of names y ≡ None → ((n : ℕ) (x : List ℕ) → slice_get names n ≡ Some x → number_of names x ≡ Some n)
    → (n : ℕ) (x : List ℕ) → slice_get (names ++ y ∷ []) n ≡ Some x → number_of (names ++ y ∷ []) x ≡ Some n
once-push names y new once n x e =
    ⊎_elim (λ f. number_of-push_old names y x n (once n x f))
    (λ f. subst (λ z. number_of (names ++ y ∷ []) z ≡ Some n) f.1 (number_of-push_new names y new ∙ ap Some (sym f.0))) (push_at names y x n e)

itself : (k : ℕ) → is_eq (nat_cmp k k) ≡ true
itself k = (eq_by_cmp_equiv nat_cmp_total).refl k

-- where a short name comes, each name is found
pub ArePlaced-short : (old new : BTreeMap ℕ ℕ) (long : List ℕ → Option ℕ) (names : List (List ℕ)) (k : ℕ) → IsShort k → ArePlaced (get nat_cmp old) long names
    → get nat_cmp old k ≡ None
    → Updates nat_cmp old new k (Some (length names)) → ArePlaced (get nat_cmp new) long (names ++ unpacked k ∷ [])
ArePlaced-short old new long names k s a none u = record {
  short_at = λ j t. at j t (is_eq (nat_cmp k j)) refl;
  long_at = λ x h. a.long_at x h ∙ sym (number_of-push_other names (unpacked k) x (short-long k x h));
  once = once-push names (unpacked k) unnumbered a.once;
}
  where
    unnumbered : number_of names (unpacked k) ≡ None
    unnumbered = sym (a.short_at k s) ∙ none

    at : (j : ℕ) → IsShort j → (b : Bool) → is_eq (nat_cmp k j) ≡ b → get nat_cmp new j ≡ number_of (names ++ unpacked k ∷ []) (unpacked j)
    at j t true e = let same : k ≡ j = eqb-true k j (unsigned_ties k j ∙ e) in subst
        (λ i. get nat_cmp new i ≡ number_of (names ++ unpacked k ∷ []) (unpacked i)) same (u.1 ∙ sym (number_of-push_new names (unpacked k) unnumbered))
    at j t false e =
        u.2 j e ∙ a.short_at j t
        ∙ sym (number_of-push_other names (unpacked k) (unpacked j)
        (apart_keys k j s t (λ same. let clash = sym (itself k) ∙ ap (λ i. is_eq (nat_cmp k i)) same ∙ e in absurd (cc))))

apart_in_order : (y x ks : List ℕ) → bytes_eq y x ≡ false → is_eq (slice_cmp nat_cmp y ks) ≡ true → is_eq (slice_cmp nat_cmp x ks) ≡ false
apart_in_order y x ks n e =
    is_eq-slice_cmp x ks ∙ nat_list_eq_equiv.symm x ks ∙ sym (nat_list_eq_equiv.congr y ks x (sym (is_eq-slice_cmp y ks) ∙ e)) ∙ n

module _ {Z : Type 0} where
  other_entries : (eq : Vec ℕ Z → Vec ℕ Z → Bool) (test : Vec ℕ Z → Bool) (old new : List (Vec ℕ Z × ℕ)) → KeepsOthers eq test old new
      → (other : Vec ℕ Z → Bool) → IsKeyTest eq other → AreApart test other
      → lookup other new ≡ lookup other old
  unfolding KeepsOthers
  other_entries eq test old new h = h

  -- what a tree has at other bytes, once one key has another value
  get_long-other : (old new : BTreeMap (Vec ℕ Z) ℕ) (v : Vec ℕ Z) (w : Option ℕ) → Updates (λ a b. slice_cmp nat_cmp a.items b.items) old new v w → (x : List ℕ)
      → bytes_eq v.items x ≡ false → get_long new x ≡ get_long old x
  get_long-other old new v w u x n =
      other_entries _ _ _ _ u.3 _ (λ a b. (eq_by_cmp_equiv nat_list_cmp_total).congr x a.items b.items) (λ k. apart_in_order v.items x k.items n)

  -- where a longer name comes, each name is found
  pub ArePlaced-long : (short : ℕ → Option ℕ) (old new : BTreeMap (Vec ℕ Z) ℕ) (names : List (List ℕ)) (y : List ℕ) → 15 < length y
      → ArePlaced short (get_long old) names → get_long old y ≡ None
      → ((x : List ℕ) → get_long new x ≡ (if bytes_eq y x then Some (length names) else get_long old x)) → ArePlaced short (get_long new) (names ++ y ∷ [])
  ArePlaced-long short old new names y h a none u = record {
    short_at = λ k t. a.short_at k t ∙ sym (number_of-push_other names y (unpacked k) (long-short y k h));
    long_at = λ x l. at x l (bytes_eq y x) refl;
    once = once-push names y unnumbered a.once;
  }
    where
      unnumbered : number_of names y ≡ None
      unnumbered = sym (a.long_at y h) ∙ none

      at : (x : List ℕ) → 15 < length x → (b : Bool) → bytes_eq y x ≡ b → get_long new x ≡ number_of (names ++ y ∷ []) x
      at x l true e = u x ∙ ap (λ b. if b then Some (length names) else get_long old x) e ∙ sym (number_of-push_new names y unnumbered) ∙ ap
          (number_of (names ++ y ∷ [])) (same_text y x (sym e))
      at x l false e = u x ∙ ap (λ b. if b then Some (length names) else get_long old x) e ∙ a.long_at x l ∙ sym (number_of-push_other names y x e)

  -- what a tree has at any bytes, once one key has another value
  pub get_long-updated : (old new : BTreeMap (Vec ℕ Z) ℕ) (v : Vec ℕ Z) (w : Option ℕ) → Updates (λ a b. slice_cmp nat_cmp a.items b.items) old new v w
      → (x : List ℕ) → get_long new x ≡ (if bytes_eq v.items x then w else get_long old x)
  get_long-updated old new v w u x = at (bytes_eq v.items x) refl
    where
      at : (b : Bool) → bytes_eq v.items x ≡ b → get_long new x ≡ (if b then w else get_long old x)
      at true e = ap (get_long new) (sym (same_text v.items x (sym e))) ∙ u.1
      at false e = get_long-other old new v w u x e

-- where the trees have what they had, each name is found as before
pub ArePlaced-same : (short short' : ℕ → Option ℕ) (long long' : List ℕ → Option ℕ) (names : List (List ℕ)) → ((k : ℕ) → short' k ≡ short k)
    → ((x : List ℕ) → long' x ≡ long x) → ArePlaced short long names → ArePlaced short' long' names
ArePlaced-same short short' long long' names f g a = record {
  short_at = λ k s. f k ∙ a.short_at k s;
  long_at = λ x h. g x ∙ a.long_at x h;
  once = a.once;
}

last_item : (names : List (List ℕ)) (x : List ℕ) → slice_get (names ++ x ∷ []) (length names) ≡ Some x
last_item [] x = refl
last_item (n ∷ names) x = last_item names x

-- a call that gives a new name the next number
module _ {E : Type 0} (old new : List (List ℕ)) (x : List ℕ) where
  pub added_number : (r : Result ℕ E) → IfOk r (λ n. n ≡ length old) → OnOk r (new ≡ old ++ x ∷ []) → IfOk r (λ n. slice_get new n ≡ Some x)
  added_number (Ok n) e h = ap (λ l. slice_get l n) h ∙ ap (slice_get (old ++ x ∷ [])) e ∙ last_item old x
  added_number (Err f) e h = tt

  pub added_names : (r : Result ℕ E) → number_of old x ≡ None → OnOk r (new ≡ old ++ x ∷ []) → OnOk r (new ≡ with_name old x)
  added_names (Ok n) none h = h ∙ sym (with_name-new old x none)
  added_names (Err f) none h = tt

  pub added_places : (P : List (List ℕ) → Type 0) (r : Result ℕ E) {A : Type 0} {B : Type 0} → OnOk r (new ≡ old ++ x ∷ []) → OnOk r A
      → OnErr r ((new ≡ old) × B) → (A → P (old ++ x ∷ [])) → (B → P old) → P new
  added_places P (Ok n) h a b f g = subst P (sym h) (f a)
  added_places P (Err e) h a b f g = subst P (sym b.0) (g b.1)
