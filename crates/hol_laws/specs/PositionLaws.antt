-- Where the elements of a list without repeats stand in it.
use Rattle.std.proofs.Common.{◌≡◌, suc, List, [], ◌∷◌, Bool, true, false, cond, inl, inr, refl, sym, ◌∙◌, arith}
use Rattle.std.specs.Bool.{Decides}
use Rattle.std.specs.List.{position_or_len}
use Rattle.hol_spec.specs.Lists.{IsIn}

pub position-cons : {A : Type 0} (test : A → Bool) (x : A) (xs : List A) (b : Bool) → test x ≡ b
    → position_or_len test (x ∷ xs) ≡ cond b 0 (suc (position_or_len test xs))
position-cons test x xs true e = rw e refl
position-cons test x xs false e = rw e (omega arith)

module _ {A : Type 0} (same : A → A → Bool) (decides : (x y : A) → Decides (same x y) (x ≡ y)) where
  pub same-self : (x : A) → same x x ≡ true
  same-self x = (decides x x).1 refl

  pub turned : (x y : A) → same x y ≡ false → same y x ≡ false
  turned x y e = go (same y x) refl
    where
      go : (b : Bool) → same y x ≡ b → same y x ≡ false
      go false f = f
      go true f = let g : same x y ≡ true = (decides x y).1 (sym ((decides y x).0 f)) in absurd (cc)

  -- the first is at 0, and one after it is one place further than in the rest
  pub position-first : (x : A) (xs : List A) → position_or_len (same x) (x ∷ xs) ≡ 0
  position-first x xs = position-cons (same x) x xs true (same-self x)

  pub position-later : (x y : A) (xs : List A) → same x y ≡ false → position_or_len (same y) (x ∷ xs) ≡ suc (position_or_len (same y) xs)
  position-later x y xs e = position-cons (same y) x xs false (turned x y e)

  -- two elements at one place are one
  pub position-injective : (xs : List A) (x y : A) → IsIn xs x → IsIn xs y → position_or_len (same x) xs ≡ position_or_len (same y) xs → x ≡ y
  position-injective [] x y h k e = absurd h
  position-injective (z ∷ xs) x y h k e = go (same x z) (same y z) refl refl (decides x z) (decides y z) (λ h k e. position-injective xs x y h k e) h k
    where
      go : (a b : Bool) → same x z ≡ a → same y z ≡ b → Decides (same x z) (x ≡ z) → Decides (same y z) (y ≡ z)
          → (IsIn xs x → IsIn xs y → position_or_len (same x) xs ≡ position_or_len (same y) xs → x ≡ y) → IsIn (z ∷ xs) x → IsIn (z ∷ xs) y → x ≡ y
      go true true f g p q later h k = p.0 f ∙ sym (q.0 g)
      go true false f g p q later h k =
          let l = position-cons (same x) z xs true f in
          let m = position-cons (same y) z xs false g in
          absurd (omega (arith, l, m, e))
      go false true f g p q later h k =
          let l = position-cons (same x) z xs false f in
          let m = position-cons (same y) z xs true g in
          absurd (omega (arith, l, m, e))
      go false false f g p q later (inl u) k = absurd (let t = p.1 u in cc)
      go false false f g p q later (inr u) (inl w) = absurd (let t = q.1 w in cc)
      go false false f g p q later (inr u) (inr w) =
          let l = position-cons (same x) z xs false f in
          let m = position-cons (same y) z xs false g in
          later u w (omega (arith, l, m, e))
