-- The first place of a list at which a test passes; and of lists, where a member stands.
use Rattle.std.proofs.Common.{◌≡◌, ℕ, zero, suc, ◌<◌, List, [], ◌∷◌, ◌++◌, map, length, Bool, true, false, cond, position, Some, None, inl, inr, slice_get, refl, sym, ap, ◌∙◌, arith}
use Rattle.std.specs.Prelude.{option_map, slice_index_or}
use Rattle.std.specs.List.{AllByRecursion}
use Rattle.hol_spec.specs.Lists.{IsIn}

module _ {X : Type 0} (p : X → Bool) where
  position-cons : (x : X) (xs : List X) (b : Bool) → p x ≡ b → position p (x ∷ xs) ≡ cond b (Some 0) (option_map suc (position p xs))
  position-cons x xs true h = grind (arith, h)
  position-cons x xs false h = grind (arith, h)

  -- it passes nowhere
  pub position-none : (xs : List X) → AllByRecursion (λ x. p x ≡ false) xs → position p xs ≡ None
  position-none [] h = refl
  position-none (x ∷ xs) h = position-cons x xs false h.0 ∙ ap (option_map suc) (position-none xs h.1)

  -- it passes behind some at which it doesn't
  pub position-after : (xs ys : List X) (y : X) → AllByRecursion (λ x. p x ≡ false) xs → p y ≡ true → position p (xs ++ y ∷ ys) ≡ Some (length xs)
  position-after [] ys y h e = position-cons y ys true e
  position-after (x ∷ xs) ys y h e = position-cons x (xs ++ y ∷ ys) false h.0 ∙ ap (option_map suc) (position-after xs ys y h.1 e)

-- a list with a member is two lists with it between them
pub record IsSplit {A : Type 0} (xs : List A) (x : A) : Type 0 where
  pub front : List A
  pub back : List A
  pub whole : xs ≡ front ++ x ∷ back

pub member-split : {A : Type 0} (xs : List A) (x : A) → IsIn xs x → IsSplit xs x
member-split [] x i = absurd i
member-split (y ∷ ys) x (inl e) = record { front = []; back = ys; whole = ap (λ z. z ∷ ys) (sym e) }
member-split (y ∷ ys) x (inr i) = let s = member-split ys x i in record { front = y ∷ s.front; back = s.back; whole = ap (λ l. y ∷ l) s.whole }

-- what stands at a place of a list, of a longer one, and of what a function makes of each
pub index-front : {A : Type 0} (xs ys : List A) (k : ℕ) (d : A) → k < length xs → slice_index_or (xs ++ ys) k d ≡ slice_index_or xs k d
index-front [] ys k d l = absurd (omega arith)
index-front (x ∷ xs) ys zero d l = refl
index-front (x ∷ xs) ys (suc k) d l = index-front xs ys k d (omega arith)

pub index-seam : {A : Type 0} (xs ys : List A) (y d : A) → slice_index_or (xs ++ y ∷ ys) (length xs) d ≡ y
index-seam [] ys y d = refl
index-seam (x ∷ xs) ys y d = index-seam xs ys y d

pub index-map : {A B : Type 0} (f : A → B) (xs : List A) (k : ℕ) (d : A) → f (slice_index_or xs k d) ≡ slice_index_or (map f xs) k (f d)
index-map f [] k d = refl
index-map f (x ∷ xs) zero d = refl
index-map f (x ∷ xs) (suc k) d = index-map f xs k d

pub index-IsIn : {A : Type 0} (xs : List A) (k : ℕ) (d : A) → k < length xs → IsIn xs (slice_index_or xs k d)
index-IsIn [] k d l = absurd (omega arith)
index-IsIn (x ∷ xs) zero d l = inl refl
index-IsIn (x ∷ xs) (suc k) d l = inr (index-IsIn xs k d (omega arith))

-- a place that is filled is within the list
pub get-within : {A : Type 0} (xs : List A) (k : ℕ) (x : A) → slice_get xs k ≡ Some x → k < length xs
get-within [] k x e = absurd (cc)
get-within (y ∷ ys) zero x e = omega arith
get-within (y ∷ ys) (suc k) x e = let l = get-within ys k x e in omega (arith, l)
