-- Items of lists by their numbers, and what is read off them.
use Rattle.std.proofs.Common.{◌≡◌, ◌⊎◌, inl, inr, ⊎_elim, refl, sym, ap, subst, ◌∙◌, ℕ, zero, suc, arith, List, [], ◌∷◌, ◌++◌, length, Option, Some, None}
use Rattle.std.specs.Prelude.{slice_get, take, drop, option_map, option_and_then}
use Rattle.std.specs.List.{AllByRecursion}
use Rattle.std.proofs.lemmas.List.{take-append-drop}
use Rattle.std.proofs.lemmas.Option.{slice_get_within, same_Some}

-- an item of a list is one of a longer list
pub slice_get-append : {X : Type 0} (xs ys : List X) (i : ℕ) (x : X) → slice_get xs i ≡ Some x → slice_get (xs ++ ys) i ≡ Some x
slice_get-append [] ys i x e = absurd (let h = slice_get_within [] i x e in omega arith)
slice_get-append (z ∷ xs) ys zero x e = e
slice_get-append (z ∷ xs) ys (suc i) x e = slice_get-append xs ys i x e

-- behind a list stands the item that follows it
pub slice_get-seam : {X : Type 0} (xs ys : List X) (y : X) → slice_get (xs ++ y ∷ ys) (length xs) ≡ Some y
slice_get-seam [] ys y = refl
slice_get-seam (x ∷ xs) ys y = slice_get-seam xs ys y

pub slice_get-last : {X : Type 0} (xs : List X) (x : X) → slice_get (xs ++ x ∷ []) (length xs) ≡ Some x
slice_get-last xs x = slice_get-seam xs [] x

-- an item of a list with one more is an item of the list, or the new one at its place
pub slice_get-one_more : {X : Type 0} (xs : List X) (x y : X) (i : ℕ) → slice_get (xs ++ x ∷ []) i ≡ Some y
    → (slice_get xs i ≡ Some y) ⊎ ((i ≡ length xs) × (x ≡ y))
slice_get-one_more [] x y zero e = inr (refl, same_Some _ _ e)
slice_get-one_more [] x y (suc i) e = inl e
slice_get-one_more (z ∷ xs) x y zero e = inl e
slice_get-one_more (z ∷ xs) x y (suc i) e = ⊎_elim (λ h. inl h) (λ h. inr (ap suc h.0, h.1)) (slice_get-one_more xs x y i e)

-- an item of a front is the list's
pub slice_get-of_take : {X : Type 0} (n : ℕ) (xs : List X) (i : ℕ) (x : X) → slice_get (take n xs) i ≡ Some x → slice_get xs i ≡ Some x
slice_get-of_take n xs i x e = ap (λ l. slice_get l i) (sym (take-append-drop n xs)) ∙ slice_get-append (take n xs) (drop n xs) i x e

-- what is read off an item of a list is read off that of a longer list
pub option_map-append : {X Y : Type 0} (f : X → Y) (xs ys : List X) (i : ℕ) (y : Y) → option_map f (slice_get xs i) ≡ Some y
    → option_map f (slice_get (xs ++ ys) i) ≡ Some y
option_map-append f [] ys i y e = absurd (cc)
option_map-append f (z ∷ xs) ys zero y e = e
option_map-append f (z ∷ xs) ys (suc i) y e = option_map-append f xs ys i y e

-- the same of what an item may lack
pub option_and_then-append : {X Y : Type 0} (f : X → Option Y) (xs ys : List X) (i : ℕ) (y : Y) → option_and_then f (slice_get xs i) ≡ Some y
    → option_and_then f (slice_get (xs ++ ys) i) ≡ Some y
option_and_then-append f [] ys i y e = absurd (cc)
option_and_then-append f (z ∷ xs) ys zero y e = e
option_and_then-append f (z ∷ xs) ys (suc i) y e = option_and_then-append f xs ys i y e

-- what is read off an item comes from the item
pub option_map-some : {X Y : Type 0} (f : X → Y) (o : Option X) (y : Y) → option_map f o ≡ Some y → (x : X) × (o ≡ Some x) × (f x ≡ y)
option_map-some f None y e = absurd (cc)
option_map-some f (Some x) y e = (x, refl, same_Some _ _ e)

-- the same of what an item may lack
pub option_and_then-some : {X Y : Type 0} (f : X → Option Y) (o : Option X) (y : Y) → option_and_then f o ≡ Some y → (x : X) × (o ≡ Some x) × (f x ≡ Some y)
option_and_then-some f None y e = absurd (cc)
option_and_then-some f (Some x) y e = (x, refl, e)

-- an item of a list with one item more is of the list, or is that one
pub last_or : {X : Type 0} (xs : List X) (x y : X) (i : ℕ) → slice_get (xs ++ x ∷ []) i ≡ Some y → (slice_get xs i ≡ Some y) ⊎ (x ≡ y)
last_or [] x y zero e = inr (same_Some _ _ e)
last_or [] x y (suc i) e = inl e
last_or (z ∷ xs) x y zero e = inl e
last_or (z ∷ xs) x y (suc i) e = last_or xs x y i e

-- what holds of every item holds of each
pub AllByRecursion-slice_get : {X : Type 0} (P : X → Type 0) (xs : List X) → AllByRecursion P xs → (i : ℕ) (x : X) → slice_get xs i ≡ Some x → P x
AllByRecursion-slice_get P [] h i x e = absurd (cc)
AllByRecursion-slice_get P (z ∷ xs) h zero x e = subst P (same_Some _ _ e) h.0
AllByRecursion-slice_get P (z ∷ xs) h (suc i) x e = AllByRecursion-slice_get P xs h.1 i x e
