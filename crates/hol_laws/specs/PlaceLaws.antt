-- What stands at a place of a list, and the rest from a place on.
use Rattle.std.proofs.Common.{◌≡◌, ◌⊎◌, inl, inr, ⊎_elim, ℕ, zero, suc, ◌+◌, ◌-◌, ◌<◌, ◌≤◌, arith, List, [], ◌∷◌, ◌++◌, map, length, get_or, Some, refl, sym, ap, ◌∙◌}
use Rattle.std.specs.Prelude.{slice_get, drop, take}
use Rattle.std.specs.Option.{option_map}
use Rattle.std.proofs.lemmas.List.{drop_more, drop_all, take-append-drop}
use Rattle.std.proofs.lemmas.Option.{same_Some, slice_get-map}

-- an item of a list is one of a longer list
pub slice_get-append : {X : Type 0} (xs ys : List X) (i : ℕ) (x : X) → slice_get xs i ≡ Some x → slice_get (xs ++ ys) i ≡ Some x
slice_get-append [] ys i x e = absurd (cc)
slice_get-append (y ∷ xs) ys zero x e = e
slice_get-append (y ∷ xs) ys (suc i) x e = slice_get-append xs ys i x e

-- behind a list stands the item that follows it
pub slice_get-seam : {X : Type 0} (xs ys : List X) (y : X) → slice_get (xs ++ y ∷ ys) (length xs) ≡ Some y
slice_get-seam [] ys y = refl
slice_get-seam (x ∷ xs) ys y = slice_get-seam xs ys y

pub slice_get-last : {X : Type 0} (xs : List X) (x : X) → slice_get (xs ++ x ∷ []) (length xs) ≡ Some x
slice_get-last xs x = slice_get-seam xs [] x

pub get_or-seam : {X : Type 0} (xs ys : List X) (y d : X) → get_or (xs ++ y ∷ ys) (length xs) d ≡ y
get_or-seam [] ys y d = refl
get_or-seam (x ∷ xs) ys y d = get_or-seam xs ys y d

-- an item of a list with one more is an item of the list, or the new one at its place
pub slice_get-one_more : {X : Type 0} (xs : List X) (x y : X) (i : ℕ) → slice_get (xs ++ x ∷ []) i ≡ Some y
    → (slice_get xs i ≡ Some y) ⊎ ((i ≡ length xs) × (x ≡ y))
slice_get-one_more [] x y zero e = inr (refl, same_Some _ _ e)
slice_get-one_more [] x y (suc i) e = inl e
slice_get-one_more (z ∷ xs) x y zero e = inl e
slice_get-one_more (z ∷ xs) x y (suc i) e = ⊎_elim (λ h. inl h) (λ h. inr (ap suc h.0, h.1)) (slice_get-one_more xs x y i e)

-- at the place of an item stands its image among the images
pub slice_get-mapped : {X Y : Type 0} (f : X → Y) (xs : List X) (i : ℕ) (x : X) → slice_get xs i ≡ Some x → slice_get (map f xs) i ≡ Some (f x)
slice_get-mapped f xs i x e = slice_get-map f xs i ∙ ap (option_map f) e

-- the rest of a list begins with the item at its place
pub drop-item : {X : Type 0} (xs : List X) (i : ℕ) (x : X) → x ≡ get_or xs i x → i < length xs → drop i xs ≡ x ∷ drop (i + 1) xs
drop-item xs i x e h = drop_more xs i x h ∙ ap (λ y. y ∷ drop (i + 1) xs) (sym e)

-- a list is its front and its last item
pub front-last : {X : Type 0} (xs : List X) (d : X) → 1 ≤ length xs → take (length xs - 1) xs ++ get_or xs (length xs - 1) d ∷ [] ≡ xs
front-last xs d h =
    ap (λ l. take (length xs - 1) xs ++ l)
    (sym (drop_more xs (length xs - 1) d (omega arith) ∙ ap (λ l. get_or xs (length xs - 1) d ∷ l) (drop_all (length xs - 1 + 1) xs (omega arith))))
    ∙ take-append-drop (length xs - 1) xs
