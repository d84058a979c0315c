-- The rest of a list from a place on.
use Rattle.std.proofs.Common.{◌≡◌, ℕ, zero, suc, ◌+◌, ◌-◌, ◌<◌, ◌≤◌, refl, sym, ap, ◌∙◌, arith, List, [], ◌∷◌, ◌++◌, length, get_or}
use Rattle.std.specs.Prelude.{drop, take}
use Rattle.std.proofs.lemmas.List.{drop_more, take-append-drop, take_all}
use Rattle.std.proofs.Math.Path.{ap₂}

-- the rest begins with the item at its place
pub drop-item : {X : Type 0} (xs : List X) (i : ℕ) (x : X) → x ≡ get_or xs i x → i < length xs → drop i xs ≡ x ∷ drop (i + 1) xs
drop-item xs i x e h = drop_more xs i x h ∙ ap (λ y. y ∷ drop (i + 1) xs) (sym e)

-- nothing is left from the end on
pub drop-all : {X : Type 0} (xs : List X) (i : ℕ) → length xs ≤ i → drop i xs ≡ []
drop-all [] zero h = refl
drop-all [] (suc i) h = refl
drop-all (x ∷ xs) zero h = absurd (omega arith)
drop-all (x ∷ xs) (suc i) h = drop-all xs i (omega arith)

-- a list is its front and its last item
pub front-last : {X : Type 0} (xs : List X) (d : X) → 1 ≤ length xs → take (length xs - 1) xs ++ get_or xs (length xs - 1) d ∷ [] ≡ xs
front-last xs d h =
    ap (λ l. take (length xs - 1) xs ++ l)
    (sym (drop_more xs (length xs - 1) d (omega arith) ∙ ap (λ l. get_or xs (length xs - 1) d ∷ l) (drop-all xs (length xs - 1 + 1) (omega arith))))
    ∙ take-append-drop (length xs - 1) xs

pub front-item : {X : Type 0} (xs : List X) (x : X) → x ≡ get_or xs (length xs - 1) x → 1 ≤ length xs → take (length xs - 1) xs ++ x ∷ [] ≡ xs
front-item xs x e h = ap (λ y. take (length xs - 1) xs ++ y ∷ []) e ∙ front-last xs x h

-- a list is its first item and the rest
pub first-rest : {X : Type 0} (xs : List X) (x : X) → x ≡ get_or xs 0 x → 1 ≤ length xs → x ∷ take (length xs - 1) (drop 1 xs) ≡ xs
first-rest [] x e h = absurd (omega (arith, h))
first-rest (y ∷ xs) x e h = ap₂ (λ z l. z ∷ l) e (take_all (length (y ∷ xs) - 1) xs (omega arith))

-- a list of no item
pub no-item : {X : Type 0} (xs : List X) → length xs < 1 → xs ≡ []
no-item [] h = refl
no-item (x ∷ xs) h = absurd (omega (arith, h))
