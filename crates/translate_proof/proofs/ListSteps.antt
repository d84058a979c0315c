-- The rest of a list from a place on.
use Rattle.std.proofs.Common.{◌≡◌, ℕ, zero, suc, ◌+◌, ◌-◌, ◌<◌, ◌≤◌, refl, sym, ap, ◌∙◌, arith, List, [], ◌∷◌, ◌++◌, length, get_or}
use Rattle.std.specs.Prelude.{drop, take}
use Rattle.std.specs.List.{AllByRecursion}
use Rattle.std.proofs.lemmas.List.{drop_all, drop_more, take-append-drop}
use Rattle.hol_spec.specs.Terms.{Term}
use Rattle.hol_term.specs.declared.TermId.{TermId}
use Rattle.hol_term.specs.Tables.{Trees, terms_at}

-- the rest begins with the item at its place
pub drop-item : {X : Type 0} (xs : List X) (i : ℕ) (x : X) → x ≡ get_or xs i x → i < length xs → drop i xs ≡ x ∷ drop (i + 1) xs
drop-item xs i x e h = drop_more xs i x h ∙ ap (λ y. y ∷ drop (i + 1) xs) (sym e)

-- a list is its front and its last item
pub front-last : {X : Type 0} (xs : List X) (d : X) → 1 ≤ length xs → take (length xs - 1) xs ++ get_or xs (length xs - 1) d ∷ [] ≡ xs
front-last xs d h =
    ap (λ l. take (length xs - 1) xs ++ l)
    (sym (drop_more xs (length xs - 1) d (omega arith) ∙ ap (λ l. get_or xs (length xs - 1) d ∷ l) (drop_all (length xs - 1 + 1) xs (omega arith))))
    ∙ take-append-drop (length xs - 1) xs

pub front-item : {X : Type 0} (xs : List X) (x : X) → x ≡ get_or xs (length xs - 1) x → 1 ≤ length xs → take (length xs - 1) xs ++ x ∷ [] ≡ xs
front-item xs x e h = ap (λ y. take (length xs - 1) xs ++ y ∷ []) e ∙ front-last xs x h

-- a list of no item
pub no-item : {X : Type 0} (xs : List X) → length xs < 1 → xs ≡ []
no-item [] h = refl
no-item (x ∷ xs) h = absurd (omega (arith, h))

-- a list on which items were put
pub put-two : {X : Type 0} (a b : X) (l m n : List X) → m ≡ a ∷ l → n ≡ b ∷ m → n ≡ b ∷ a ∷ l
put-two a b l m n d e = e ∙ ap (λ k. b ∷ k) d

pub put-three : {X : Type 0} (a b c : X) (k l m n : List X) → l ≡ a ∷ k → m ≡ b ∷ l → n ≡ c ∷ m → n ≡ c ∷ b ∷ a ∷ k
put-three a b c k l m n d e f = f ∙ ap (λ j. c ∷ j) (put-two a b k l m d e)

-- what holds of each item holds of each of the rest
pub drop-each : {X : Type 0} (P : X → Type 0) (i : ℕ) (xs : List X) → AllByRecursion P xs → AllByRecursion P (drop i xs)
drop-each P zero xs h = h
drop-each P (suc i) [] h = tt
drop-each P (suc i) (x ∷ xs) h = drop-each P i xs h.1

pub terms-drop : (P : Term → Type 0) (trees : Trees) (i : ℕ) (ids : List TermId) → AllByRecursion P (terms_at trees ids)
    → AllByRecursion P (terms_at trees (drop i ids))
terms-drop P trees zero ids h = h
terms-drop P trees (suc i) [] h = tt
terms-drop P trees (suc i) (id ∷ ids) h = terms-drop P trees i ids h.1
