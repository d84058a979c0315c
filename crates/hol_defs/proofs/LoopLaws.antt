-- What is left of a list in a loop.
use Rattle.std.proofs.Common.{◌≡◌, ℕ, zero, suc, ◌+◌, ◌<◌, refl, sym, ap, subst, ◌∙◌, arith, List, [], ◌∷◌, ◌++◌, map, take, drop, length, get_or, Bool, true, false}
use Rattle.std.specs.Prelude.{◌&&◌}
use Rattle.std.specs.List.{list_all, AllByRecursion}
use Rattle.std.proofs.lemmas.List.{drop_more, take_more, map-append}
use Rattle.hol_spec.specs.Lists.{union}
use Rattle.hol_laws.specs.ListLaws.{union-append}
use Rattle.hol_term.specs.declared.TermId.{TermId}
use Rattle.hol_term.specs.Tables.{Trees, IsTermAt}
use Rattle.hol_defs.specs.Lists.{AreTerms}

no-and : (b : Bool) → (b && false) ≡ false
no-and true = refl
no-and false = refl

module _ {A : Type 0} (xs : List A) (i : ℕ) (x : A) (inside : i < length xs) (at : get_or xs i x ≡ x) where
  pub here : drop i xs ≡ x ∷ drop (i + 1) xs
  here = drop_more xs i x inside ∙ ap (λ y. y ∷ drop (i + 1) xs) at

  -- what is said of all is said of the element and of the rest
  pub at_element : {B : Type 0} (F : List A → B) → F (drop i xs) ≡ F xs → F xs ≡ F (x ∷ drop (i + 1) xs)
  at_element F e = sym e ∙ ap F here

pub taken_next : {A : Type 0} (xs : List A) (i : ℕ) (x : A) → i < length xs → get_or xs i x ≡ x → take (i + 1) xs ≡ take i xs ++ x ∷ []
taken_next xs i x l at = take_more xs i x l ∙ ap (λ y. take i xs ++ y ∷ []) at

-- an element that fails
pub one_fails : {A : Type 0} (p : A → Bool) (xs : List A) (i : ℕ) (x : A) → i < length xs → get_or xs i x ≡ x → p x ≡ false → list_all p xs ≡ false
one_fails p [] i x l at e = absurd (omega (arith, l))
one_fails p (y ∷ xs) zero x l at e = ap (λ b. b && list_all p xs) (ap p at ∙ e)
one_fails p (y ∷ xs) (suc i) x l at e = ap (λ b. p y && b) (one_fails p xs i x (omega (arith, l)) at e) ∙ no-and (p y)

-- what holds of all holds of the element
pub of_element : {A : Type 0} (P : A → Type 0) (xs : List A) (i : ℕ) (x : A) → i < length xs → get_or xs i x ≡ x → AllByRecursion P xs → P x
of_element P [] i x l at h = absurd (omega (arith, l))
of_element P (y ∷ xs) zero x l at h = subst P at h.0
of_element P (y ∷ xs) (suc i) x l at h = of_element P xs i x (omega (arith, l)) at h.1

pub term_here : (trees : Trees) (ids : List TermId) (i : ℕ) (id : TermId) → i < length ids → get_or ids i id ≡ id → AreTerms trees ids → IsTermAt trees id.0
term_here trees [] i id l at h = absurd (omega (arith, l))
term_here trees (y ∷ ids) zero id l at h = subst (λ (j : TermId). IsTermAt trees j.0) at h.0
term_here trees (y ∷ ids) (suc i) id l at h = term_here trees ids i id (omega (arith, l)) at h.1

-- what is united, one element more
pub united_next : {A K : Type 0} (same : K → K → Bool) (f : A → K) (xs : List A) (i : ℕ) (x : A) (old new : List K) (k : K) → i < length xs → get_or xs i x ≡ x
    → old ≡ union same [] (map f (take i xs)) → k ≡ f x → new ≡ union same old (k ∷ [])
    → new ≡ union same [] (map f (take (i + 1) xs))
united_next same f xs i x old new k l at was is e =
    e ∙ (λ j. union same (was j) (is j ∷ [])) ∙ sym (union-append same (map f (take i xs)) (f x ∷ []) [])
    ∙ ap (union same []) (sym (ap (map f) (taken_next xs i x l at) ∙ map-append f (take i xs) (x ∷ [])))
