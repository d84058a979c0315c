-- What is gathered of the parts of a term, each taken once.
use Rattle.std.proofs.Common.{◌≡◌, refl, sym, ap, ◌∙◌, subst, List, [], ◌∷◌, ◌++◌, Bool, true, false, ◌||◌, ◌⊎◌, ⊎_elim, inl, inr, cond}
use Rattle.std.specs.List.{list_any}
use Rattle.std.proofs.lemmas.List.{append_assoc, append-nil}
use Rattle.std.proofs.Math.Path.{ap₂}
use Rattle.hol_spec.specs.Names.{Name}
use Rattle.hol_spec.specs.NameEquality.{name_eq}
use Rattle.hol_laws.specs.NameEqualityLaws.{name_eq-Decides}
use Rattle.hol_spec.specs.Lists.{is_in, union, distinct}
use Rattle.hol_laws.specs.ListLaws.{union-append}
use Rattle.hol_spec.specs.Types.{HolType, variable_places}
use Rattle.hol_spec.specs.Terms.{Term, free, bound, constant, app, lam, variable_eq, term_eq, free_places, type_variable_places}
use Rattle.hol_laws.specs.TermLaws.{term_eq-Decides}
use Rattle.hol_term.specs.Subterms.{subterms, free_head, type_head, gathered, AreIn}

pub or_left : (a b : Bool) → a ≡ true → (a || b) ≡ true
or_left true b e = refl
or_left false b e = absurd (cc)

pub or_right : (a b : Bool) → b ≡ true → (a || b) ≡ true
or_right true b e = refl
or_right false b e = e

pub or_either : (a b : Bool) → (a || b) ≡ true → (a ≡ true) ⊎ (b ≡ true)
or_either true b e = inl refl
or_either false b e = inr e

module _ {A : Type 0} (same : A → A → Bool) where
  -- an element is in a list with one more where it was
  in_more : (x y : A) (xs : List A) → is_in same x xs ≡ true → is_in same x (xs ++ y ∷ []) ≡ true
  in_more x y [] e = absurd (cc)
  in_more x y (z ∷ xs) e = ⊎_elim (λ a. or_left (same x z) _ a) (λ b. or_right (same x z) _ (in_more x y xs b)) (or_either (same x z) (list_any (same x) xs) e)

  AreIn-more : (y : A) (found xs : List A) → AreIn same found xs → AreIn same (found ++ y ∷ []) xs
  AreIn-more y found [] h = tt
  AreIn-more y found (x ∷ xs) h = (in_more x y found h.0, AreIn-more y found xs h.1)

  -- elements that are there add nothing
  pub union-there : (xs found : List A) → AreIn same found xs → union same found xs ≡ found
  union-there [] found h = refl
  union-there (x ∷ xs) found h = rw h.0 (union-there xs found h.1)

module _ {A : Type 0} (same : A → A → Bool) (itself : (x : A) → same x x ≡ true) where
  pub in_last : (x : A) (xs : List A) → is_in same x (xs ++ x ∷ []) ≡ true
  in_last x [] = or_left (same x x) _ (itself x)
  in_last x (y ∷ xs) = or_right (same x y) _ (in_last x xs)

  with_new : (b : Bool) (y : A) (found xs : List A) → AreIn same found xs → AreIn same (cond b found (found ++ y ∷ [])) xs
  with_new true y found xs h = h
  with_new false y found xs h = AreIn-more same y found xs h

  -- what was there stays in a union
  pub AreIn-union : (ys found xs : List A) → AreIn same found xs → AreIn same (union same found ys) xs
  AreIn-union [] found xs h = h
  AreIn-union (y ∷ ys) found xs h = AreIn-union ys (cond (is_in same y found) found (found ++ y ∷ [])) xs (with_new (is_in same y found) y found xs h)

  new_one : (b : Bool) (y : A) (found : List A) → is_in same y found ≡ b → AreIn same (cond b found (found ++ y ∷ [])) (y ∷ [])
  new_one true y found e = (e, tt)
  new_one false y found e = (in_last y found, tt)

  -- what is added is there then
  pub AreIn-itself : (ys found : List A) → AreIn same (union same found ys) ys
  AreIn-itself [] found = tt
  AreIn-itself (y ∷ ys) found =
      let more = cond (is_in same y found) found (found ++ y ∷ []) in
      ((AreIn-union ys more (y ∷ []) (new_one (is_in same y found) y found refl)).0, AreIn-itself ys more)

-- what is gathered of a list in two parts
gathered-append : {A B : Type 0} (head : B → List A) (xs ys : List B) → gathered head (xs ++ ys) ≡ gathered head xs ++ gathered head ys
gathered-append head [] ys = refl
gathered-append head (x ∷ xs) ys = ap (λ l. head x ++ l) (gathered-append head xs ys) ∙ sym (append_assoc (head x) (gathered head xs) (gathered head ys))

-- of elements that are taken once the same is gathered, if each of it is taken once
module _ {A B : Type 0} (same : A → A → Bool) (itself : (x : A) → same x x ≡ true) (eq : B → B → Bool) (decides : (x y : B) → eq x y ≡ true → x ≡ y)
    (head : B → List A) where
  was_gathered : (y : B) (xs : List B) (found : List A) → is_in eq y xs ≡ true → AreIn same (union same found (gathered head xs)) (head y)
  was_gathered y [] found e = absurd (cc)
  was_gathered y (x ∷ xs) found e = subst (λ l. AreIn same l (head y)) (sym (union-append same (head x) (gathered head xs) found)) (⊎_elim
      (λ a. AreIn-union same itself (gathered head xs) (union same found (head x)) (head y)
      (subst (λ z. AreIn same (union same found (head x)) (head z)) (sym (decides y x a)) (AreIn-itself same itself (head x) found)))
      (λ b. was_gathered y xs (union same found (head x)) b)
      (or_either (eq y x) (list_any (eq y) xs) e))

  step : (b : Bool) (y : B) (ys xs : List B) (found : List A) → is_in eq y xs ≡ b → union same found (gathered head (cond b xs (xs ++ y ∷ []) ++ ys))
      ≡ union same found (gathered head (xs ++ y ∷ ys))
  step false y ys xs found e = ap (λ l. union same found (gathered head l)) (append_assoc xs (y ∷ []) ys)
  step true y ys xs found e =
      ap (union same found) (gathered-append head xs ys)
      ∙ union-append same (gathered head xs) (gathered head ys) found
      ∙ ap (λ l. union same l (gathered head ys)) (sym (union-there same (head y) (union same found (gathered head xs)) (was_gathered y xs found e)))
      ∙ sym (ap (union same found) (gathered-append head xs (y ∷ ys)) ∙ union-append same (gathered head xs) (head y ++ gathered head ys) found
      ∙ union-append same (head y) (gathered head ys) (union same found (gathered head xs)))

  pub gathered-union : (ys xs : List B) (found : List A) → union same found (gathered head (union eq xs ys)) ≡ union same found (gathered head (xs ++ ys))
  gathered-union [] xs found = ap (λ l. union same found (gathered head l)) (sym (append-nil xs))
  gathered-union (y ∷ ys) xs found = gathered-union ys (cond (is_in eq y xs) xs (xs ++ y ∷ [])) found ∙ step (is_in eq y xs) y ys xs found refl

-- the places of a term's variables are those of its parts
free_of_parts : (t : Term) → gathered free_head (subterms t) ≡ free_places t
free_of_parts (free n t) = refl
free_of_parts (bound k) = refl
free_of_parts (constant n t) = refl
free_of_parts (app f x) = gathered-append free_head (subterms f) (subterms x) ∙ ap₂ (λ a b. a ++ b) (free_of_parts f) (free_of_parts x)
free_of_parts (lam t b) = free_of_parts b

types_of_parts : (t : Term) → gathered type_head (subterms t) ≡ type_variable_places t
types_of_parts (free n t) = append-nil (variable_places t)
types_of_parts (bound k) = refl
types_of_parts (constant n t) = append-nil (variable_places t)
types_of_parts (app f x) = gathered-append type_head (subterms f) (subterms x) ∙ ap₂ (λ a b. a ++ b) (types_of_parts f) (types_of_parts x)
types_of_parts (lam t b) = ap (λ l. variable_places t ++ l) (types_of_parts b)

-- a free variable is among those of some terms where it is one of them
free_in : (n : Name) (t : HolType) (xs : List Term) → is_in variable_eq (n, t) (gathered free_head xs) ≡ is_in term_eq (free n t) xs
free_in n t [] = refl
free_in n t (free m u ∷ xs) = ap (λ b. term_eq (free n t) (free m u) || b) (free_in n t xs)
free_in n t (bound k ∷ xs) = free_in n t xs
free_in n t (constant m u ∷ xs) = free_in n t xs
free_in n t (app f x ∷ xs) = free_in n t xs
free_in n t (lam u b ∷ xs) = free_in n t xs

-- a term without a variable in its head adds none
none_more : (y : Term) (xs : List Term) → free_head y ≡ [] → gathered free_head (xs ++ y ∷ []) ≡ gathered free_head xs
none_more y xs e = gathered-append free_head xs (y ∷ []) ∙ ap (λ l. gathered free_head xs ++ (l ++ [])) e ∙ append-nil (gathered free_head xs)

none_step : (b : Bool) (y : Term) (ys xs : List Term) → free_head y ≡ []
    → union variable_eq (gathered free_head (cond b xs (xs ++ y ∷ []))) (gathered free_head ys)
    ≡ union variable_eq (gathered free_head xs) (gathered free_head (y ∷ ys))
none_step true y ys xs e = ap (λ l. union variable_eq (gathered free_head xs) (l ++ gathered free_head ys)) (sym e)
none_step false y ys xs e = ap (λ l. union variable_eq l (gathered free_head ys)) (none_more y xs e) ∙ ap
    (λ l. union variable_eq (gathered free_head xs) (l ++ gathered free_head ys)) (sym e)

free_step : (b : Bool) (y : Term) (ys xs : List Term) → is_in term_eq y xs ≡ b
    → union variable_eq (gathered free_head (cond b xs (xs ++ y ∷ []))) (gathered free_head ys)
    ≡ union variable_eq (gathered free_head xs) (gathered free_head (y ∷ ys))
free_step b (bound k) ys xs e = none_step b (bound k) ys xs refl
free_step b (constant m u) ys xs e = none_step b (constant m u) ys xs refl
free_step b (app f x) ys xs e = none_step b (app f x) ys xs refl
free_step b (lam u x) ys xs e = none_step b (lam u x) ys xs refl
free_step true (free n t) ys xs e = rw (free_in n t xs, e) refl
free_step false (free n t) ys xs e =
    ap (λ l. union variable_eq l (gathered free_head ys)) (gathered-append free_head xs (free n t ∷ []))
    ∙ rw (free_in n t xs, e) refl

-- terms that are taken once have their free variables once
free_union : (ys xs : List Term) → gathered free_head (union term_eq xs ys) ≡ union variable_eq (gathered free_head xs) (gathered free_head ys)
free_union [] xs = refl
free_union (y ∷ ys) xs = free_union ys (cond (is_in term_eq y xs) xs (xs ++ y ∷ [])) ∙ free_step (is_in term_eq y xs) y ys xs refl

-- the free variables of the parts of a term, each part taken once
pub free_of_distinct : (t : Term) → gathered free_head (distinct term_eq (subterms t)) ≡ distinct variable_eq (free_places t)
free_of_distinct t = free_union (subterms t) [] ∙ ap (distinct variable_eq) (free_of_parts t)

-- the type variables of the parts of a term, each part taken once
pub types_of_distinct : (t : Term) → distinct name_eq (gathered type_head (distinct term_eq (subterms t))) ≡ distinct name_eq (type_variable_places t)
types_of_distinct t = gathered-union name_eq (λ n. (name_eq-Decides n n).1 refl) term_eq (λ x y e. (term_eq-Decides x y).0 e) type_head (subterms t) [] [] ∙ ap
    (distinct name_eq) (types_of_parts t)
