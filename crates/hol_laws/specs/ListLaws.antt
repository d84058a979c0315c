-- Laws of lists that are read as sets.
use Rattle.std.proofs.Common.{◌≡◌, List, [], ◌∷◌, ◌++◌, map, Bool, true, false, ◌||◌, cond, refl, sym, ap, subst, ◌∙◌}
use Rattle.std.specs.Prelude.{not}
use Rattle.std.specs.Bool.{Decides}
use Rattle.std.specs.List.{list_any, filter, AllByRecursion, IsDistinct}
use Rattle.std.proofs.lemmas.List.{append_assoc, append-nil}
use Rattle.std.proofs.lemmas.Map.Keys.{IsDistinct-cons, IsDistinct-tail, IsDistinct-head}
use Rattle.std.proofs.lemmas.Bool.{or_from, or_parts, or_right}
use Rattle.hol_spec.specs.Lists.{is_in, union, distinct, without}

-- To unite with a list in two parts is to unite with one after the other.
pub union-append : {A : Type 0} (same : A → A → Bool) (ys zs xs : List A) → union same xs (ys ++ zs) ≡ union same (union same xs ys) zs
union-append same [] zs xs = refl
union-append same (y ∷ ys) zs xs = union-append same ys zs (cond (is_in same y xs) xs (xs ++ y ∷ []))

AllByRecursion-push : {A : Type 0} (P : A → Type 0) (xs : List A) (y : A) → AllByRecursion P xs → P y → AllByRecursion P (xs ++ y ∷ [])
AllByRecursion-push P [] y h p = (p, tt)
AllByRecursion-push P (x ∷ xs) y h p = (h.0, AllByRecursion-push P xs y h.1 p)

module _ {A : Type 0} (same : A → A → Bool) (symmetric : (x y : A) → same x y ≡ false → same y x ≡ false) where
  -- A list without repeats has none with one element more that isn't in it.
  IsDistinct-push : (xs : List A) (y : A) → is_in same y xs ≡ false → IsDistinct same xs → IsDistinct same (xs ++ y ∷ [])
  IsDistinct-push [] y e h = IsDistinct-cons same y [] tt h
  IsDistinct-push (x ∷ xs) y e h =
      let apart = or_parts (same y x) (is_in same y xs) e in
      IsDistinct-cons same x (xs ++ y ∷ []) (AllByRecursion-push (λ z. same x z ≡ false) xs y (IsDistinct-head same x xs h) (symmetric y x apart.0))
      (IsDistinct-push xs y apart.1 (IsDistinct-tail same x xs h))

  with_new : (b : Bool) (xs : List A) (y : A) → is_in same y xs ≡ b → IsDistinct same xs → IsDistinct same (cond b xs (xs ++ y ∷ []))
  with_new true xs y e h = h
  with_new false xs y e h = IsDistinct-push xs y e h

  -- The union of a list without repeats with any list has none.
  pub union-IsDistinct : (ys xs : List A) → IsDistinct same xs → IsDistinct same (union same xs ys)
  union-IsDistinct [] xs h = h
  union-IsDistinct (y ∷ ys) xs h = union-IsDistinct ys (cond (is_in same y xs) xs (xs ++ y ∷ [])) (with_new (is_in same y xs) xs y refl h)

  -- The elements of a list, each where it occurs first, have no repeats.
  pub distinct-IsDistinct : (xs : List A) → IsDistinct same (distinct same xs)
  unfolding IsDistinct
  distinct-IsDistinct xs = union-IsDistinct xs [] tt

all_with_new : {A : Type 0} (P : A → Type 0) (b : Bool) (xs : List A) (y : A) → AllByRecursion P xs → P y → AllByRecursion P (cond b xs (xs ++ y ∷ []))
all_with_new P true xs y h p = h
all_with_new P false xs y h p = AllByRecursion-push P xs y h p

-- What holds of the elements of two lists holds of those of their union.
pub union-All : {A : Type 0} (P : A → Type 0) (same : A → A → Bool) (ys xs : List A) → AllByRecursion P xs → AllByRecursion P ys
    → AllByRecursion P (union same xs ys)
union-All P same [] xs h k = h
union-All P same (y ∷ ys) xs h k = union-All P same ys (cond (is_in same y xs) xs (xs ++ y ∷ [])) (all_with_new P (is_in same y xs) xs y h k.0) k.1

All-middle : {A : Type 0} (P : A → Type 0) (xs ys : List A) (y : A) → AllByRecursion P (xs ++ y ∷ ys) → P y
All-middle P [] ys y h = h.0
All-middle P (x ∷ xs) ys y h = All-middle P xs ys y h.1

All-kept : {A : Type 0} (P : A → Type 0) (b : Bool) (x : A) (xs : List A) → P x → AllByRecursion P xs → AllByRecursion P (cond b (x ∷ xs) xs)
All-kept P true x xs p h = (p, h)
All-kept P false x xs p h = h

-- What holds of each element holds of each that is kept.
pub All-filter : {A : Type 0} (P : A → Type 0) (p : A → Bool) (xs : List A) → AllByRecursion P xs → AllByRecursion P (filter p xs)
All-filter P p [] h = tt
All-filter P p (x ∷ xs) h = All-kept P (p x) x (filter p xs) h.0 (All-filter P p xs h.1)

module _ {A : Type 0} (same : A → A → Bool) where
  IsDistinct-kept : (b : Bool) (x : A) (xs : List A) → AllByRecursion (λ y. same x y ≡ false) xs → IsDistinct same xs → IsDistinct same (cond b (x ∷ xs) xs)
  IsDistinct-kept true x xs p h = IsDistinct-cons same x xs p h
  IsDistinct-kept false x xs p h = h

  -- What is kept of a list without repeats has none.
  pub IsDistinct-filter : (p : A → Bool) (xs : List A) → IsDistinct same xs → IsDistinct same (filter p xs)
  IsDistinct-filter p [] h = h
  IsDistinct-filter p (x ∷ xs) h =
      IsDistinct-kept (p x) x (filter p xs) (All-filter (λ y. same x y ≡ false) p xs (IsDistinct-head same x xs h))
      (IsDistinct-filter p xs (IsDistinct-tail same x xs h))

module _ {A : Type 0} (same : A → A → Bool) (symmetric : (x y : A) → same x y ≡ false → same y x ≡ false) where
  not_before : (xs ys : List A) (y : A) → IsDistinct same (xs ++ y ∷ ys) → is_in same y xs ≡ false
  not_before [] ys y h = refl
  not_before (x ∷ xs) ys y h =
      or_from (same y x) (list_any (same y) xs) (symmetric x y (All-middle (λ z. same x z ≡ false) xs ys y (IsDistinct-head same x (xs ++ y ∷ ys) h)))
      (not_before xs ys y (IsDistinct-tail same x (xs ++ y ∷ ys) h))

  union-apart : (ys xs : List A) → IsDistinct same (xs ++ ys) → union same xs ys ≡ xs ++ ys
  union-apart [] xs h = sym (append-nil xs)
  union-apart (y ∷ ys) xs h =
      ap (λ b. union same (cond b xs (xs ++ y ∷ [])) ys) (not_before xs ys y h)
      ∙ union-apart ys (xs ++ y ∷ []) (subst (IsDistinct same) (sym (append_assoc xs (y ∷ []) ys)) h)
      ∙ append_assoc xs (y ∷ []) ys

  -- A list without repeats is its elements, each where it occurs first.
  pub distinct-itself : (xs : List A) → IsDistinct same xs → distinct same xs ≡ xs
  distinct-itself xs h = union-apart xs [] h

module _ {A : Type 0} (same : A → A → Bool) (decides : (x y : A) → Decides (same x y) (x ≡ y)) where
  or_case : (P : Type 0) (a b : Bool) → (a ≡ true → P) → (b ≡ true → P) → (a || b) ≡ true → P
  or_case P true b f g e = f refl
  or_case P false b f g e = g e

  is_in-last : (x : A) (xs : List A) → is_in same x (xs ++ x ∷ []) ≡ true
  is_in-last x [] = ap (λ b. b || false) ((decides x x).1 refl)
  is_in-last x (y ∷ xs) = or_right (same x y) (is_in same x (xs ++ x ∷ [])) (is_in-last x xs)

  is_in-more : (x y : A) (xs : List A) → is_in same x xs ≡ true → is_in same x (xs ++ y ∷ []) ≡ true
  is_in-more x y [] e = absurd (cc)
  is_in-more x y (z ∷ xs) e = or_case (is_in same x (z ∷ xs ++ y ∷ []) ≡ true) (same x z) (is_in same x xs) (λ a. ap (λ b. b || is_in same x (xs ++ y ∷ [])) a)
      (λ b. or_right (same x z) (is_in same x (xs ++ y ∷ [])) (is_in-more x y xs b)) e

  is_in-if_new : (b : Bool) (x y : A) (xs : List A) → is_in same x xs ≡ true → is_in same x (cond b xs (xs ++ y ∷ [])) ≡ true
  is_in-if_new true x y xs e = e
  is_in-if_new false x y xs e = is_in-more x y xs e

  -- What is in a list is in its unions.
  pub is_in-union : (ys xs : List A) (x : A) → is_in same x xs ≡ true → is_in same x (union same xs ys) ≡ true
  is_in-union [] xs x e = e
  is_in-union (y ∷ ys) xs x e = is_in-union ys (cond (is_in same y xs) xs (xs ++ y ∷ [])) x (is_in-if_new (is_in same y xs) x y xs e)

  is_in-itself : (b : Bool) (x : A) (xs : List A) → is_in same x xs ≡ b → is_in same x (cond b xs (xs ++ x ∷ [])) ≡ true
  is_in-itself true x xs e = e
  is_in-itself false x xs e = is_in-last x xs

  -- What is in the second list is in the union.
  pub is_in-union_second : (ys xs : List A) (x : A) → is_in same x ys ≡ true → is_in same x (union same xs ys) ≡ true
  is_in-union_second [] xs x e = absurd (cc)
  is_in-union_second (y ∷ ys) xs x e =
      let more = cond (is_in same y xs) xs (xs ++ y ∷ []) in
      or_case (is_in same x (union same more ys) ≡ true) (same x y) (is_in same x ys)
      (λ a. is_in-union ys more x (subst (λ z. is_in same z more ≡ true) (sym ((decides x y).0 a)) (is_in-itself (is_in same y xs) y xs refl)))
      (λ b. is_in-union_second ys more x b) e

  union-if_new : (b : Bool) (xs found : List A) (y : A) → is_in same y found ≡ b
      → union same xs (cond b found (found ++ y ∷ [])) ≡ cond (is_in same y (union same xs found)) (union same xs found) (union same xs found ++ y ∷ [])
  union-if_new true xs found y e = ap (λ b. cond b (union same xs found) (union same xs found ++ y ∷ [])) (sym (is_in-union_second found xs y e))
  union-if_new false xs found y e = union-append same found (y ∷ []) xs

  union-assoc : (ys xs found : List A) → union same xs (union same found ys) ≡ union same (union same xs found) ys
  union-assoc [] xs found = refl
  union-assoc (y ∷ ys) xs found =
      union-assoc ys xs (cond (is_in same y found) found (found ++ y ∷ []))
      ∙ ap (λ l. union same l ys) (union-if_new (is_in same y found) xs found y refl)

  -- To unite with the elements of a list, each once, is to unite with the list.
  pub union-distinct : (ys xs : List A) → union same xs (distinct same ys) ≡ union same xs ys
  union-distinct ys xs = union-assoc ys xs []

module _ {A B : Type 0} (f : A → B) (same : A → A → Bool) (eq : B → B → Bool) (P : A → Type 0) (agree : (x y : A) → P x → P y → eq (f x) (f y) ≡ same x y) where
  -- Where two tests agree, an image is among the images exactly where its element is among the elements.
  pub is_in-map : (x : A) (xs : List A) → P x → AllByRecursion P xs → is_in eq (f x) (map f xs) ≡ is_in same x xs
  is_in-map x [] p h = refl
  is_in-map x (y ∷ xs) p h = ap (λ b. b || is_in eq (f x) (map f xs)) (agree x y p h.0) ∙ ap (λ b. same x y || b) (is_in-map x xs p h.1)

  map-last : (xs : List A) (y : A) → map f (xs ++ y ∷ []) ≡ map f xs ++ f y ∷ []
  map-last [] y = refl
  map-last (x ∷ xs) y = ap (λ l. f x ∷ l) (map-last xs y)

  map-if_new : (b : Bool) (xs : List A) (y : A) → map f (cond b xs (xs ++ y ∷ [])) ≡ cond b (map f xs) (map f xs ++ f y ∷ [])
  map-if_new true xs y = refl
  map-if_new false xs y = map-last xs y

  -- The images of a union are the union of the images.
  pub union-map : (ys xs : List A) → AllByRecursion P xs → AllByRecursion P ys → map f (union same xs ys) ≡ union eq (map f xs) (map f ys)
  union-map [] xs h k = refl
  union-map (y ∷ ys) xs h k =
      union-map ys (cond (is_in same y xs) xs (xs ++ y ∷ [])) (all_with_new P (is_in same y xs) xs y h k.0) k.1
      ∙ ap (λ l. union eq l (map f ys)) (map-if_new (is_in same y xs) xs y ∙ ap (λ b. cond b (map f xs) (map f xs ++ f y ∷ [])) (sym (is_in-map y xs k.0 h)))

  map-kept : (b : Bool) (x : A) (xs : List A) (ys : List B) → map f xs ≡ ys → map f (cond b (x ∷ xs) xs) ≡ cond b (f x ∷ ys) ys
  map-kept true x xs ys e = ap (λ l. f x ∷ l) e
  map-kept false x xs ys e = e

  -- The images of what is left without an element are what is left of the images.
  pub without-map : (xs : List A) (x : A) → AllByRecursion P xs → P x → map f (without same xs x) ≡ without eq (map f xs) (f x)
  without-map [] x h p = refl
  without-map (y ∷ xs) x h p =
      map-kept (not (same x y)) y (without same xs x) (without eq (map f xs) (f x)) (without-map xs x h.1 p)
      ∙ ap (λ b. cond (not b) (f y ∷ without eq (map f xs) (f x)) (without eq (map f xs) (f x))) (sym (agree x y p h.0))
