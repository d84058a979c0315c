-- Members of lists, and what holds of all of them.
use Rattle.std.proofs.Common.{◌≡◌, ◌⊎◌, inl, inr, ⊎_elim, List, [], ◌∷◌, ◌++◌, map, Bool, true, false, cond, ◌||◌, refl, sym, ap, subst}
use Rattle.std.specs.Bool.{Decides}
use Rattle.std.specs.List.{AllByRecursion, flat_map}
use Rattle.hol_spec.specs.Lists.{IsIn, is_in, union, distinct}
use Rattle.hol_laws.specs.ListLaws.{union-All}

-- where the first implies the second, what has the first has the second
pub All-weaker : {A : Type 0} (P Q : A → Type 0) → ((x : A) → P x → Q x) → (xs : List A) → AllByRecursion P xs → AllByRecursion Q xs
All-weaker P Q f [] h = tt
All-weaker P Q f (x ∷ xs) h = (f x h.0, All-weaker P Q f xs h.1)

-- what holds of all elements holds of each that is in the list
pub All-at : {A : Type 0} (P : A → Type 0) (xs : List A) (x : A) → AllByRecursion P xs → IsIn xs x → P x
All-at P [] x h k = absurd k
All-at P (y ∷ ys) x h (inl e) = subst P (sym e) h.0
All-at P (y ∷ ys) x h (inr k) = All-at P ys x h.1 k

-- what holds of each element in a list holds of all
pub All-each : {A : Type 0} (P : A → Type 0) (xs : List A) → ((x : A) → IsIn xs x → P x) → AllByRecursion P xs
All-each P [] h = tt
All-each P (y ∷ ys) h = (h y (inl refl), All-each P ys (λ x k. h x (inr k)))

-- what holds of all elements of both lists holds of all of the joined one, and the reverse
pub All-append : {A : Type 0} (P : A → Type 0) (xs ys : List A) → AllByRecursion P xs → AllByRecursion P ys → AllByRecursion P (xs ++ ys)
All-append P [] ys h k = k
All-append P (x ∷ xs) ys h k = (h.0, All-append P xs ys h.1 k)

pub All-left : {A : Type 0} (P : A → Type 0) (xs ys : List A) → AllByRecursion P (xs ++ ys) → AllByRecursion P xs
All-left P [] ys h = tt
All-left P (x ∷ xs) ys h = (h.0, All-left P xs ys h.1)

pub All-right : {A : Type 0} (P : A → Type 0) (xs ys : List A) → AllByRecursion P (xs ++ ys) → AllByRecursion P ys
All-right P [] ys h = h
All-right P (x ∷ xs) ys h = All-right P xs ys h.1

-- of a list of lists, all of each part
pub All-part : {A B : Type 0} (P : B → Type 0) (f : A → List B) (xs : List A) (x : A) → AllByRecursion P (flat_map f xs) → IsIn xs x → AllByRecursion P (f x)
All-part P f [] x h k = absurd k
All-part P f (y ∷ ys) x h (inl e) = subst (λ z. AllByRecursion P (f z)) (sym e) (All-left P (f y) (flat_map f ys) h)
All-part P f (y ∷ ys) x h (inr k) = All-part P f ys x (All-right P (f y) (flat_map f ys) h) k

-- an element of a part of a joined list
pub IsIn-left : {A : Type 0} (xs ys : List A) (x : A) → IsIn xs x → IsIn (xs ++ ys) x
IsIn-left [] ys x k = absurd k
IsIn-left (y ∷ xs) ys x (inl e) = inl e
IsIn-left (y ∷ xs) ys x (inr k) = inr (IsIn-left xs ys x k)

pub IsIn-right : {A : Type 0} (xs ys : List A) (x : A) → IsIn ys x → IsIn (xs ++ ys) x
IsIn-right [] ys x k = k
IsIn-right (y ∷ xs) ys x k = inr (IsIn-right xs ys x k)

pub IsIn-either : {A : Type 0} (xs ys : List A) (x : A) → IsIn (xs ++ ys) x → IsIn xs x ⊎ IsIn ys x
IsIn-either [] ys x k = inr k
IsIn-either (y ∷ xs) ys x (inl e) = inl (inl e)
IsIn-either (y ∷ xs) ys x (inr k) = ⊎_elim (λ l. inl (inr l)) (λ r. inr r) (IsIn-either xs ys x k)

-- what holds of the values of a function on all elements holds of all of the list of values
pub All-mapped : {A B : Type 0} (P : B → Type 0) (f : A → B) (xs : List A) → AllByRecursion (λ x. P (f x)) xs → AllByRecursion P (map f xs)
All-mapped P f [] h = tt
All-mapped P f (x ∷ xs) h = (h.0, All-mapped P f xs h.1)

-- equal functions on the elements give equal lists
pub map-each : {A B : Type 0} (f g : A → B) (xs : List A) → AllByRecursion (λ x. f x ≡ g x) xs → map f xs ≡ map g xs
map-each f g [] h = refl
map-each f g (x ∷ xs) h = λ i. h.0 i ∷ map-each f g xs h.1 i

pub map-twice : {A B C : Type 0} (f : B → C) (g : A → B) (xs : List A) → map f (map g xs) ≡ map (λ x. f (g x)) xs
map-twice f g [] = refl
map-twice f g (x ∷ xs) = ap (λ l. f (g x) ∷ l) (map-twice f g xs)

module _ {A : Type 0} (same : A → A → Bool) (decides : (x y : A) → Decides (same x y) (x ≡ y)) where
  -- what a test finds in a list is in it
  pub is_in-IsIn : (xs : List A) (x : A) → is_in same x xs ≡ true → IsIn xs x
  is_in-IsIn [] x h = absurd (cc)
  is_in-IsIn (y ∷ ys) x h = go (same x y) (decides x y).0 (λ k. is_in-IsIn ys x k) h
    where
      go : (b : Bool) → (b ≡ true → x ≡ y) → (is_in same x ys ≡ true → IsIn ys x) → (b || is_in same x ys) ≡ true → IsIn (y ∷ ys) x
      go true f g h = inl (f refl)
      go false f g h = inr (g h)

  with_new : (b : Bool) (xs : List A) (y x : A) → IsIn xs x → IsIn (cond b xs (xs ++ y ∷ [])) x
  with_new true xs y x k = k
  with_new false xs y x k = IsIn-left xs (y ∷ []) x k

  -- a union has the elements of the first list
  pub IsIn-union_left : (ys xs : List A) (x : A) → IsIn xs x → IsIn (union same xs ys) x
  IsIn-union_left [] xs x k = k
  IsIn-union_left (y ∷ ys) xs x k = IsIn-union_left ys (cond (is_in same y xs) xs (xs ++ y ∷ [])) x (with_new (is_in same y xs) xs y x k)

  new : (b : Bool) (xs : List A) (y : A) → (b ≡ true → IsIn xs y) → IsIn (cond b xs (xs ++ y ∷ [])) y
  new true xs y f = f refl
  new false xs y f = IsIn-right xs (y ∷ []) y (inl refl)

  -- and those of the second
  pub IsIn-union_right : (ys xs : List A) (x : A) → IsIn ys x → IsIn (union same xs ys) x
  IsIn-union_right [] xs x k = absurd k
  IsIn-union_right (y ∷ ys) xs x (inl e) =
      IsIn-union_left ys (cond (is_in same y xs) xs (xs ++ y ∷ [])) x
      (subst (IsIn (cond (is_in same y xs) xs (xs ++ y ∷ []))) (sym e) (new (is_in same y xs) xs y (is_in-IsIn xs y)))
  IsIn-union_right (y ∷ ys) xs x (inr k) = IsIn-union_right ys (cond (is_in same y xs) xs (xs ++ y ∷ [])) x k

  -- the list where each element stands once has them all
  pub IsIn-distinct : (xs : List A) (x : A) → IsIn xs x → IsIn (distinct same xs) x
  IsIn-distinct xs x k = IsIn-union_right xs [] x k

  -- and no others
  pub IsIn-distinct_of : (xs : List A) (x : A) → IsIn (distinct same xs) x → IsIn xs x
  IsIn-distinct_of xs x k = All-at (IsIn xs) (distinct same xs) x (union-All (IsIn xs) same xs [] (tt {0}) (All-each (IsIn xs) xs (λ y h. h))) k

-- what is in a part of a list of parts is in the list, and what is in the list is in a part
pub IsIn-flat_map : {A B : Type 0} (f : A → List B) (xs : List A) (x : A) (y : B) → IsIn xs x → IsIn (f x) y → IsIn (flat_map f xs) y
IsIn-flat_map f [] x y i j = absurd i
IsIn-flat_map f (z ∷ xs) x y (inl e) j = IsIn-left (f z) (flat_map f xs) y (subst (λ u. IsIn (f u) y) e j)
IsIn-flat_map f (z ∷ xs) x y (inr i) j = IsIn-right (f z) (flat_map f xs) y (IsIn-flat_map f xs x y i j)

pub flat_map-part : {A B : Type 0} (f : A → List B) (xs : List A) (y : B) → IsIn (flat_map f xs) y → (x : A) × IsIn xs x × IsIn (f x) y
flat_map-part f [] y i = absurd i
flat_map-part f (z ∷ xs) y i = elim (IsIn-either (f z) (flat_map f xs) y i) [
  | inl j ↦ (z, inl refl, j)
  | inr j ↦ let r = flat_map-part f xs y j in (r.0, inr r.1, r.2)
]
