-- Sums of a measure over lists: of what is in a list once they are no greater.
use Rattle.std.proofs.Common.{◌≡◌, ℕ, ◌+◌, ◌*◌, ◌≤◌, List, [], ◌∷◌, ◌++◌, length, Bool, true, false, cond, arith}
use Rattle.std.specs.List.{AllByRecursion, sum_by, flat_map}
use Rattle.std.proofs.lemmas.List.Sums.{sum_by-cons}
use Rattle.hol_spec.specs.Lists.{is_in, union, distinct}

abbrev pub sums : {A : Type 0} → (A → ℕ) → List A → ℕ
sums measure [] = 0
sums measure (x ∷ xs) = measure x + sums measure xs

module _ {A : Type 0} (measure : A → ℕ) where
  pub sums-is : (xs : List A) → sums measure xs ≡ sum_by measure xs
  sums-is [] = omega arith
  sums-is (x ∷ xs) = let e = sum_by-cons measure x xs in let h = sums-is xs in omega (arith, e, h)

  pub sums-append : (xs ys : List A) → sums measure (xs ++ ys) ≡ sums measure xs + sums measure ys
  sums-append [] ys = omega arith
  sums-append (x ∷ xs) ys = let h = sums-append xs ys in omega (arith, h)

  pub sums-most : (c : ℕ) (xs : List A) → AllByRecursion (λ x. measure x ≤ c) xs → sums measure xs ≤ length xs * c
  sums-most c [] h = omega arith
  sums-most c (x ∷ xs) h = let l = sums-most c xs h.1 in omega (arith, h.0, l)

  pub sums-flat_map : {B : Type 0} (own : B → ℕ) (parts : B → List A) → ((y : B) → sums measure (parts y) ≤ own y) → (ys : List B)
      → sums measure (flat_map parts ys) ≤ sums own ys
  sums-flat_map own parts h [] = omega arith
  sums-flat_map own parts h (y ∷ ys) =
      let one = h y in
      let rest = sums-flat_map own parts h ys in
      let both = sums-append (parts y) (flat_map parts ys) in
      omega (arith, one, rest, both)

  module _ (same : A → A → Bool) where
    sums-new : (b : Bool) (xs : List A) (x : A) → sums measure (cond b xs (xs ++ x ∷ [])) ≤ sums measure xs + measure x
    sums-new true xs x = omega arith
    sums-new false xs x = let h = sums-append xs (x ∷ []) in omega (arith, h)

    sums-union : (ys xs : List A) → sums measure (union same xs ys) ≤ sums measure xs + sums measure ys
    sums-union [] xs = omega arith
    sums-union (y ∷ ys) xs =
        let new = sums-new (is_in same y xs) xs y in
        let rest = sums-union ys (cond (is_in same y xs) xs (xs ++ y ∷ [])) in
        omega (arith, new, rest)

    pub sums-distinct : (xs : List A) → sums measure (distinct same xs) ≤ sums measure xs
    sums-distinct xs = let h = sums-union xs [] in omega (arith, h)
