-- The least number that no name has is the number of the binders.
use Rattle.std.proofs.Common.{◌≡◌, ℕ, zero, suc, ◌+◌, ◌<◌, ◌≤◌, ◌^◌, ◌==◌, Bool, true, false, ◌||◌, cond, List, [], ◌∷◌, ◌++◌, length, refl, sym, ap, ◌∙◌, arith}
use Rattle.std.specs.List.{list_any}
use Rattle.std.proofs.lemmas.Bool.Decides.{nat_tests}
use Rattle.hol_spec.specs.Lists.{is_in, union, distinct}
use Rattle.hol_spec.specs.Names.{Name}
use Rattle.hol_spec.specs.NameEquality.{name_eq}
use Rattle.hol_laws.specs.NameEqualityLaws.{name_eq-Decides}
use Rattle.article_write_spec.specs.BinderNames.{is_binder_name, first_free}
use Rattle.article_write_laws.specs.FreshNames.{one-number}
use Rattle.article_reach.specs.Least.{is_among, IsLeast}
use Rattle.article_reach.proofs.Pigeonhole.{at_least}

-- A test finds something in a list where it finds it in the list without repeats
any-same : (p : Name → Bool) (y : Name) (xs : List Name) → is_in name_eq y xs ≡ true → p y ≡ true → list_any p xs ≡ true
any-same p y [] h e = absurd (cc)
any-same p y (x ∷ xs) h e = go (name_eq y x) (name_eq-Decides y x).0 h (λ k. any-same p y xs k e)
  where
    go : (b : Bool) → (b ≡ true → y ≡ x) → (b || is_in name_eq y xs) ≡ true → (is_in name_eq y xs ≡ true → list_any p xs ≡ true) → (p x || list_any p xs) ≡ true
    go true f k again = ap (λ c. c || list_any p xs) (ap p (sym (f refl)) ∙ e)
    go false f k again = last (p x) (again k)
      where
        last : (c : Bool) → list_any p xs ≡ true → (c || list_any p xs) ≡ true
        last true r = refl
        last false r = r

any-last : (p : Name → Bool) (xs : List Name) (y : Name) → list_any p (xs ++ y ∷ []) ≡ (list_any p xs || p y)
any-last p [] y = go (p y)
  where
    go : (b : Bool) → (b || false) ≡ b
    go true = refl
    go false = refl
any-last p (x ∷ xs) y = ap (λ b. p x || b) (any-last p xs y) ∙ go (p x)
  where
    go : (b : Bool) → (b || (list_any p xs || p y)) ≡ ((b || list_any p xs) || p y)
    go true = refl
    go false = refl

any-union : (p : Name → Bool) (ys xs : List Name) → list_any p (union name_eq xs ys) ≡ (list_any p xs || list_any p ys)
any-union p [] xs = go (list_any p xs)
  where
    go : (b : Bool) → b ≡ (b || false)
    go true = refl
    go false = refl
any-union p (y ∷ ys) xs = any-union p ys (cond (is_in name_eq y xs) xs (xs ++ y ∷ [])) ∙ go (is_in name_eq y xs) (p y) refl refl
  where
    go : (b c : Bool) → is_in name_eq y xs ≡ b → p y ≡ c → (list_any p (cond b xs (xs ++ y ∷ [])) || list_any p ys) ≡ (list_any p xs || (c || list_any p ys))
    go true true e f = ap (λ d. d || list_any p ys) (any-same p y xs e f) ∙ sym (ap (λ d. d || true) (any-same p y xs e f))
    go true false e f = refl
    go false c e f = ap (λ d. d || list_any p ys) (any-last p xs y ∙ ap (λ d. list_any p xs || d) f) ∙ move (list_any p xs) c
      where
        move : (a d : Bool) → ((a || d) || list_any p ys) ≡ (a || (d || list_any p ys))
        move true d = refl
        move false d = refl

pub any-distinct : (p : Name → Bool) (xs : List Name) → list_any p (distinct name_eq xs) ≡ list_any p xs
any-distinct p xs = any-union p xs []

-- The first free number, from a number that is no greater
first-is : (more q r : ℕ) (names : List Name) → q ≤ r → r ≤ q + more → ((k : ℕ) → k < r → list_any (is_binder_name k) names ≡ true)
    → list_any (is_binder_name r) names ≡ false → first_free more q names ≡ r
first-is zero q r names low high taken free = omega (arith, low, high)
first-is (suc more) q r names low high taken free =
    go (q == r) refl (λ less. first-is more (suc q) r names (omega (arith, less)) (omega (arith, high)) taken free)
  where
    go : (b : Bool) → (q == r) ≡ b → (q < r → first_free more (suc q) names ≡ r) → first_free (suc more) q names ≡ r
    go true e again = let same : q ≡ r = grind (arith, nat_tests, e) in ap (λ b. cond b (first_free more (suc q) names) q)
        (ap (λ k. list_any (is_binder_name k) names) same ∙ free) ∙ same
    go false e again = let less : q < r = grind (arith, nat_tests, e, low) in ap (λ b. cond b (first_free more (suc q) names) q) (taken q less) ∙ again less

pub least-first : (numbers : List ℕ) (r : ℕ) (names : List Name) → IsLeast numbers r
    → ((q : ℕ) → q < 2 ^ 64 → is_among numbers q ≡ list_any (is_binder_name q) names)
    → first_free (length (distinct name_eq names)) 0 (distinct name_eq names) ≡ r
least-first numbers r names least same =
    let small = least.small in
    let told : (q : ℕ) → q < 2 ^ 64 → list_any (is_binder_name q) (distinct name_eq names) ≡ is_among numbers q =
    λ q l. any-distinct (is_binder_name q) names ∙ sym (same q l) in
    let taken : (k : ℕ) → k < r → list_any (is_binder_name k) (distinct name_eq names) ≡ true = λ k l. told k (omega (arith, l, small)) ∙ least.taken k l in
    let high = at_least is_binder_name (2 ^ 64) one-number (distinct name_eq names) r (omega (arith, small)) taken in
    first-is (length (distinct name_eq names)) 0 r (distinct name_eq names) (omega arith) (omega (arith, high)) taken (told r small ∙ least.free)
