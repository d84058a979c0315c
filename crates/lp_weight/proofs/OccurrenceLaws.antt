-- Sizes and spreads by the numbers of occurrences.
use Rattle.std.proofs.Common.{◌≡◌, ℕ, zero, suc, ◌+◌, ◌-◌, ◌*◌, ◌<◌, ◌≤◌, refl, ap, arith, List, [], ◌∷◌, ◌++◌, reverse, Bool, true, false, Some}
use Rattle.std.specs.Prelude.{nat_lt, nat_eq, slice_get, if◌then◌else◌}
use Rattle.std.proofs.lemmas.List.{reverse-append}
use Rattle.std.proofs.Math.Nat.{mul-suc}
use Rattle.lp_spec.specs.Trees.{Tree, SortType, SortKind, Var, Sym, App, Lam, Pi, size, put_all_var, put_all_at, put_all, loose}
use Rattle.lp_spec.specs.Weight.{spread_after, spread}
use Rattle.lp_binding_laws.specs.Binding.{size-positive}
use Rattle.lp_weight.specs.Occurrences.{occurrences, spread_by}
use Rattle.lp_weight.proofs.SpreadLaws.{size-variable, put_all_at-none}

-- a variable under d binders that isn't loose has the size 1
variable-below : (d : ℕ) (us : List Tree) (n : ℕ) → n < d → size (put_all_var d us n) ≡ 1
variable-below d us n l = grind (arith, l)

-- what an argument more, the last, adds at a variable
at_variable : (d : ℕ) (us : List Tree) (u : Tree) (n : ℕ) → size (put_all_var d (us ++ u ∷ []) n) + occurrences d (Var n)
    ≡ size (put_all_var (suc d) us n) + occurrences d (Var n) * size u
at_variable d us u n = go (nat_lt n d) refl (nat_eq n d) refl
  where
    reversed : reverse (us ++ u ∷ []) ≡ u ∷ reverse us
    reversed = reverse-append us (u ∷ [])

    go : (b : Bool) → nat_lt n d ≡ b → (e : Bool) → nat_eq n d ≡ e → size (put_all_var d (us ++ u ∷ []) n) + (if nat_eq n d then 1 else 0)
        ≡ size (put_all_var (suc d) us n) + (if nat_eq n d then 1 else 0) * size u
    go true l true e = absurd (grind (arith, l, e))
    go true l false e =
        let low : n < d = grind (arith, l) in
        let lower : n < suc d = omega (arith, low) in
        rw e (omega (arith, variable-below d (us ++ u ∷ []) n low, variable-below (suc d) us n lower))
    go false l true e =
        let same : n ≡ d = grind (arith, e) in
        let le : d ≤ n = omega (arith, same) in
        let lower : n < suc d = omega (arith, same) in
        let at : slice_get (reverse (us ++ u ∷ [])) (n - d) ≡ Some u = let z : n - d ≡ 0 = omega (arith, same) in rw (z, reversed) refl in
        let has : size (put_all_var d (us ++ u ∷ []) n) ≡ size u = size-variable d (us ++ u ∷ []) n (Some u) at le in
        rw e (omega (arith, has, variable-below (suc d) us n lower))
    go false l false e =
        let above : suc d ≤ n = grind (arith, l, e) in
        let le : d ≤ n = omega (arith, above) in
        let at : slice_get (reverse (us ++ u ∷ [])) (n - d) ≡ slice_get (reverse us) (n - suc d) = let z : n - d ≡ suc (n - suc d) =
        omega (arith, above) in rw (z, reversed) refl in
        let more = size-variable d (us ++ u ∷ []) n (slice_get (reverse us) (n - suc d)) at le in
        let less = size-variable (suc d) us n (slice_get (reverse us) (n - suc d)) refl above in
        rw e (omega (arith, more, less))

-- what an argument more, the last, adds to a size
more-sum : (a b oa ob pa pb u : ℕ) → a + oa ≡ pa + oa * u → b + ob ≡ pb + ob * u → 1 + a + b + (oa + ob) ≡ 1 + pa + pb + (oa + ob) * u
more-sum a b oa ob pa pb u ha hb = omega (arith, ha, hb)

pub size-put_all-more : (d : ℕ) (us : List Tree) (u t : Tree) → size (put_all_at d (us ++ u ∷ []) t) + occurrences d t
    ≡ size (put_all_at (suc d) us t) + occurrences d t * size u
size-put_all-more d us u SortType = omega arith
size-put_all-more d us u SortKind = omega arith
size-put_all-more d us u (Var n) = at_variable d us u n
size-put_all-more d us u (Sym s) = omega arith
size-put_all-more d us u (App f x) = more-sum _ _ _ _ _ _ _ (size-put_all-more d us u f) (size-put_all-more d us u x)
size-put_all-more d us u (Lam a b) = more-sum _ _ _ _ _ _ _ (size-put_all-more d us u a) (size-put_all-more (suc d) us u b)
size-put_all-more d us u (Pi a b) = more-sum _ _ _ _ _ _ _ (size-put_all-more d us u a) (size-put_all-more (suc d) us u b)

-- a product at an argument, over plain numbers: sizes of the domain and the body without and with what is put in, of the body with the argument too, the spread of the body
product-sum : (a b pa pb pu o s rest by : ℕ) → 1 ≤ s → pu + o ≡ pb + o * s → rest + b ≡ pu + by → pa + rest + (1 + a + b) ≡ 1 + pa + pb + (a + o * (s - 1) + by)
product-sum a b pa pb pu o zero rest by l h g = absurd (omega (arith, l))
product-sum a b pa pb pu o (suc s) rest by l h g = let e : suc s - 1 ≡ s = omega arith in rw e (omega (arith, h, g, mul-suc o s))

pub spread_after-by : (before us : List Tree) (ty : Tree) → spread_after before us ty + size ty ≡ size (put_all before ty) + spread_by us ty
spread_after-by before [] SortType = refl
spread_after-by before [] SortKind = refl
spread_after-by before [] (Var n) = refl
spread_after-by before [] (Sym s) = refl
spread_after-by before [] (App f x) = refl
spread_after-by before [] (Lam a b) = refl
spread_after-by before [] (Pi a b) = refl
spread_after-by before (u ∷ us) SortType = refl
spread_after-by before (u ∷ us) SortKind = refl
spread_after-by before (u ∷ us) (Var n) = refl
spread_after-by before (u ∷ us) (Sym s) = refl
spread_after-by before (u ∷ us) (App f x) = refl
spread_after-by before (u ∷ us) (Lam a b) = refl
spread_after-by before (u ∷ us) (Pi a b) =
    product-sum (size a) (size b) (size (put_all before a)) (size (put_all_at 1 before b)) (size (put_all (before ++ u ∷ []) b)) (occurrences 0 b) (size u)
    (spread_after (before ++ u ∷ []) us b) (spread_by us b)
    (size-positive u) (size-put_all-more 0 before u b) (spread_after-by (before ++ u ∷ []) us b)

-- the spread of a type at arguments, by occurrences
pub spread-by : (us : List Tree) (ty : Tree) → spread us ty ≡ spread_by us ty
spread-by us ty = omega (arith, spread_after-by [] us ty, ap size (put_all_at-none 0 ty))

-- a variable occurs nowhere in a tree that the binders within it close
pub occurrences-closed : (d : ℕ) (t : Tree) → loose t ≤ d → occurrences d t ≡ 0
occurrences-closed d SortType h = refl
occurrences-closed d SortKind h = refl
occurrences-closed d (Var n) h = grind arith
occurrences-closed d (Sym s) h = refl
occurrences-closed d (App f x) h = omega (arith, occurrences-closed d f (omega (arith, h)), occurrences-closed d x (omega (arith, h)))
occurrences-closed d (Lam a b) h = omega (arith, occurrences-closed d a (omega (arith, h)), occurrences-closed (suc d) b (omega (arith, h)))
occurrences-closed d (Pi a b) h = omega (arith, occurrences-closed d a (omega (arith, h)), occurrences-closed (suc d) b (omega (arith, h)))
