-- Bounds one after another.
use Rattle.std.proofs.Common.{◌≡◌, ℕ, zero, suc, ◌+◌, ◌<◌, ◌≤◌, List, [], ◌∷◌, ◌++◌, map, length, min, take, slice_get, get_or, Some, refl, sym, ap, ◌∙◌, arith}
use Rattle.std.specs.Prelude.{sum_by, option_map}
use Rattle.std.specs.Option.{option_map_or}
use Rattle.std.proofs.Math.Path.{ap₂}
use Rattle.std.proofs.lemmas.Grind.{common_steps}
use Rattle.std.proofs.lemmas.List.Sums.{sum_by_more}
use Rattle.std.proofs.lemmas.Option.{slice_get_within, slice_get-map, get_or_from_slice_get}
use Rattle.lp_spec.specs.Modules.{Declaration}
use Rattle.lp_spec.specs.Weight.{bound, greatest}
use Rattle.bridge_spec.specs.Texts.{written_bound}

-- what a function gives of the elements so far, and of the next
take_suc-map : {A : Type 0} (f : A → ℕ) (xs : List A) (i : ℕ) → i < length xs → map f (take (suc i) xs) ≡ map f (take i xs)
    ++ option_map_or f (slice_get xs i) 0 ∷ []
take_suc-map f [] i l = absurd (omega (arith, l))
take_suc-map f (x ∷ xs) zero l = refl
take_suc-map f (x ∷ xs) (suc i) l = ap (λ ys. f x ∷ ys) (take_suc-map f xs i (omega (arith, l)))

pub front-more : {A : Type 0} (f : A → ℕ) (xs : List A) (i : ℕ) → i < length xs → map f (take (i + 1) xs) ≡ map f (take i xs)
    ++ option_map_or f (slice_get xs i) 0 ∷ []
front-more f xs i l = let up : i + 1 ≡ suc i = omega arith in ap (λ k. map f (take k xs)) up ∙ take_suc-map f xs i l

-- what is cut off before is cut off after
min-add : (s b most : ℕ) → min (min s most + b) most ≡ min (s + b) most
min-add s b most = grind (arith, common_steps)

-- as many elements as there are, or more, are all of them
pub front-whole : {A : Type 0} (xs : List A) (i : ℕ) → length xs ≤ i → take i xs ≡ xs
front-whole [] zero l = refl
front-whole [] (suc i) l = refl
front-whole (x ∷ xs) zero l = absurd (omega (arith, l))
front-whole (x ∷ xs) (suc i) l = ap (λ ys. x ∷ ys) (front-whole xs i (omega (arith, l)))

-- the bound that is written of the next declaration is added, as far as a number goes
pub written-more : (m : List Declaration) (bounds : List ℕ) (i : ℕ) (d : Declaration) (b x total : ℕ) → bounds ≡ map (bound m) m → slice_get m i ≡ Some d
    → get_or bounds i x ≡ b
    → total ≡ min (sum_by (λ d. written_bound d.form (bound m d)) (take i m)) greatest
    → min (total + written_bound d.form b) greatest ≡ min (sum_by (λ d. written_bound d.form (bound m d)) (take (i + 1) m)) greatest
written-more m bounds i d b x total are at is so =
    let f : Declaration → ℕ = λ d. written_bound d.form (bound m d) in
    let there : slice_get bounds i ≡ Some (bound m d) = ap (λ bs. slice_get bs i) are ∙ slice_get-map (bound m) m i ∙ ap (option_map (bound m)) at in
    let own : b ≡ bound m d = sym is ∙ get_or_from_slice_get bounds i (bound m d) x there in
    let next : f (get_or m i d) ≡ f d = ap f (get_or_from_slice_get m i d d at) in
    let sums = sum_by_more f m i d (slice_get_within m i d at) in
    ap₂ (λ t b. min (t + written_bound d.form b) greatest) so own
    ∙ min-add (sum_by f (take i m)) (f d) greatest
    ∙ ap (λ n. min n greatest) (ap (λ n. sum_by f (take i m) + n) (sym next) ∙ sym sums)
