-- What was pushed has the number that the list was long.
use Rattle.std.proofs.Common.{◌≡◌, ℕ, ◌<◌, ◌-◌, refl, ap, ◌∙◌, arith, List, [], ◌∷◌, ◌++◌, length, length-append, take}
use Rattle.std.specs.Prelude.{slice_get, unwrap_or}
use Rattle.stack_machine.proofs.Cells.{at-last}

module _ {A : Type 0} (xs ys : List A) (x : A) (n : ℕ) (e : ys ≡ xs ++ x ∷ []) (f : n ≡ length xs) where
  pub pushed-at : (d : A) → unwrap_or (slice_get ys n) d ≡ x
  pushed-at d = rw (e, f) (at-last d xs x)

  pub pushed-within : n < length ys
  pushed-within = let l = ap length e ∙ length-append xs (x ∷ []) in omega (arith, l, f)

-- what was pushed is taken back
take-front : {A : Type 0} (xs : List A) (x : A) → take (length xs) (xs ++ x ∷ []) ≡ xs
take-front [] x = refl
take-front (y ∷ xs) x = ap (λ l. y ∷ l) (take-front xs x)

pub taken_back : {A : Type 0} (xs ys zs : List A) (x : A) → ys ≡ xs ++ x ∷ [] → zs ≡ take (length ys - 1) ys → zs ≡ xs
taken_back xs ys zs x e f =
    let k = ap length e ∙ length-append xs (x ∷ []) in
    let l : length ys - 1 ≡ length xs = omega (arith, k) in
    f ∙ ap (λ n. take n ys) l ∙ ap (take (length xs)) e ∙ take-front xs x
