-- Premises by their numbers.
use Rattle.std.proofs.Common.{◌≡◌, ℕ, refl, arith, List, [], ◌∷◌, length}
use Rattle.std.specs.Prelude.{slice_index_or}

-- a list of one, and of two
pub one-item : (xs : List ℕ) → length xs ≡ 1 → xs ≡ slice_index_or xs 0 0 ∷ []
one-item [] e = absurd (omega (arith, e))
one-item (x ∷ []) e = refl
one-item (x ∷ (y ∷ xs)) e = absurd (omega (arith, e))

pub two-items : (xs : List ℕ) → length xs ≡ 2 → xs ≡ slice_index_or xs 0 0 ∷ slice_index_or xs 1 0 ∷ []
two-items [] e = absurd (omega (arith, e))
two-items (x ∷ []) e = absurd (omega (arith, e))
two-items (x ∷ (y ∷ [])) e = refl
two-items (x ∷ (y ∷ (z ∷ xs))) e = absurd (omega (arith, e))
