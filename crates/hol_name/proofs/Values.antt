-- What the code's lists say of a name.
use Rattle.std.proofs.Common.{◌≡◌, ℕ, Bool, List, [], ◌∷◌, map, length, get_or, refl, ap, arith}
use Rattle.std.specs.Bool.{Decides}
use Rattle.std.specs.Str.{bytes_eq}
use Rattle.std.specs.Hash as fed
use Rattle.std.proofs.lemmas.List.{length-map}
use Rattle.std.proofs.lemmas.List.Folds.{flat_map-map}
use Rattle.std.proofs.lemmas.Slice.Eq.{bytes_eq-Decides}

-- a test of the one component decides whether the name is that component
pub single-Decides : {V : Type 0} (f : V → List ℕ) (vs : List V) (d : V) (name : List (List ℕ)) (text : List ℕ) (r : Bool) → map f vs ≡ name → length vs ≡ 1 → r
    ≡ bytes_eq (f (get_or vs 0 d)) text → Decides r (name ≡ text ∷ [])
single-Decides f [] d name text r view len is = absurd (omega (arith, len))
single-Decides f (v ∷ []) d name text r view len is =
    let test = bytes_eq-Decides (f v) text in
    rw (← view, is) ((λ t. ap (λ b. b ∷ []) (test.0 t)), (λ e. test.1 (cc)))
single-Decides f (v ∷ w ∷ vs) d name text r view len is = absurd (omega (arith, len))

-- the writes for the parts of a list that is seen through its elements
pub slice-map : {V : Type 0} (f : V → List ℕ) (vs : List V) → fed.slice (λ v. fed.slice fed.u8 (f v)) vs ≡ fed.slice (fed.slice fed.u8) (map f vs)
slice-map f vs = rw (length-map vs f, flat_map-map (fed.slice fed.u8) f vs) refl
