-- Words for tables whose trees have numbers for bound variables.
use Rattle.std.specs.Prelude.{ℕ, suc, List, [], ◌∷◌}

-- the arguments put one after another, the last first, each lifted by the number still to come, where k more come after them
abbrev pub puts : {T : Type 0} → (ℕ → T → T) → (T → T → T) → ℕ → List T → T → T
puts lift put k [] t = t
puts lift put k (u ∷ us) t = put (lift k u) (puts lift put (suc k) us t)

-- the lists are as long as one another, and what stands at one place in both is so related
abbrev pub Pairwise : {A B : Type 0} → (A → B → Type 0) → List A → List B → Type 0
Pairwise R [] [] = Unit {0}
Pairwise R (x ∷ xs) (y ∷ ys) = R x y × Pairwise R xs ys
Pairwise R _ _ = ⊥
