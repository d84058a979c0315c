-- Numbers that ascend.
use Rattle.std.specs.Prelude.{ℕ, suc, ◌≤◌, List, [], ◌∷◌}

-- numbers that ascend, from one number on and below another
abbrev pub Ascend : ℕ → ℕ → List ℕ → Type 0
Ascend low high [] = low ≤ high
Ascend low high (i ∷ is) = (low ≤ i) × Ascend (suc i) high is
