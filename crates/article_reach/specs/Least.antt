-- The least number that isn't among some, which a machine can tell.
use Rattle.std.specs.Prelude.{◌≡◌, ℕ, ◌<◌, ◌^◌, ◌==◌, List, Bool, true, false}
use Rattle.std.specs.List.{list_any}

abbrev pub is_among : List ℕ → ℕ → Bool
is_among ns q = list_any (λ n. q == n) ns

pub record IsLeast (ns : List ℕ) (q : ℕ) : Type 0 where
  pub free : is_among ns q ≡ false
  pub small : q < 2 ^ 64
  pub taken : (k : ℕ) → k < q → is_among ns k ≡ true
