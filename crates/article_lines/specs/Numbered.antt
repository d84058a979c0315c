-- Texts of a number, an underscore and digits.
use Rattle.std.specs.Prelude.{◌≡◌, ◌≢◌, ◌++◌, ◌∷◌, ℕ, true, Some, List, slice_get, take}
use Rattle.std.specs.List.{AllByRecursion}
use Rattle.std.specs.Fmt.{decimal}
use Rattle.article_write_spec.specs.BinderNames.{are_digits}

-- the number, an underscore and digits
pub record IsNumbered (q : ℕ) (text : List ℕ) : Type 0 where
  pub behind : List ℕ
  pub is : text ≡ decimal q ++ 95 ∷ behind
  pub digits : are_digits behind ≡ true

-- no underscore
abbrev pub HasNone : List ℕ → Type 0
HasNone text = AllByRecursion (λ b. b ≢ 95) text

-- the first place of one
pub record IsFirst (text : List ℕ) (place : ℕ) : Type 0 where
  pub at : slice_get text place ≡ Some 95
  pub before : HasNone (take place text)

-- the value is this number, these are its digits, and behind them stand digits
pub record IsConfirmed (value : ℕ) (digits behind : List ℕ) (q : ℕ) : Type 0 where
  pub same : value ≡ q
  pub written : digits ≡ decimal q
  pub followed : are_digits behind ≡ true
