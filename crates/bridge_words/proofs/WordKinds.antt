-- The kinds of word that are read.
use Rattle.std.proofs.Common.{◌≡◌, ◌++◌, ℕ, false, List, ◌∷◌, codes, take}
use Rattle.std.specs.Prelude.{◌==◌}
use Rattle.std.specs.List.{before_first}
use Rattle.std.specs.Str.{bytes_eq}

-- a word that begins with `--` and that names none of the options, neither to `clap` nor to the definition
pub record IsOther (c : ℕ) (cs : List ℕ) : Type 0 where
  pub budget_name : bytes_eq (codes "budget") (before_first (λ x. x == 61) (c ∷ cs)) ≡ false
  pub fast_name : bytes_eq (codes "fast") (before_first (λ x. x == 61) (c ∷ cs)) ≡ false
  pub share_name : bytes_eq (codes "share") (before_first (λ x. x == 61) (c ∷ cs)) ≡ false
  pub named : bytes_eq (take 9 (45 ∷ 45 ∷ c ∷ cs)) (codes "--budget=") ≡ false
  pub budget : bytes_eq (45 ∷ 45 ∷ c ∷ cs) (codes "--budget") ≡ false
  pub fast : bytes_eq (45 ∷ 45 ∷ c ∷ cs) (codes "--fast") ≡ false
  pub share : bytes_eq (45 ∷ 45 ∷ c ∷ cs) (codes "--share") ≡ false

-- a file, `--budget`, `--budget=N`, `--fast` or `--share`, one of these two with `=` and more, or another word that begins with `--`
pub data Kind : List ℕ → Type 0 where
  file : (b : ℕ) (bs : List ℕ) → (b == 45) ≡ false → Kind (b ∷ bs)
  budget : Kind (codes "--budget")
  named : (number : List ℕ) → Kind (codes "--budget=" ++ number)
  fast : Kind (codes "--fast")
  share : Kind (codes "--share")
  fast_valued : (value : List ℕ) → Kind (codes "--fast=" ++ value)
  share_valued : (value : List ℕ) → Kind (codes "--share=" ++ value)
  other : (c : ℕ) (cs : List ℕ) → IsOther c cs → Kind (45 ∷ 45 ∷ c ∷ cs)
