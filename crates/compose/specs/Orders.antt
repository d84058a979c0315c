-- An order of sets of numbers, which are given as lists: of two sets that differ, that one comes first of which is the least number that is of one of them alone.
use Rattle.std.specs.Prelude.{◌≡◌, ◌<◌, ◌==◌, ℕ, Bool, true, false, List, Option, None, Some}
use Rattle.std.specs.List.{list_any}
use Rattle.std.specs.declared.cmp.Ordering.{Ordering}
use Rattle.hol_term.specs.declared.TermId.{TermId}

-- whether a number is in a list
abbrev pub has : List TermId → ℕ → Bool
has ids n = list_any (λ (id : TermId). n == id.0) ids

-- two lists are one set
abbrev pub AreSame : List TermId → List TermId → Type 0
AreSame a b = (n : ℕ) → has a n ≡ has b n

-- a number is the least of a that is not in b
pub record IsLeast (a b : List TermId) (least : ℕ) : Type 0 where
  pub own : has a least ≡ true
  pub lacks : has b least ≡ false
  pub below : (n : ℕ) → n < least → has a n ≡ true → has b n ≡ true

-- the least number of a that is not in b, or that there is none
abbrev pub IsLeastBeyond : List TermId → List TermId → Option TermId → Type 0
IsLeastBeyond a b None = (n : ℕ) → has a n ≡ true → has b n ≡ true
IsLeastBeyond a b (Some id) = IsLeast a b id.0

-- a comes before b: the least number in which they differ is of a
pub record IsBefore (a b : List TermId) : Type 0 where
  pub at : ℕ
  pub own : has a at ≡ true
  pub lacks : has b at ≡ false
  pub same : (n : ℕ) → n < at → has a n ≡ has b n

-- how two sets compare
abbrev pub Compares : List TermId → List TermId → Ordering → Type 0
Compares a b Ordering.Less = IsBefore a b
Compares a b Ordering.Equal = AreSame a b
Compares a b Ordering.Greater = IsBefore b a
