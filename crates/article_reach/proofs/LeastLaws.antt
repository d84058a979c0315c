-- The least number that isn't among some, by flags.
use Rattle.std.proofs.Common.{◌≡◌, ◌⊎◌, ◌+◌, ℕ, ◌<◌, ◌≤◌, ◌^◌, List, length, Bool, true, false, arith, sym, ◌∙◌, inl, inr}
use Rattle.std.specs.Prelude.{◌==◌}
use Rattle.std.proofs.lemmas.Bool.Decides.{nat_tests}
use Rattle.article_lines.specs.Flagged.{flag}
use Rattle.article_reach.specs.Least.{is_among, IsLeast}
use Rattle.article_reach.proofs.Pigeonhole.{at_least}

-- Of one number more than these one isn't among them.
pub flags-IsLeast : (ns : List ℕ) (flags : List Bool) (r : ℕ) → length flags ≡ length ns + 1 → length flags < 2 ^ 64
    → ((i : ℕ) → i < length flags → flag flags i ≡ is_among ns i) → r ≤ length flags → (r < length flags → flag flags r ≡ false)
    → ((i : ℕ) → i < r → flag flags i ≡ true) → IsLeast ns r
flags-IsLeast ns flags r long small are within unset set =
    let low : r < length flags = below (cases r (length flags) within) in
    record { free = sym (are r low) ∙ unset low; small = omega (arith, low, small); taken = λ k l. sym (are k (omega (arith, l, low))) ∙ set k l }
  where
    cases : (a b : ℕ) → a ≤ b → (a < b) ⊎ (a ≡ b)
    cases a b h = grind (arith, h)

    below : (r < length flags) ⊎ (r ≡ length flags) → r < length flags
    below (inl l) = l
    below (inr e) = absurd (
        let high = at_least (λ k n. k == n) r (λ p q n hp hq e f. grind (arith, nat_tests, e, f)) ns r (omega arith)
        (λ k l. sym (are k (omega (arith, l, e))) ∙ set k l) in
        omega (arith, high, e, long)
        )
