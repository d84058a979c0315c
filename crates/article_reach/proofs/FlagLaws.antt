-- Flags, once one more is set.
use Rattle.std.proofs.Common.{◌≡◌, ◌⊎◌, ℕ, zero, suc, ◌<◌, List, [], ◌∷◌, ◌++◌, arith, length, Bool, true, false, ◌||◌, inl, inr, refl, sym, ap, ◌∙◌}
use Rattle.std.specs.Prelude.{◌==◌, slice_set, slice_index_or}
use Rattle.std.specs.Bool.{Decides}
use Rattle.std.specs.Cmp.{unsigned_Decides}
use Rattle.std.proofs.lemmas.List.{get_or-set_same, get_or-set_other}
use Rattle.std.proofs.lemmas.Bool.{or_right, or_left}
use Rattle.std.specs.List.{AllByRecursion}
use Rattle.article_lines.specs.Flagged.{flag}
use Rattle.article_reach.specs.Least.{is_among}
use Rattle.article_reach.proofs.Walked.{or-false, or-assoc}

pub flag-set : (flags : List Bool) (j i : ℕ) → j < length flags → flag (slice_set flags j true) i ≡ (flag flags i || (i == j))
flag-set flags j i l = go (i == j) (unsigned_Decides i j)
  where
    go : (b : Bool) → Decides b (i ≡ j) → slice_index_or (slice_set flags j true) i false ≡ (slice_index_or flags i false || b)
    go true d =
        ap (λ k. slice_index_or (slice_set flags j true) k false) (d.0 refl) ∙ get_or-set_same flags j true false l
        ∙ sym (or_right (slice_index_or flags i false) true refl)
    go false d = get_or-set_other flags j i true false (λ e. let f : false ≡ true = d.1 e in absurd (cc)) ∙ sym (or-false (slice_index_or flags i false))

-- what was set before, or now
pub set-either : (flags : List Bool) (j i : ℕ) → j < length flags → flag (slice_set flags j true) i ≡ true → (i ≡ j) ⊎ (flag flags i ≡ true)
set-either flags j i l e = go (flag flags i) (i == j) (sym (flag-set flags j i l) ∙ e) (unsigned_Decides i j).0
  where
    go : (f b : Bool) → (f || b) ≡ true → (b ≡ true → i ≡ j) → (i ≡ j) ⊎ (f ≡ true)
    go true b e d = inr refl
    go false true e d = inl (d refl)
    go false false e d = absurd (cc)

pub set-kept : (flags : List Bool) (j i : ℕ) → j < length flags → flag flags i ≡ true → flag (slice_set flags j true) i ≡ true
set-kept flags j i l e = flag-set flags j i l ∙ or_left (flag flags i) (i == j) e

pub set-now : (flags : List Bool) (j : ℕ) → j < length flags → flag (slice_set flags j true) j ≡ true
set-now flags j l = flag-set flags j j l ∙ or_right (flag flags j) (j == j) ((unsigned_Decides j j).1 refl)

-- what holds of each of some numbers
pub All-index : {A : Type 0} (P : A → Type 0) (xs : List A) (i : ℕ) (d : A) → AllByRecursion P xs → i < length xs → P (slice_index_or xs i d)
All-index P [] i d h l = absurd (omega arith)
All-index P (x ∷ xs) zero d h l = h.0
All-index P (x ∷ xs) (suc i) d h l = All-index P xs i d h.1 (omega arith)

-- and one number more
pub among-last : (b : Bool) (ns : List ℕ) (n j : ℕ) → ((b || is_among ns j) || (j == n)) ≡ (b || is_among (ns ++ n ∷ []) j)
among-last true ns n j = refl
among-last false [] n j = sym (or-false (j == n))
among-last false (m ∷ ns) n j = or-assoc (j == m) (is_among ns j) (j == n) ∙ ap (λ c. (j == m) || c) (among-last false ns n j)
