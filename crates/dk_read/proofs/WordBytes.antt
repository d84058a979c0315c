-- The table of the bytes of words.
use Rattle.std.proofs.Common.{◌≡◌, ℕ, zero, suc, ◌+◌, ◌<◌, ap, ◌∙◌, Bool, false, List, [], ◌∷◌, get_or, arith}
use Rattle.lp_spec.specs.Tokens.{is_word_byte}

-- the answers for k bytes from n on
abbrev pub answers : ℕ → ℕ → List Bool
answers zero n = []
answers (suc k) n = is_word_byte n ∷ answers k (suc n)

answer_at : (k n i : ℕ) → i < k → get_or (answers k n) i false ≡ is_word_byte (n + i)
answer_at zero n i h = absurd (omega (arith, h))
answer_at (suc k) n zero h =
    let here : n ≡ n + 0 = omega arith in
    ap is_word_byte here
answer_at (suc k) n (suc i) h =
    let there : suc n + i ≡ n + suc i = omega arith in
    answer_at k (suc n) i (omega (arith, h)) ∙ ap is_word_byte there

-- a table of the answers for all bytes
pub byte_at : (i : ℕ) → i < 256 → get_or (answers 256 0) i false ≡ is_word_byte i
byte_at i h =
    let from : 0 + i ≡ i = omega arith in
    answer_at 256 0 i h ∙ ap is_word_byte from
