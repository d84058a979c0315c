-- The text of a generated article is of bytes.
use Rattle.std.proofs.Common.{◌≡◌, ◌<◌, ◌+◌, ◌/◌, ◌%◌, ◌&&◌, ℕ, zero, suc, Bool, true, false, cond, List, [], ◌∷◌, ◌++◌, refl, sym, subst, arith, codes, decimal}
use Rattle.std.specs.Prelude.{nat_lt, ◌==◌}
use Rattle.std.specs.Fmt.{digit_glyph, digits, digits_onto}
use Rattle.std.specs.List.{list_all}
use Rattle.std.proofs.lemmas.Bool.Decides.{nat_tests}
use Rattle.hol_laws.specs.Members.{All-append}
use Rattle.hol_spec.specs.Mangling.{AreBytes}
use Rattle.article_spec.specs.Trial.{beginning, chained, block, blocks, ending, lines, words, trial_text}
use Rattle.vectors.proofs.TrialParts.{lines-append, block_parts, trial_parts, defined as defining_words, kept as keeping_words}

-- a text that passes the test of bytes is of bytes
bytes-told : (bs : List ℕ) → list_all (λ b. nat_lt b 256) bs ≡ true → AreBytes bs
bytes-told [] h = tt
bytes-told (b ∷ bs) h = go (nat_lt b 256) refl h (bytes-told bs)
  where
    go : (t : Bool) → nat_lt b 256 ≡ t → (t && list_all (λ b. nat_lt b 256) bs) ≡ true → (list_all (λ b. nat_lt b 256) bs ≡ true → AreBytes bs)
        → AreBytes (b ∷ bs)
    go true e k rest = ((let less : b < 256 = grind (arith, nat_tests, e) in less), rest k)
    go false e k rest = absurd (cc)

-- so are decimal digits
digit-byte : (n : ℕ) → digit_glyph false (n % 10) < 256
digit-byte n = go (nat_lt (n % 10) 10) refl
  where
    go : (t : Bool) → nat_lt (n % 10) 10 ≡ t → cond t (48 + n % 10) (87 + n % 10) < 256
    go true e = omega arith
    go false e = omega arith

digits-bytes : (k n : ℕ) (behind : List ℕ) → AreBytes behind → AreBytes (digits_onto k 10 false n behind)
digits-bytes zero n behind h = h
digits-bytes (suc k) n behind h = go (n / 10 == 0) (digits-bytes k (n / 10) (digit_glyph false (n % 10) ∷ behind) (digit-byte n, h))
  where
    go : (t : Bool) → AreBytes (digits_onto k 10 false (n / 10) (digit_glyph false (n % 10) ∷ behind))
        → AreBytes (cond t (digit_glyph false (n % 10) ∷ behind) (digits_onto k 10 false (n / 10) (digit_glyph false (n % 10) ∷ behind)))
    go true more = (digit-byte n, h)
    go false more = more

decimal-bytes : (n : ℕ) → AreBytes (decimal n)
unfolding digits
decimal-bytes n = digits-bytes 64 n [] tt

-- a block
chained-bytes : (i : ℕ) → AreBytes (lines (chained i))
chained-bytes i = go (i == 1)
  where
    go : (t : Bool) → AreBytes (lines (cond t [] (words (codes "7 ref trans"))))
    go true = tt
    go false = bytes-told (lines (words (codes "7 ref trans"))) refl

block-bytes : (i : ℕ) → AreBytes (lines (block i))
block-bytes i =
    let end : AreBytes (lines (chained i) ++ lines keeping_words) =
    All-append (λ b. b < 256) (lines (chained i)) (lines keeping_words) (chained-bytes i) (bytes-told (lines keeping_words) refl) in
    let middle : AreBytes ((codes "\"\n" ++ lines defining_words) ++ (lines (chained i) ++ lines keeping_words)) =
    All-append (λ b. b < 256) (codes "\"\n" ++ lines defining_words) (lines (chained i) ++ lines keeping_words)
    (bytes-told (codes "\"\n" ++ lines defining_words) refl) end in
    subst AreBytes (sym (block_parts i (decimal i) refl))
    (All-append (λ b. b < 256) (codes "\"c") (decimal i ++ ((codes "\"\n" ++ lines defining_words) ++ (lines (chained i) ++ lines keeping_words)))
    (bytes-told (codes "\"c") refl)
    (All-append (λ b. b < 256) (decimal i) ((codes "\"\n" ++ lines defining_words) ++ (lines (chained i) ++ lines keeping_words)) (decimal-bytes i) middle))

-- the blocks
blocks-bytes : (n : ℕ) → AreBytes (lines (blocks n))
blocks-bytes zero = tt
blocks-bytes (suc n) = subst AreBytes (sym (lines-append (blocks n) (block (suc n))))
    (All-append (λ b. b < 256) (lines (blocks n)) (lines (block (suc n))) (blocks-bytes n) (block-bytes (suc n)))

-- the whole text
pub trial_text-bytes : (n : ℕ) → AreBytes (trial_text n)
trial_text-bytes n =
    subst AreBytes (sym (trial_parts n))
    (All-append (λ b. b < 256) (lines beginning) (lines (blocks n) ++ lines ending) (bytes-told (lines beginning) refl)
    (All-append (λ b. b < 256) (lines (blocks n)) (lines ending) (blocks-bytes n) (bytes-told (lines ending) refl)))
