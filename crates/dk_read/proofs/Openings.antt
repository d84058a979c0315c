-- What is read of the signature's own text.
use Rattle.std.proofs.Common.{◌≡◌, ℕ, suc, ◌+◌, ◌-◌, ◌<◌, ◌==◌, if◌then◌else◌, refl, sym, ap, ◌∙◌, Bool, true, false, List, [], ◌∷◌, length, drop, arith}
use Rattle.std.proofs.lemmas.Grind.{common_steps}
use Rattle.lp_spec.specs.Tokens.{Nothing}
use Rattle.lp_spec.specs.ReadingFaults as reading
use Rattle.dk_laws.specs.ReadingLaws.{read_bytes-Refused}
use Rattle.dk_read.specs.Texts.{common}

same : (p a b : ℕ) (bytes wanted : List ℕ) → (a == b) ≡ true → reading.read_bytes (reading.read_byte (reading.Opening p (b ∷ wanted)) a) bytes
    ≡ reading.read_bytes (reading.opened (p + 1) wanted) bytes
same p a b bytes wanted e = ap
    (λ (c : Bool). reading.read_bytes (if c then reading.opened (p + 1) wanted else reading.Refused (reading.refusal p reading.NoPrelude)) bytes) e

other : (p a b : ℕ) (bytes wanted : List ℕ) → (a == b) ≡ false → reading.read_bytes (reading.read_byte (reading.Opening p (b ∷ wanted)) a) bytes
    ≡ reading.Refused (reading.refusal p reading.NoPrelude)
other p a b bytes wanted e = ap
    (λ (c : Bool). reading.read_bytes (if c then reading.opened (p + 1) wanted else reading.Refused (reading.refusal p reading.NoPrelude)) bytes) e
    ∙ read_bytes-Refused (reading.refusal p reading.NoPrelude) bytes

common_same : (a b : ℕ) (x y : List ℕ) → (a == b) ≡ true → common (a ∷ x) (b ∷ y) ≡ suc (common x y)
common_same a b x y e = ap (λ (c : Bool). if c then suc (common x y) else 0) e

common_other : (a b : ℕ) (x y : List ℕ) → (a == b) ≡ false → common (a ∷ x) (b ∷ y) ≡ 0
common_other a b x y e = ap (λ (c : Bool). if c then suc (common x y) else 0) e

-- all of the signature's text
whole_by : (p a b : ℕ) (x y : List ℕ) (c : Bool) → (a == b) ≡ c → common (a ∷ x) (b ∷ y) ≡ length (b ∷ y)
    → (common x y ≡ length y → reading.read_bytes (reading.opened (p + 1) y) x
    ≡ reading.read_bytes (reading.Inside (p + 1 + length y) Nothing [] reading.Between) (drop (length y) x))
    → reading.read_bytes (reading.opened p (b ∷ y)) (a ∷ x)
    ≡ reading.read_bytes (reading.Inside (p + 1 + length y) Nothing [] reading.Between) (drop (length y) x)
whole_by p a b x y true e h k = same p a b x y e ∙ k (omega (arith, h, common_same a b x y e))
whole_by p a b x y false e h k = absurd (omega (arith, h, common_other a b x y e))

pub whole : (p : ℕ) (bytes wanted : List ℕ) → common bytes wanted ≡ length wanted → reading.read_bytes (reading.opened p wanted) bytes
    ≡ reading.read_bytes (reading.Inside (p + length wanted) Nothing [] reading.Between) (drop (length wanted) bytes)
whole p bytes [] h = ap (λ q. reading.read_bytes (reading.Inside q Nothing [] reading.Between) bytes) (omega arith)
whole p [] (b ∷ y) h = absurd (omega (arith, h))
whole p (a ∷ x) (b ∷ y) h =
    whole_by p a b x y (a == b) refl h (λ k. whole (p + 1) x y k)
    ∙ ap (λ q. reading.read_bytes (reading.Inside q Nothing [] reading.Between) (drop (length y) x)) (omega arith)

-- a proper front of it
short_by : (p a b : ℕ) (x y : List ℕ) (c : Bool) → (a == b) ≡ c → common (a ∷ x) (b ∷ y) ≡ length (a ∷ x)
    → (common x y ≡ length x → reading.read_bytes (reading.opened (p + 1) y) x ≡ reading.Opening (p + 1 + length x) (drop (length x) y))
    → reading.read_bytes (reading.opened p (b ∷ y)) (a ∷ x) ≡ reading.Opening (p + 1 + length x) (drop (length x) y)
short_by p a b x y true e h k = same p a b x y e ∙ k (omega (arith, h, common_same a b x y e))
short_by p a b x y false e h k = absurd (omega (arith, h, common_other a b x y e))

pub short : (p : ℕ) (bytes wanted : List ℕ) → common bytes wanted ≡ length bytes → length bytes < length wanted
    → reading.read_bytes (reading.opened p wanted) bytes ≡ reading.Opening (p + length bytes) (drop (length bytes) wanted)
short p bytes [] h below = absurd (omega arith)
short p [] (b ∷ y) h below = ap (λ q. reading.Opening q (b ∷ y)) (omega arith)
short p (a ∷ x) (b ∷ y) h below =
    short_by p a b x y (a == b) refl h (λ k. short (p + 1) x y k (omega (arith, below)))
    ∙ ap (λ q. reading.Opening q (drop (length x) y)) (omega arith)

-- another byte
differs_by : (p n a b : ℕ) (x y : List ℕ) (c : Bool) → (a == b) ≡ c → common (a ∷ x) (b ∷ y) < length (a ∷ x) → common (a ∷ x) (b ∷ y) < length (b ∷ y)
    → p + common (a ∷ x) (b ∷ y) ≡ n
    → (common x y < length x → common x y < length y → p + 1 + common x y ≡ n → reading.read_bytes (reading.opened (p + 1) y) x
    ≡ reading.Refused (reading.refusal n reading.NoPrelude)) → reading.read_bytes (reading.opened p (b ∷ y)) (a ∷ x)
    ≡ reading.Refused (reading.refusal n reading.NoPrelude)
differs_by p n a b x y true e h g q k = let s = common_same a b x y e in same p a b x y e ∙ k (omega (arith, h, s)) (omega (arith, g, s)) (omega (arith, q, s))
differs_by p n a b x y false e h g q k = let s = common_other a b x y e in other p a b x y e ∙ ap (λ i. reading.Refused (reading.refusal i reading.NoPrelude))
    (omega (arith, q, s))

pub differs : (p n : ℕ) (bytes wanted : List ℕ) → common bytes wanted < length bytes → common bytes wanted < length wanted → p + common bytes wanted ≡ n
    → reading.read_bytes (reading.opened p wanted) bytes ≡ reading.Refused (reading.refusal n reading.NoPrelude)
differs p n bytes [] h g e = absurd (omega (arith, g))
differs p n [] (b ∷ y) h g e = absurd (omega (arith, h))
differs p n (a ∷ x) (b ∷ y) h g e = differs_by p n a b x y (a == b) refl h g e (λ k l m. differs (p + 1) n x y k l m)

-- where some of it is to come
pub opened_some : (p : ℕ) (wanted : List ℕ) → 0 < length wanted → reading.Opening p wanted ≡ reading.opened p wanted
opened_some p [] h = absurd (omega arith)
opened_some p (b ∷ wanted) h = refl

pub drop_drop : (n k : ℕ) (xs : List ℕ) → drop k (drop n xs) ≡ drop (n + k) xs
drop_drop n k xs = grind (arith, common_steps)

pub length_drop : (n : ℕ) (xs : List ℕ) → length (drop n xs) ≡ length xs - n
length_drop n xs = grind (arith, common_steps)

-- the next piece of it
module _ (count : ℕ) (piece all : List ℕ) (within : count < length all) where
  some_wanted : 0 < length (drop count all)
  some_wanted = omega (arith, within, length_drop count all)

  begins : reading.read_bytes (reading.Opening count (drop count all)) piece ≡ reading.read_bytes (reading.opened count (drop count all)) piece
  begins = ap (λ d. reading.read_bytes d piece) (opened_some count (drop count all) some_wanted)

  pub opening_differs : (n : ℕ) → n ≡ common piece (drop count all) → n < length piece → n < length (drop count all)
      → reading.read_bytes (reading.Opening count (drop count all)) piece ≡ reading.Refused (reading.refusal (count + n) reading.NoPrelude)
  opening_differs n e h g = begins ∙ differs count (count + n) piece (drop count all) (omega (arith, e, h)) (omega (arith, e, g)) (omega (arith, e))

  pub opening_short : (n : ℕ) → n ≡ common piece (drop count all) → n ≡ length piece → n < length (drop count all)
      → reading.read_bytes (reading.Opening count (drop count all)) piece ≡ reading.Opening (count + n) (drop (count + n) all)
  opening_short n e h g =
      begins ∙ short count piece (drop count all) (sym e ∙ h) (omega (arith, h, g))
      ∙ ap (λ k. reading.Opening (count + k) (drop k (drop count all))) (sym h)
      ∙ ap (reading.Opening (count + n)) (drop_drop count n all)

  pub opening_whole : (n : ℕ) → n ≡ common piece (drop count all) → n ≡ length (drop count all)
      → reading.read_bytes (reading.Opening count (drop count all)) piece
      ≡ reading.read_bytes (reading.Inside (length all) Nothing [] reading.Between) (drop n piece)
  opening_whole n e h =
      begins ∙ whole count piece (drop count all) (sym e ∙ h)
      ∙ ap (λ q. reading.read_bytes (reading.Inside q Nothing [] reading.Between) (drop (length (drop count all)) piece))
      (omega (arith, within, length_drop count all))
      ∙ ap (λ k. reading.read_bytes (reading.Inside (length all) Nothing [] reading.Between) (drop k piece)) (sym h)
