-- Lines, cut at a byte.
use Rattle.std.proofs.Common.{◌≡◌, ◌≢◌, ℕ, zero, suc, ◌<◌, List, [], ◌∷◌, ◌++◌, length, refl, ap, arith}
use Rattle.article_spec.specs.Lines.{newline, IsLine}

-- a line and a part of it
pub IsLine-append : (line part : List ℕ) → IsLine line → IsLine part → IsLine (line ++ part)
IsLine-append [] part h k = k
IsLine-append (b ∷ line) part h k = (h.0, IsLine-append line part h.1 k)

-- a part of a line about the byte behind so many
pub record CutAt (part : List ℕ) (count : ℕ) : Type 0 where
  pub front : List ℕ
  pub byte : ℕ
  pub back : List ℕ
  pub is : part ≡ front ++ byte ∷ back
  pub counted : length front ≡ count
  pub line : IsLine front
  pub other : byte ≢ newline

pub CutAt-of : (part : List ℕ) (count : ℕ) → count < length part → IsLine part → CutAt part count
CutAt-of [] count h line = absurd (omega (arith, h))
CutAt-of (b ∷ part) zero h line = record { front = []; byte = b; back = part; is = refl; counted = refl; line = tt; other = line.0 }
CutAt-of (b ∷ part) (suc count) h line =
    let c = CutAt-of part count (omega (arith, h)) line.1 in
    record {
      front = b ∷ c.front;
      byte = c.byte;
      back = c.back;
      is = ap (λ xs. b ∷ xs) c.is;
      counted = omega (arith, c.counted);
      line = (line.0, c.line);
      other = c.other;
    }
