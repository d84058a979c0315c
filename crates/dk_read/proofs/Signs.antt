-- Signs at the head of a piece.
use Rattle.std.specs.Prelude.{if◌then◌else◌, IfSome}
use Rattle.std.proofs.Common.{◌≡◌, ℕ, ◌+◌, ◌≤◌, ◌==◌, refl, sym, ap, subst, ◌∙◌, Bool, false, List, [], ◌∷◌, length, get_or, drop, Option, None, Some, arith}
use Rattle.lp_spec.specs.Modules.{Declaration}
use Rattle.lp_spec.specs.Tokens as tokens
use Rattle.lp_spec.specs.ReadingFaults as reading
use Rattle.dk_laws.specs.ReadingLaws.{read_bytes-Refused}
use Rattle.dk_read.specs.declared.terms.Token.{Token}
use Rattle.dk_read.specs.declared.terms.Token.TheVariants as token
use Rattle.dk_read.specs.Names.{Named}
use Rattle.dk_read.specs.States.{token_in, IsTokenKnown}
use Rattle.dk_read.specs.Texts.{Signs}
use Rattle.dk_read.proofs.Bytes.{after_then, after_stops}

-- a byte that is a sign by itself
alone : (a : ℕ) (more : List ℕ) (t : Token) → IsTokenKnown [] t → ((p : ℕ) → tokens.begins p a ≡ tokens.goes (tokens.at p (token_in [] t) ∷ []) tokens.Nothing)
    → Signs (a ∷ more) 1 t
alone a more t known e = record {
  some = omega arith;
  within = omega arith;
  known = known;
  goes = λ p m m2 s s2 h.
      ap (λ x. reading.read_bytes (reading.after_byte (p + 1) m s x) more) (e p)
      ∙ ap (λ o. reading.read_bytes (reading.progress (p + 1) tokens.Nothing (reading.advance_all o [])) more) h;
  stops = λ p m s r h.
      ap (λ x. reading.read_bytes (reading.after_byte (p + 1) m s x) more) (e p)
      ∙ ap (λ o. reading.read_bytes (reading.progress (p + 1) tokens.Nothing (reading.advance_all o [])) more) h
      ∙ read_bytes-Refused r more;
}

-- two bytes, of which the first may go on by the second
module _ (a b : ℕ) (more : List ℕ) (t : Token) (known : IsTokenKnown [] t) (waits : ℕ → tokens.Pending)
    (begins : (p : ℕ) → tokens.begins p a ≡ tokens.goes [] (waits p)) where
  second : (p : ℕ) (m : List Declaration) (s : reading.State) (x : tokens.Taken) → tokens.take_byte (waits p) (p + 1) b ≡ x
      → reading.read_bytes (reading.Inside p tokens.Nothing m s) (a ∷ b ∷ more) ≡ reading.read_bytes (reading.after_byte (p + 1 + 1) m s x) more
  second p m s x e =
      ap (λ y. reading.read_bytes (reading.after_byte (p + 1) m s y) (b ∷ more)) (begins p)
      ∙ ap (λ y. reading.read_bytes (reading.after_byte (p + 1 + 1) m s y) more) e

  -- and does
  pair : ((p : ℕ) → tokens.take_byte (waits p) (p + 1) b ≡ tokens.goes (tokens.at p (token_in [] t) ∷ []) tokens.Nothing) → Signs (a ∷ b ∷ more) 2 t
  pair e = record {
    some = omega arith;
    within = omega arith;
    known = known;
    goes = λ p m m2 s s2 h.
        second p m s _ (e p)
        ∙ ap (λ o. reading.read_bytes (reading.progress (p + 1 + 1) tokens.Nothing (reading.advance_all o [])) more) h
        ∙ ap (λ i. reading.read_bytes (reading.Inside i tokens.Nothing m2 s2) more) (omega arith);
    stops = λ p m s r h.
        second p m s _ (e p)
        ∙ ap (λ o. reading.read_bytes (reading.progress (p + 1 + 1) tokens.Nothing (reading.advance_all o [])) more) h
        ∙ read_bytes-Refused r more;
  }

  -- and does not
  first : ((p : ℕ) → tokens.take_byte (waits p) (p + 1) b ≡ tokens.after (tokens.at p (token_in [] t)) (tokens.begins (p + 1) b)) → Signs (a ∷ b ∷ more) 1 t
  first e = record {
    some = omega arith;
    within = omega arith;
    known = known;
    goes = λ p m m2 s s2 h.
        second p m s _ (e p)
        ∙ ap (λ x. reading.read_bytes x more) (after_then (p + 1 + 1) p m m2 s s2 (token_in [] t) (tokens.begins (p + 1) b) h);
    stops = λ p m s r h.
        second p m s _ (e p)
        ∙ ap (λ x. reading.read_bytes x more) (after_stops (p + 1 + 1) p m s (token_in [] t) (tokens.begins (p + 1) b) r h)
        ∙ read_bytes-Refused r more;
  }

-- the signs
pub right_paren : (a : ℕ) (more : List ℕ) → a ≡ 41 → Signs (a ∷ more) 1 token.RightParen
right_paren a more e = subst (λ x. Signs (x ∷ more) 1 token.RightParen) (sym e) (alone 41 more token.RightParen tt (λ p. refl))

pub dot : (a : ℕ) (more : List ℕ) → a ≡ 46 → Signs (a ∷ more) 1 token.Dot
dot a more e = subst (λ x. Signs (x ∷ more) 1 token.Dot) (sym e) (alone 46 more token.Dot tt (λ p. refl))

pub assign : (a b : ℕ) (more : List ℕ) → a ≡ 58 → b ≡ 61 → Signs (a ∷ b ∷ more) 2 token.Assign
assign a b more e f = subst (λ x. Signs (x ∷ b ∷ more) 2 token.Assign) (sym e)
    (subst (λ y. Signs (58 ∷ y ∷ more) 2 token.Assign) (sym f) (pair 58 61 more token.Assign tt tokens.AfterColon (λ p. refl) (λ p. refl)))

pub arrow : (a b : ℕ) (more : List ℕ) → a ≡ 45 → b ≡ 62 → Signs (a ∷ b ∷ more) 2 token.Arrow
arrow a b more e f = subst (λ x. Signs (x ∷ b ∷ more) 2 token.Arrow) (sym e)
    (subst (λ y. Signs (45 ∷ y ∷ more) 2 token.Arrow) (sym f) (pair 45 62 more token.Arrow tt tokens.AfterMinus (λ p. refl) (λ p. refl)))

pub fat_arrow : (a b : ℕ) (more : List ℕ) → a ≡ 61 → b ≡ 62 → Signs (a ∷ b ∷ more) 2 token.FatArrow
fat_arrow a b more e f = subst (λ x. Signs (x ∷ b ∷ more) 2 token.FatArrow) (sym e)
    (subst (λ y. Signs (61 ∷ y ∷ more) 2 token.FatArrow) (sym f) (pair 61 62 more token.FatArrow tt tokens.AfterEquals (λ p. refl) (λ p. refl)))

pub colon : (a b : ℕ) (more : List ℕ) → a ≡ 58 → (b == 61) ≡ false → Signs (a ∷ b ∷ more) 1 token.Colon
colon a b more e f = subst (λ x. Signs (x ∷ b ∷ more) 1 token.Colon) (sym e)
    (first 58 b more token.Colon tt tokens.AfterColon (λ p. refl)
    (λ p. ap (λ (c : Bool). if c then tokens.goes (tokens.at p tokens.Assign ∷ []) tokens.Nothing else tokens.after (tokens.at p tokens.Colon)
    (tokens.begins (p + 1) b)) f))

pub left_paren : (a b : ℕ) (more : List ℕ) → a ≡ 40 → (b == 59) ≡ false → Signs (a ∷ b ∷ more) 1 token.LeftParen
left_paren a b more e f = subst (λ x. Signs (x ∷ b ∷ more) 1 token.LeftParen) (sym e)
    (first 40 b more token.LeftParen tt tokens.AfterParen (λ p. refl)
    (λ p. ap (λ (c : Bool). if c then tokens.goes [] (tokens.InComment p) else tokens.after (tokens.at p tokens.LeftParen) (tokens.begins (p + 1) b)) f))

-- a piece of two bytes or more
pub two_heads : (piece : List ℕ) → 2 ≤ length piece → get_or piece 0 0 ∷ get_or piece 1 0 ∷ drop 2 piece ≡ piece
two_heads [] h = absurd (omega arith)
two_heads (a ∷ []) h = absurd (omega arith)
two_heads (a ∷ b ∷ more) h = refl

-- what two bytes begin, at the head of a piece that begins by them
pub signs_piece : (piece : List ℕ) → 2 ≤ length piece → (r : Option (Token × ℕ))
    → IfSome r (λ s. (more : List ℕ) → Signs (get_or piece 0 0 ∷ get_or piece 1 0 ∷ more) s.1 s.0) → IfSome r (λ s. Signs piece s.1 s.0)
signs_piece piece h None e = tt
signs_piece piece h (Some s) e = subst (λ l. Signs l s.1 s.0) (two_heads piece h) (e (drop 2 piece))

-- a sign is the same token whatever names there are
pub token_in-sign : (ns : List Named) (t : Token) → IsTokenKnown [] t → token_in ns t ≡ token_in [] t
token_in-sign ns (token.Name n) h = absurd (omega (arith, h))
token_in-sign ns _ h = refl

pub IsTokenKnown-sign : (ns : List Named) (t : Token) → IsTokenKnown [] t → IsTokenKnown ns t
IsTokenKnown-sign ns (token.Name n) h = absurd (omega (arith, h))
IsTokenKnown-sign ns _ h = tt
