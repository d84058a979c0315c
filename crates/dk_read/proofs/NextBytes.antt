-- What the next byte does, by what is pending.
use Rattle.std.proofs.Common.{◌≡◌, ℕ, ◌+◌, ◌==◌, ap, ◌∙◌, Bool, false, [], ◌∷◌, Result, Err, arith}
use Rattle.std.specs.Prelude.{if◌then◌else◌}
use Rattle.std.proofs.lemmas.Grind.{common_steps}
use Rattle.lp_spec.specs.Tokens as tokens
use Rattle.lp_spec.specs.ReadingFaults as reading
use Rattle.dk_read.specs.declared.faults.Stop.{Stop}
use Rattle.dk_read.specs.declared.text.Pending.{Pending}
use Rattle.dk_read.specs.declared.text.Text.{Text}
use Rattle.dk_read.specs.States.{before, state_of, refused_by, Breaks}
use Rattle.dk_read.specs.Texts.{inside, pending_in, Takes}
use Rattle.dk_read.proofs.Bytes.{takes_as, OnRefusal-map}

-- a byte that does this where this is pending
pub next_does : (t new : Text) (x : Pending) (b : ℕ) (taken : tokens.Taken) (r : Result (Unit {0}) Stop) → t.pending ≡ x
    → tokens.take_byte (pending_in t.word.items x) t.place b ≡ taken
    → Takes (reading.after_byte (t.place + 1) (before t.parser) (state_of t.parser) taken) new r → Takes (reading.read_byte (inside t) b) new r
next_does t new x b taken r e f h =
    takes_as _ _ new r
    (ap (λ (y : Pending). reading.read_byte (reading.Inside t.place (pending_in t.word.items y) (before t.parser) (state_of t.parser)) b) e
    ∙ ap (reading.after_byte (t.place + 1) (before t.parser) (state_of t.parser)) f)
    h

-- a byte that begins no token
pub next_sticks : (t new : Text) (x : Pending) (b q : ℕ) (f : Stop) → t.pending ≡ x → tokens.take_byte (pending_in t.word.items x) t.place b
    ≡ tokens.sticks [] q → Breaks (reading.broken (reading.Goes (before t.parser) (state_of t.parser)) q) new.parser.names f
    → Takes (reading.read_byte (inside t) b) new (Err f)
next_sticks t new x b q f e k h = next_does t new x b (tokens.sticks [] q) (Err f) e k
    (OnRefusal-map (refused_by new.parser.names f) (λ r i. ap reading.Refused i) h)

other_byte : (b k : ℕ) → (b ≡ k → ⊥) → (b == k) ≡ false
other_byte b k h = grind (arith, common_steps, h)

module _ (q p b : ℕ) where
  pub AfterColon-assign : b ≡ 61 → tokens.take_byte (tokens.AfterColon q) p b ≡ tokens.goes (tokens.at q tokens.Assign ∷ []) tokens.Nothing
  AfterColon-assign e = ap (tokens.take_byte (tokens.AfterColon q) p) e

  pub AfterColon-other : (b ≡ 61 → ⊥) → tokens.take_byte (tokens.AfterColon q) p b ≡ tokens.after (tokens.at q tokens.Colon) (tokens.begins p b)
  AfterColon-other h = ap
      (λ (c : Bool). if c then tokens.goes (tokens.at q tokens.Assign ∷ []) tokens.Nothing else tokens.after (tokens.at q tokens.Colon) (tokens.begins p b))
      (other_byte b 61 h)

  pub AfterMinus-arrow : b ≡ 62 → tokens.take_byte (tokens.AfterMinus q) p b ≡ tokens.goes (tokens.at q tokens.Arrow ∷ []) tokens.Nothing
  AfterMinus-arrow e = ap (tokens.take_byte (tokens.AfterMinus q) p) e

  pub AfterMinus-other : (b ≡ 62 → ⊥) → tokens.take_byte (tokens.AfterMinus q) p b ≡ tokens.sticks [] q
  AfterMinus-other h = ap (λ (c : Bool). if c then tokens.goes (tokens.at q tokens.Arrow ∷ []) tokens.Nothing else tokens.sticks [] q) (other_byte b 62 h)

  pub AfterEquals-arrow : b ≡ 62 → tokens.take_byte (tokens.AfterEquals q) p b ≡ tokens.goes (tokens.at q tokens.FatArrow ∷ []) tokens.Nothing
  AfterEquals-arrow e = ap (tokens.take_byte (tokens.AfterEquals q) p) e

  pub AfterEquals-other : (b ≡ 62 → ⊥) → tokens.take_byte (tokens.AfterEquals q) p b ≡ tokens.sticks [] q
  AfterEquals-other h = ap (λ (c : Bool). if c then tokens.goes (tokens.at q tokens.FatArrow ∷ []) tokens.Nothing else tokens.sticks [] q) (other_byte b 62 h)

  pub AfterParen-comment : b ≡ 59 → tokens.take_byte (tokens.AfterParen q) p b ≡ tokens.goes [] (tokens.InComment q)
  AfterParen-comment e = ap (tokens.take_byte (tokens.AfterParen q) p) e

  pub AfterParen-other : (b ≡ 59 → ⊥) → tokens.take_byte (tokens.AfterParen q) p b ≡ tokens.after (tokens.at q tokens.LeftParen) (tokens.begins p b)
  AfterParen-other h = ap (λ (c : Bool). if c then tokens.goes [] (tokens.InComment q) else tokens.after (tokens.at q tokens.LeftParen) (tokens.begins p b))
      (other_byte b 59 h)

  pub InComment-semicolon : b ≡ 59 → tokens.take_byte (tokens.InComment q) p b ≡ tokens.goes [] (tokens.AfterSemicolon q)
  InComment-semicolon e = ap (tokens.take_byte (tokens.InComment q) p) e

  pub InComment-other : (b ≡ 59 → ⊥) → tokens.take_byte (tokens.InComment q) p b ≡ tokens.goes [] (tokens.InComment q)
  InComment-other h = ap (λ (c : Bool). tokens.goes [] (if c then tokens.AfterSemicolon q else tokens.InComment q)) (other_byte b 59 h)

  pub AfterSemicolon-end : b ≡ 41 → tokens.take_byte (tokens.AfterSemicolon q) p b ≡ tokens.goes [] tokens.Nothing
  AfterSemicolon-end e = ap (tokens.take_byte (tokens.AfterSemicolon q) p) e

  pub AfterSemicolon-semicolon : b ≡ 59 → tokens.take_byte (tokens.AfterSemicolon q) p b ≡ tokens.goes [] (tokens.AfterSemicolon q)
  AfterSemicolon-semicolon e = ap (tokens.take_byte (tokens.AfterSemicolon q) p) e

  pub AfterSemicolon-other : (b ≡ 41 → ⊥) → (b ≡ 59 → ⊥) → tokens.take_byte (tokens.AfterSemicolon q) p b ≡ tokens.goes [] (tokens.InComment q)
  AfterSemicolon-other h k =
      ap (λ (c : Bool). tokens.goes [] (if c then tokens.Nothing else if b == 59 then tokens.AfterSemicolon q else tokens.InComment q)) (other_byte b 41 h)
      ∙ ap (λ (c : Bool). tokens.goes [] (if c then tokens.AfterSemicolon q else tokens.InComment q)) (other_byte b 59 k)
