-- The tokens of words, signs and comments that are written one after another.
use Rattle.std.proofs.Common.{◌≡◌, ℕ, zero, suc, ◌+◌, ◌<◌, refl, sym, ap, ◌∙◌, append_assoc, Bool, true, false, not, ◌&&◌, ◌==◌, List, [], ◌∷◌, ◌++◌, codes, arith}
use Rattle.std.specs.Prelude.{if◌then◌else◌, ◌/◌, ◌%◌, decimal}
use Rattle.std.specs.Fmt.{digits, digits_onto, digit_glyph}
use Rattle.std.specs.List.{list_all}
use Rattle.std.proofs.lemmas.List.{append-nil}
use Rattle.std.proofs.lemmas.Grind.{common_steps}
use Rattle.std.proofs.lemmas.Bool.{and_parts, and_from, not-true}
use Rattle.lp_spec.specs.Text.{binder_name}
use Rattle.lp_spec.specs.TextLaws.{IsWordText}
use Rattle.lp_spec.specs.Tokens.{Dot, LeftParen, RightParen, Colon, Assign, Arrow, FatArrow, Placed, at, is_letter, is_word_byte, is_space, word_token, Pending, Nothing, InWord, InComment, AfterSemicolon, Taken, goes, sticks, begins, after, before, Scanned, scan, tokens_from}

-- the text begins with a byte that ends a word
abbrev pub IsStop : List ℕ → Type 0
IsStop [] = ⊥
IsStop (b ∷ text) = is_word_byte b ≡ false

-- a byte that doesn't begin a comment after a `(`
pub record IsOpener (text : List ℕ) : Type 0 where
  pub first : ℕ
  pub more : List ℕ
  pub is : text ≡ first ∷ more
  pub other : (first == 59) ≡ false

-- tokens by what they make of the tokens behind them
abbrev pub Front : Type 0
Front = List Placed → List Placed

abbrev pub put : Front → Scanned → Scanned
put front s = record { tokens = front s.tokens; end = s.end }

-- the text at place p, before a rest, has tokens of this kind
pub record Found (Kind : List Placed → List Placed → Type 0) (p : ℕ) (text rest : List ℕ) : Type 0 where
  pub front : Front
  pub place : ℕ
  pub is : tokens_from p (text ++ rest) ≡ put front (tokens_from place rest)
  pub holds : (tokens : List Placed) → Kind (front tokens) tokens

-- the text has tokens of this kind wherever it stands
abbrev pub Says : (List Placed → List Placed → Type 0) → List ℕ → Type 0
Says Kind text = (p : ℕ) (rest : List ℕ) → IsStop rest → Found Kind p text rest

after-scan : (token : Placed) (taken : Taken) (p : ℕ) (bytes : List ℕ) → scan (after token taken) p bytes ≡ before (token ∷ []) (scan taken p bytes)
after-scan token (sticks tokens q) p bytes = refl
after-scan token (goes tokens pending) p [] = refl
after-scan token (goes tokens pending) p (b ∷ bytes) = refl

-- tokens that were ended come first
pub scan-goes : (tokens : List Placed) (pending : Pending) (p : ℕ) (text : List ℕ)
    → scan (goes tokens pending) p text ≡ before tokens (scan (goes [] pending) p text)
scan-goes tokens pending p [] = refl
scan-goes tokens pending p (b ∷ text) = refl

-- the signs between the parts of a tree or a declaration
pub space_at : (p : ℕ) (text : List ℕ) → tokens_from p (32 ∷ text) ≡ tokens_from (p + 1) text
space_at p text = refl

pub close_at : (p : ℕ) (text : List ℕ) → tokens_from p (41 ∷ text) ≡ put (λ tokens. at p RightParen ∷ tokens) (tokens_from (p + 1) text)
close_at p text = scan-goes (at p RightParen ∷ []) Nothing (p + 1) text

pub colon_at : (p : ℕ) (text : List ℕ) → tokens_from p (32 ∷ 58 ∷ 32 ∷ text) ≡ put (λ tokens. at (p + 1) Colon ∷ tokens) (tokens_from (p + 1 + 1 + 1) text)
colon_at p text = scan-goes (at (p + 1) Colon ∷ []) Nothing (p + 1 + 1 + 1) text

pub assign_at : (p : ℕ) (text : List ℕ) → tokens_from p (32 ∷ 58 ∷ 61 ∷ 32 ∷ text)
    ≡ put (λ tokens. at (p + 1) Assign ∷ tokens) (tokens_from (p + 1 + 1 + 1 + 1) text)
assign_at p text = refl

pub arrow_at : (p : ℕ) (text : List ℕ) → tokens_from p (32 ∷ 45 ∷ 62 ∷ 32 ∷ text)
    ≡ put (λ tokens. at (p + 1) Arrow ∷ tokens) (tokens_from (p + 1 + 1 + 1 + 1) text)
arrow_at p text = refl

pub fat_arrow_at : (p : ℕ) (text : List ℕ) → tokens_from p (32 ∷ 61 ∷ 62 ∷ 32 ∷ text)
    ≡ put (λ tokens. at (p + 1) FatArrow ∷ tokens) (tokens_from (p + 1 + 1 + 1 + 1) text)
fat_arrow_at p text = refl

pub dot_at : (p : ℕ) (text : List ℕ) → tokens_from p (46 ∷ 10 ∷ text) ≡ put (λ tokens. at p Dot ∷ tokens) (tokens_from (p + 1 + 1) text)
dot_at p text = refl

scan-begins : (p b : ℕ) (text : List ℕ) → tokens_from p (b ∷ text) ≡ scan (begins p b) (p + 1) text
scan-begins p b text = refl

-- a byte that ends a word
word_ended : (q : ℕ) (word : List ℕ) (p b : ℕ) (text : List ℕ) → is_word_byte b ≡ false
    → scan (goes [] (InWord q word)) p (b ∷ text) ≡ before (at q (word_token word) ∷ []) (tokens_from p (b ∷ text))
word_ended q word p b text e =
    ap (λ (c : Bool). before [] (scan (if c then goes [] (InWord q (word ++ b ∷ [])) else after (at q (word_token word)) (begins p b)) (p + 1) text)) e
    ∙ after-scan (at q (word_token word)) (begins p b) (p + 1) text

-- and one that goes on with it
word_longer : (q : ℕ) (word : List ℕ) (p b : ℕ) (text : List ℕ) → is_word_byte b ≡ true
    → scan (goes [] (InWord q word)) p (b ∷ text) ≡ scan (goes [] (InWord q (word ++ b ∷ []))) (p + 1) text
word_longer q word p b text e = ap
    (λ (c : Bool). scan (if c then goes [] (InWord q (word ++ b ∷ [])) else after (at q (word_token word)) (begins p b)) (p + 1) text) e

-- the place behind a word and the tokens from there
pub record WordScan (q : ℕ) (word : List ℕ) (p : ℕ) (text rest : List ℕ) : Type 0 where
  pub place : ℕ
  pub is : scan (goes [] (InWord q word)) p (text ++ rest) ≡ before (at q (word_token (word ++ text)) ∷ []) (tokens_from place rest)

word_scan : (q : ℕ) (word : List ℕ) (p : ℕ) (text rest : List ℕ) → list_all is_word_byte text ≡ true → IsStop rest → WordScan q word p text rest
word_scan q word p [] [] e h = absurd h
word_scan q word p [] (b ∷ rest) e h = record
    { place = p; is = word_ended q word p b rest h ∙ ap (λ w. before (at q (word_token w) ∷ []) (tokens_from p (b ∷ rest))) (sym (append-nil word)) }
word_scan q word p (b ∷ text) rest e h =
    let t = and_parts (is_word_byte b) (list_all is_word_byte text) e in
    let r = word_scan q (word ++ b ∷ []) (p + 1) text rest t.1 h in
    record {
      place = r.place;
      is = word_longer q word p b (text ++ rest) t.0 ∙ r.is
          ∙ ap (λ w. before (at q (word_token w) ∷ []) (tokens_from r.place rest)) (append_assoc word (b ∷ []) text);
    }

letter_apart : (b : ℕ) → is_letter b ≡ true → is_space b ≡ false
letter_apart b e = grind (arith, common_steps, e)

letter_begins : (p b : ℕ) → is_letter b ≡ true → begins p b ≡ goes [] (InWord p (b ∷ []))
letter_begins p b e = rw (letter_apart b e, e)

-- a word begins the text
pub record WordAt (p : ℕ) (word rest : List ℕ) : Type 0 where
  pub place : ℕ
  pub is : tokens_from p (word ++ rest) ≡ before (at p (word_token word) ∷ []) (tokens_from place rest)

pub word_at : (p : ℕ) (word rest : List ℕ) → IsWordText word → IsStop rest → WordAt p word rest
word_at p word rest w h =
    let r = word_scan p (w.first ∷ []) (p + 1) w.more rest w.bytes h in
    record {
      place = r.place;
      is = ap (λ v. tokens_from p (v ++ rest)) w.is
          ∙ ap (λ taken. before [] (scan taken (p + 1) (w.more ++ rest))) (letter_begins p w.first w.letter)
          ∙ r.is
          ∙ ap (λ v. before (at p (word_token v) ∷ []) (tokens_from r.place rest)) (sym w.is);
    }

-- a `(` that begins no comment
pub paren_at : (p : ℕ) (text : List ℕ) → IsOpener text → tokens_from p (40 ∷ text) ≡ before (at p LeftParen ∷ []) (tokens_from (p + 1) text)
paren_at p text o =
    ap (λ v. tokens_from p (40 ∷ v)) o.is
    ∙ ap (λ (c : Bool). scan (if c then goes [] (InComment p) else after (at p LeftParen) (begins (p + 1) o.first)) (p + 1 + 1) o.more) o.other
    ∙ after-scan (at p LeftParen) (begins (p + 1) o.first) (p + 1 + 1) o.more
    ∙ ap (λ v. before (at p LeftParen ∷ []) (tokens_from (p + 1) v)) (sym o.is)

-- bytes of a comment, of which none is a `;`
comment_byte : (q p b : ℕ) (text : List ℕ) → (b == 59) ≡ false → scan (goes [] (InComment q)) p (b ∷ text) ≡ scan (goes [] (InComment q)) (p + 1) text
comment_byte q p b text e = ap (λ (c : Bool). scan (goes [] (if c then AfterSemicolon q else InComment q)) (p + 1) text) e

-- a digit
abbrev pub is_digit_byte : ℕ → Bool
is_digit_byte b = not (b == 59) && is_word_byte b

record CommentScan (q p : ℕ) (text rest : List ℕ) : Type 0 where
  place : ℕ
  is : scan (goes [] (InComment q)) p (text ++ rest) ≡ scan (goes [] (InComment q)) place rest

comment_scan : (q p : ℕ) (text rest : List ℕ) → list_all is_digit_byte text ≡ true → CommentScan q p text rest
comment_scan q p [] rest e = record { place = p; is = refl }
comment_scan q p (b ∷ text) rest e =
    let t = and_parts (is_digit_byte b) (list_all is_digit_byte text) e in
    let u = and_parts (not (b == 59)) (is_word_byte b) t.0 in
    let r = comment_scan q (p + 1) text rest t.1 in
    record { place = r.place; is = comment_byte q p b (text ++ rest) (not-true (b == 59) u.0) ∙ r.is }

glyph_byte : (d : ℕ) → d < 10 → is_digit_byte (digit_glyph false d) ≡ true
glyph_byte d h = grind (arith, common_steps)

digits_step : (last : Bool) (x : ℕ) (acc more : List ℕ) → is_digit_byte x ≡ true → list_all is_digit_byte acc ≡ true → list_all is_digit_byte more ≡ true
    → list_all is_digit_byte (if last then x ∷ acc else more) ≡ true
digits_step true x acc more e f g = and_from (is_digit_byte x) (list_all is_digit_byte acc) e f
digits_step false x acc more e f g = g

digits_bytes : (k n : ℕ) (acc : List ℕ) → list_all is_digit_byte acc ≡ true → list_all is_digit_byte (digits_onto k 10 false n acc) ≡ true
digits_bytes zero n acc h = h
digits_bytes (suc k) n acc h =
    let glyph = digit_glyph false (n % 10) in
    let small : n % 10 < 10 = omega arith in
    let here = glyph_byte (n % 10) small in
    digits_step (n / 10 == 0) glyph acc (digits_onto k 10 false (n / 10) (glyph ∷ acc)) here h
    (digits_bytes k (n / 10) (glyph ∷ acc) (and_from (is_digit_byte glyph) (list_all is_digit_byte acc) here h))

-- the digits of a number are word bytes, and no `;`
pub decimal-bytes : (n : ℕ) → list_all is_digit_byte (decimal n) ≡ true
unfolding digits
decimal-bytes n = digits_bytes 64 n [] refl

word_bytes : (text : List ℕ) → list_all is_digit_byte text ≡ true → list_all is_word_byte text ≡ true
word_bytes [] e = refl
word_bytes (b ∷ text) e =
    let t = and_parts (is_digit_byte b) (list_all is_digit_byte text) e in
    and_from (is_word_byte b) (list_all is_word_byte text) (and_parts (not (b == 59)) (is_word_byte b) t.0).1 (word_bytes text t.1)

-- the name of a binder is an identifier
pub binder_name-IsWordText : (d : ℕ) → IsWordText (binder_name d)
binder_name-IsWordText d = record { first = 118; more = decimal d; is = refl; letter = refl; bytes = word_bytes (decimal d) (decimal-bytes d) }

-- a comment that names a bound, before a rest
pub record BoundScan (p : ℕ) (number rest : List ℕ) : Type 0 where
  pub place : ℕ
  pub is : tokens_from p (codes "(; bound " ++ (number ++ (codes " ;)\n" ++ rest))) ≡ tokens_from place rest

before-nil : (s : Scanned) → before [] s ≡ s
before-nil s = refl

pub bound_scan : (p : ℕ) (number rest : List ℕ) → list_all is_digit_byte number ≡ true → BoundScan p number rest
bound_scan p number rest e =
    let start = p + 1 + 1 + 1 + 1 + 1 + 1 + 1 + 1 + 1 in
    let r = comment_scan p start number (codes " ;)\n" ++ rest) e in
    record {
      place = r.place + 1 + 1 + 1 + 1;
      is =
          before-nil (scan (goes [] (InComment p)) start (number ++ (codes " ;)\n" ++ rest))) ∙ r.is ∙ before-nil (tokens_from (r.place + 1 + 1 + 1 + 1) rest);
    }
