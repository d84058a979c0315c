-- The tokens of a text in Dedukti's syntax: identifiers, key words and signs, the longest first, with blanks and comments between them.
-- Source: the Dedukti user manual, "Syntax"; the identifiers are the plain ones.
use Rattle.std.specs.Prelude.{ℕ, ◌+◌, ◌==◌, ◌&&◌, ◌||◌, nat_le, Bool, if◌then◌else◌, List, [], ◌∷◌, ◌++◌, codes}
use Rattle.std.specs.Str.{bytes_eq}

-- an identifier with its bytes; `Type`, `def` and `thm`; `:`, `:=`, `->`, `=>`, `.`, `(` and `)`
pub data Token : Type 0 where
  Name : List ℕ → Token
  TypeWord : Token
  DefWord : Token
  ThmWord : Token
  Colon : Token
  Assign : Token
  Arrow : Token
  FatArrow : Token
  Dot : Token
  LeftParen : Token
  RightParen : Token

-- a token at the place of its first byte, from 0
pub data Placed : Type 0 where
  at : ℕ → Token → Placed

-- a text of tokens ends at this place, or at this place stands a byte that begins no token or a comment that has no end
pub data End : Type 0 where
  ended : ℕ → End
  stuck : ℕ → End

-- an ASCII letter
abbrev pub is_letter : ℕ → Bool
is_letter b = (nat_le 65 b && nat_le b 90) || (nat_le 97 b && nat_le b 122)

-- a letter, a digit or `_`, with which an identifier goes on
abbrev pub is_word_byte : ℕ → Bool
is_word_byte b = is_letter b || ((nat_le 48 b && nat_le b 57) || b == 95)

-- a blank, a tab, a line feed or a carriage return
abbrev pub is_space : ℕ → Bool
is_space b = (b == 32) || ((b == 9) || ((b == 10) || b == 13))

-- the token that a letter and the word bytes after it are
abbrev pub word_token : List ℕ → Token
word_token bytes =
    if bytes_eq bytes (codes "Type") then TypeWord
    else if bytes_eq bytes (codes "def") then DefWord
    else if bytes_eq bytes (codes "thm") then ThmWord
    else Name bytes

-- what the next byte may go on with, with the place at which it began: nothing, a word with its bytes so far, a `:`, a `-`, a `=` or a `(`,
-- a comment, or a comment after its byte `;`
pub data Pending : Type 0 where
  Nothing : Pending
  InWord : ℕ → List ℕ → Pending
  AfterColon : ℕ → Pending
  AfterMinus : ℕ → Pending
  AfterEquals : ℕ → Pending
  AfterParen : ℕ → Pending
  InComment : ℕ → Pending
  AfterSemicolon : ℕ → Pending

-- a byte ends these tokens and leaves this pending, or it shows that the text is stuck at this place after these tokens
pub data Taken : Type 0 where
  goes : List Placed → Pending → Taken
  sticks : List Placed → ℕ → Taken

-- the byte at place p where nothing is pending
abbrev pub begins : ℕ → ℕ → Taken
begins p b =
    if is_space b then goes [] Nothing
    else if is_letter b then goes [] (InWord p (b ∷ []))
    else if b == 58 then goes [] (AfterColon p)
    else if b == 45 then goes [] (AfterMinus p)
    else if b == 61 then goes [] (AfterEquals p)
    else if b == 40 then goes [] (AfterParen p)
    else if b == 46 then goes (at p Dot ∷ []) Nothing
    else if b == 41 then goes (at p RightParen ∷ []) Nothing
    else sticks [] p

-- the token that is ended, and what the byte behind it begins
abbrev pub after : Placed → Taken → Taken
after token (goes tokens pending) = goes (token ∷ tokens) pending
after token (sticks tokens p) = sticks (token ∷ tokens) p

-- the byte b at place p: `:=`, `->`, `=>` and words are as long as can be, `(;` begins a comment, and the next `;)` after these two bytes ends it
abbrev pub take_byte : Pending → ℕ → ℕ → Taken
take_byte Nothing p b = begins p b
take_byte (InWord q bytes) p b = if is_word_byte b then goes [] (InWord q (bytes ++ b ∷ [])) else after (at q (word_token bytes)) (begins p b)
take_byte (AfterColon q) p b = if b == 61 then goes (at q Assign ∷ []) Nothing else after (at q Colon) (begins p b)
take_byte (AfterMinus q) p b = if b == 62 then goes (at q Arrow ∷ []) Nothing else sticks [] q
take_byte (AfterEquals q) p b = if b == 62 then goes (at q FatArrow ∷ []) Nothing else sticks [] q
take_byte (AfterParen q) p b = if b == 59 then goes [] (InComment q) else after (at q LeftParen) (begins p b)
take_byte (InComment q) p b = goes [] (if b == 59 then AfterSemicolon q else InComment q)
take_byte (AfterSemicolon q) p b = goes [] (if b == 41 then Nothing else if b == 59 then AfterSemicolon q else InComment q)

-- the tokens that the end of the text ends
abbrev pub last_tokens : Pending → List Placed
last_tokens (InWord q bytes) = at q (word_token bytes) ∷ []
last_tokens (AfterColon q) = at q Colon ∷ []
last_tokens (AfterParen q) = at q LeftParen ∷ []
last_tokens _ = []

-- how a text ends at place p
abbrev pub end_at : Pending → ℕ → End
end_at (AfterMinus q) p = stuck q
end_at (AfterEquals q) p = stuck q
end_at (InComment q) p = stuck q
end_at (AfterSemicolon q) p = stuck q
end_at _ p = ended p

-- the tokens of a text and how it ends
pub record Scanned : Type 0 where
  pub tokens : List Placed
  pub end : End

-- tokens that come first
abbrev pub before : List Placed → Scanned → Scanned
before tokens rest = record { tokens = tokens ++ rest.tokens; end = rest.end }

-- the tokens of a text from place p on, after what the byte before it did
abbrev pub scan : Taken → ℕ → List ℕ → Scanned
scan (sticks tokens q) p bytes = record { tokens = tokens; end = stuck q }
scan (goes tokens pending) p [] = record { tokens = tokens ++ last_tokens pending; end = end_at pending p }
scan (goes tokens pending) p (b ∷ bytes) = before tokens (scan (take_byte pending p b) (p + 1) bytes)

-- the tokens of the text that begins at place p
abbrev pub tokens_from : ℕ → List ℕ → Scanned
tokens_from p bytes = scan (goes [] Nothing) p bytes
