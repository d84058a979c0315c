-- The tokens of a text stand at ascending places before its end.
use Rattle.std.proofs.Common.{ℕ, ◌+◌, ◌<◌, ◌≤◌, Bool, true, false, List, [], ◌∷◌, ◌++◌, length, arith}
use Rattle.std.specs.Prelude.{if◌then◌else◌, ◌==◌}
use Rattle.lp_spec.specs.Tokens.{Token, Colon, LeftParen, Placed, at, End, ended, stuck, is_letter, is_word_byte, is_space, word_token, Pending, Nothing, InWord, AfterColon, AfterMinus, AfterEquals, AfterParen, InComment, AfterSemicolon, Taken, goes, sticks, begins, after, take_byte, last_tokens, end_at, scan, tokens_from}
use Rattle.dk_laws.specs.FaultReach.{AreAfter, AreAscending}
use Rattle.dk_laws.specs.FaultLeast.{place_of}

-- what is pending began after n, and before p
abbrev IsPendingAfter : ℕ → Pending → Type 0
IsPendingAfter n Nothing = Unit {0}
IsPendingAfter n (InWord q bytes) = n < q
IsPendingAfter n (AfterColon q) = n < q
IsPendingAfter n (AfterMinus q) = n < q
IsPendingAfter n (AfterEquals q) = n < q
IsPendingAfter n (AfterParen q) = n < q
IsPendingAfter n (InComment q) = n < q
IsPendingAfter n (AfterSemicolon q) = n < q

abbrev IsPendingBefore : ℕ → Pending → Type 0
IsPendingBefore p Nothing = Unit {0}
IsPendingBefore p (InWord q bytes) = q < p
IsPendingBefore p (AfterColon q) = q < p
IsPendingBefore p (AfterMinus q) = q < p
IsPendingBefore p (AfterEquals q) = q < p
IsPendingBefore p (AfterParen q) = q < p
IsPendingBefore p (InComment q) = q < p
IsPendingBefore p (AfterSemicolon q) = q < p

-- tokens are after n
abbrev TokensAfter : ℕ → List Placed → Type 0
TokensAfter n [] = Unit {0}
TokensAfter n (at q token ∷ tokens) = (n < q) × TokensAfter n tokens

-- and what a byte did is
abbrev IsTakenAfter : ℕ → Taken → Type 0
IsTakenAfter n (goes tokens pending) = TokensAfter n tokens × IsPendingAfter n pending
IsTakenAfter n (sticks tokens q) = TokensAfter n tokens × (n < q)

-- tokens are ascending, before p and before what is pending, or before q
abbrev AreBeforePending : ℕ → Pending → List Placed → Type 0
AreBeforePending p pending [] = Unit {0}
AreBeforePending p pending (at q token ∷ tokens) = TokensAfter q tokens × IsPendingAfter q pending × (q < p) × AreBeforePending p pending tokens

abbrev AreBefore : ℕ → List Placed → Type 0
AreBefore p [] = Unit {0}
AreBefore p (at q token ∷ tokens) = TokensAfter q tokens × (q < p) × AreBefore p tokens

-- what the byte before place p did is in order
abbrev IsTakenIn : ℕ → Taken → Type 0
IsTakenIn p (goes tokens pending) = IsPendingBefore p pending × AreBeforePending p pending tokens
IsTakenIn p (sticks tokens q) = AreBefore q tokens

-- what holds of both outcomes of a test holds of the one that it picks
if-holds : (P : Taken → Type 0) (b : Bool) {s t : Taken} → P s → P t → P (if b then s else t)
if-holds P true h k = h
if-holds P false h k = k

begins_after : (n p b : ℕ) → n < p → IsTakenAfter n (begins p b)
begins_after n p b h =
    if-holds (IsTakenAfter n) (is_space b) (tt, tt)
    (if-holds (IsTakenAfter n) (is_letter b) (tt, h)
    (if-holds (IsTakenAfter n) (b == 58) (tt, h)
    (if-holds (IsTakenAfter n) (b == 45) (tt, h)
    (if-holds (IsTakenAfter n) (b == 61) (tt, h)
    (if-holds (IsTakenAfter n) (b == 40) (tt, h)
    (if-holds (IsTakenAfter n) (b == 46) ((h, tt), tt)
    (if-holds (IsTakenAfter n) (b == 41) ((h, tt), tt) (tt, h))))))))

begins_in : (p b : ℕ) → IsTakenIn (p + 1) (begins p b)
begins_in p b =
    let h : p < p + 1 = omega arith in
    if-holds (IsTakenIn (p + 1)) (is_space b) (tt, tt)
    (if-holds (IsTakenIn (p + 1)) (is_letter b) (h, tt)
    (if-holds (IsTakenIn (p + 1)) (b == 58) (h, tt)
    (if-holds (IsTakenIn (p + 1)) (b == 45) (h, tt)
    (if-holds (IsTakenIn (p + 1)) (b == 61) (h, tt)
    (if-holds (IsTakenIn (p + 1)) (b == 40) (h, tt)
    (if-holds (IsTakenIn (p + 1)) (b == 46) (tt, (tt, tt, h, tt))
    (if-holds (IsTakenIn (p + 1)) (b == 41) (tt, (tt, tt, h, tt)) tt)))))))

after_after : (n q : ℕ) (token : Token) (taken : Taken) → n < q → IsTakenAfter n taken → IsTakenAfter n (after (at q token) taken)
after_after n q token (goes tokens pending) h k = ((h, k.0), k.1)
after_after n q token (sticks tokens p) h k = ((h, k.0), k.1)

after_in : (p q : ℕ) (token : Token) (taken : Taken) → q < p → IsTakenAfter q taken → IsTakenIn p taken → IsTakenIn p (after (at q token) taken)
after_in p q token (goes tokens pending) h k i = (i.0, (k.0, k.1, h, i.1))
after_in p q token (sticks tokens r) h k i = (k.0, k.1, i)

-- a token and what the byte behind it begins
behind_after : (n q p b : ℕ) (token : Token) → n < q → n < p → IsTakenAfter n (after (at q token) (begins p b))
behind_after n q p b token h k = after_after n q token (begins p b) h (begins_after n p b k)

behind_in : (q p b : ℕ) (token : Token) → q < p → IsTakenIn (p + 1) (after (at q token) (begins p b))
behind_in q p b token h = after_in (p + 1) q token (begins p b) (omega (arith, h)) (begins_after q p b h) (begins_in p b)

comment_after : (n q : ℕ) (b : Bool) → n < q → IsPendingAfter n (if b then AfterSemicolon q else InComment q)
comment_after n q true h = h
comment_after n q false h = h

closing_after : (n q : ℕ) (b c : Bool) → n < q → IsPendingAfter n (if b then Nothing else if c then AfterSemicolon q else InComment q)
closing_after n q true c h = tt
closing_after n q false true h = h
closing_after n q false false h = h

comment_before : (p q : ℕ) (b : Bool) → q < p → IsPendingBefore p (if b then AfterSemicolon q else InComment q)
comment_before p q true h = h
comment_before p q false h = h

closing_before : (p q : ℕ) (b c : Bool) → q < p → IsPendingBefore p (if b then Nothing else if c then AfterSemicolon q else InComment q)
closing_before p q true c h = tt
closing_before p q false true h = h
closing_before p q false false h = h

take_byte-after : (n p b : ℕ) (pending : Pending) → n < p → IsPendingAfter n pending → IsTakenAfter n (take_byte pending p b)
take_byte-after n p b Nothing k h = begins_after n p b k
take_byte-after n p b (InWord q bytes) k h = if-holds (IsTakenAfter n) (is_word_byte b) (tt, h) (behind_after n q p b (word_token bytes) h k)
take_byte-after n p b (AfterColon q) k h = if-holds (IsTakenAfter n) (b == 61) ((h, tt), tt) (behind_after n q p b Colon h k)
take_byte-after n p b (AfterMinus q) k h = if-holds (IsTakenAfter n) (b == 62) ((h, tt), tt) (tt, h)
take_byte-after n p b (AfterEquals q) k h = if-holds (IsTakenAfter n) (b == 62) ((h, tt), tt) (tt, h)
take_byte-after n p b (AfterParen q) k h = if-holds (IsTakenAfter n) (b == 59) (tt, h) (behind_after n q p b LeftParen h k)
take_byte-after n p b (InComment q) k h = (tt, comment_after n q (b == 59) h)
take_byte-after n p b (AfterSemicolon q) k h = (tt, closing_after n q (b == 41) (b == 59) h)

take_byte-in : (p b : ℕ) (pending : Pending) → IsPendingBefore p pending → IsTakenIn (p + 1) (take_byte pending p b)
take_byte-in p b Nothing h = begins_in p b
take_byte-in p b (InWord q bytes) h = if-holds (IsTakenIn (p + 1)) (is_word_byte b) (omega (arith, h), tt) (behind_in q p b (word_token bytes) h)
take_byte-in p b (AfterColon q) h = if-holds (IsTakenIn (p + 1)) (b == 61) (tt, (tt, tt, omega (arith, h), tt)) (behind_in q p b Colon h)
take_byte-in p b (AfterMinus q) h = if-holds (IsTakenIn (p + 1)) (b == 62) (tt, (tt, tt, omega (arith, h), tt)) tt
take_byte-in p b (AfterEquals q) h = if-holds (IsTakenIn (p + 1)) (b == 62) (tt, (tt, tt, omega (arith, h), tt)) tt
take_byte-in p b (AfterParen q) h = if-holds (IsTakenIn (p + 1)) (b == 59) (omega (arith, h), tt) (behind_in q p b LeftParen h)
take_byte-in p b (InComment q) h = (comment_before (p + 1) q (b == 59) (omega (arith, h)), tt)
take_byte-in p b (AfterSemicolon q) h = (closing_before (p + 1) q (b == 41) (b == 59) (omega (arith, h)), tt)

-- tokens before others
append_after : (e n : ℕ) (tokens rest : List Placed) → TokensAfter n tokens → AreAfter e n rest → AreAfter e n (tokens ++ rest)
append_after e n [] rest h k = k
append_after e n (at q token ∷ tokens) rest h k = (h.0, append_after e n tokens rest h.1 k)

none_after : (e n : ℕ) (tokens : List Placed) → TokensAfter n tokens → n < e → AreAfter e n tokens
none_after e n [] h k = k
none_after e n (at q token ∷ tokens) h k = (h.0, none_after e n tokens h.1 k)

last_after : (n p : ℕ) (pending : Pending) → n < p → IsPendingAfter n pending → AreAfter (place_of (end_at pending p)) n (last_tokens pending)
last_after n p Nothing k h = k
last_after n p (InWord q bytes) k h = (h, k)
last_after n p (AfterColon q) k h = (h, k)
last_after n p (AfterMinus q) k h = h
last_after n p (AfterEquals q) k h = h
last_after n p (AfterParen q) k h = (h, k)
last_after n p (InComment q) k h = h
last_after n p (AfterSemicolon q) k h = h

last_ascending : (p : ℕ) (pending : Pending) → IsPendingBefore p pending → AreAscending (place_of (end_at pending p)) (last_tokens pending)
last_ascending p Nothing h = tt
last_ascending p (InWord q bytes) h = (h, tt)
last_ascending p (AfterColon q) h = (h, tt)
last_ascending p (AfterMinus q) h = tt
last_ascending p (AfterEquals q) h = tt
last_ascending p (AfterParen q) h = (h, tt)
last_ascending p (InComment q) h = tt
last_ascending p (AfterSemicolon q) h = tt

scan_after : (n : ℕ) (taken : Taken) (p : ℕ) (bytes : List ℕ) → n < p → IsTakenAfter n taken
    → AreAfter (place_of (scan taken p bytes).end) n (scan taken p bytes).tokens
scan_after n (sticks tokens q) p bytes k h = none_after q n tokens h.0 h.1
scan_after n (goes tokens pending) p [] k h = append_after (place_of (end_at pending p)) n tokens (last_tokens pending) h.0 (last_after n p pending k h.1)
scan_after n (goes tokens pending) p (b ∷ bytes) k h =
    append_after (place_of (scan (take_byte pending p b) (p + 1) bytes).end) n tokens (scan (take_byte pending p b) (p + 1) bytes).tokens h.0
    (scan_after n (take_byte pending p b) (p + 1) bytes (omega (arith, k)) (take_byte-after n p b pending k h.1))

-- ascending tokens, of which each is before what comes then
append_ascending : (e p : ℕ) (pending : Pending) (tokens rest : List Placed) → AreBeforePending p pending tokens
    → ((q : ℕ) → q < p → IsPendingAfter q pending → AreAfter e q rest) → AreAscending e rest → AreAscending e (tokens ++ rest)
append_ascending e p pending [] rest h f a = a
append_ascending e p pending (at q token ∷ tokens) rest h f a =
    (append_after e q tokens rest h.0 (f q h.2 h.1), append_ascending e p pending tokens rest h.3 f a)

before_ascending : (p : ℕ) (tokens : List Placed) → AreBefore p tokens → AreAscending p tokens
before_ascending p [] h = tt
before_ascending p (at q token ∷ tokens) h = (none_after p q tokens h.0 h.1, before_ascending p tokens h.2)

scan_ascending : (taken : Taken) (p : ℕ) (bytes : List ℕ) → IsTakenIn p taken → AreAscending (place_of (scan taken p bytes).end) (scan taken p bytes).tokens
scan_ascending (sticks tokens q) p bytes h = before_ascending q tokens h
scan_ascending (goes tokens pending) p [] h =
    append_ascending (place_of (end_at pending p)) p pending tokens (last_tokens pending) h.1 (λ q. last_after q p pending) (last_ascending p pending h.0)
scan_ascending (goes tokens pending) p (b ∷ bytes) h =
    append_ascending (place_of (scan (take_byte pending p b) (p + 1) bytes).end) p pending tokens (scan (take_byte pending p b) (p + 1) bytes).tokens h.1
    (λ q k i. scan_after q (take_byte pending p b) (p + 1) bytes (omega (arith, k)) (take_byte-after q p b pending k i))
    (scan_ascending (take_byte pending p b) (p + 1) bytes (take_byte-in p b pending h.0))

pub tokens-ascending : (p : ℕ) (bytes : List ℕ) → AreAscending (place_of (tokens_from p bytes).end) (tokens_from p bytes).tokens
tokens-ascending p bytes = scan_ascending (goes [] Nothing) p bytes (tt, tt)

-- what a byte did is stuck at no later place than before p
abbrev IsStuckBefore : ℕ → Taken → Type 0
IsStuckBefore p (goes tokens pending) = IsPendingBefore p pending
IsStuckBefore p (sticks tokens q) = q < p

begins_stuck : (p b : ℕ) → IsStuckBefore (p + 1) (begins p b)
begins_stuck p b =
    let h : p < p + 1 = omega arith in
    if-holds (IsStuckBefore (p + 1)) (is_space b) tt
    (if-holds (IsStuckBefore (p + 1)) (is_letter b) h
    (if-holds (IsStuckBefore (p + 1)) (b == 58) h
    (if-holds (IsStuckBefore (p + 1)) (b == 45) h
    (if-holds (IsStuckBefore (p + 1)) (b == 61) h
    (if-holds (IsStuckBefore (p + 1)) (b == 40) h
    (if-holds (IsStuckBefore (p + 1)) (b == 46) tt
    (if-holds (IsStuckBefore (p + 1)) (b == 41) tt h)))))))

after_stuck : (p q : ℕ) (token : Token) (taken : Taken) → IsStuckBefore p taken → IsStuckBefore p (after (at q token) taken)
after_stuck p q token (goes tokens pending) h = h
after_stuck p q token (sticks tokens r) h = h

take_byte-stuck : (p b : ℕ) (pending : Pending) → IsPendingBefore p pending → IsStuckBefore (p + 1) (take_byte pending p b)
take_byte-stuck p b Nothing h = begins_stuck p b
take_byte-stuck p b (InWord q bytes) h = if-holds (IsStuckBefore (p + 1)) (is_word_byte b) (omega (arith, h))
    (after_stuck (p + 1) q (word_token bytes) (begins p b) (begins_stuck p b))
take_byte-stuck p b (AfterColon q) h = if-holds (IsStuckBefore (p + 1)) (b == 61) tt (after_stuck (p + 1) q Colon (begins p b) (begins_stuck p b))
take_byte-stuck p b (AfterMinus q) h = if-holds (IsStuckBefore (p + 1)) (b == 62) tt (omega (arith, h))
take_byte-stuck p b (AfterEquals q) h = if-holds (IsStuckBefore (p + 1)) (b == 62) tt (omega (arith, h))
take_byte-stuck p b (AfterParen q) h = if-holds (IsStuckBefore (p + 1)) (b == 59) (omega (arith, h))
    (after_stuck (p + 1) q LeftParen (begins p b) (begins_stuck p b))
take_byte-stuck p b (InComment q) h = comment_before (p + 1) q (b == 59) (omega (arith, h))
take_byte-stuck p b (AfterSemicolon q) h = closing_before (p + 1) q (b == 41) (b == 59) (omega (arith, h))

-- a text ends, or is stuck, before n
abbrev pub IsEndBefore : ℕ → End → Type 0
IsEndBefore n (ended p) = p ≤ n
IsEndBefore n (stuck p) = p < n

last_end : (p n : ℕ) (pending : Pending) → p ≤ n → IsPendingBefore p pending → IsEndBefore n (end_at pending p)
last_end p n Nothing k h = k
last_end p n (InWord q bytes) k h = k
last_end p n (AfterColon q) k h = k
last_end p n (AfterMinus q) k h = omega (arith, h, k)
last_end p n (AfterEquals q) k h = omega (arith, h, k)
last_end p n (AfterParen q) k h = k
last_end p n (InComment q) k h = omega (arith, h, k)
last_end p n (AfterSemicolon q) k h = omega (arith, h, k)

scan_end : (taken : Taken) (p n : ℕ) (bytes : List ℕ) → p + length bytes ≤ n → IsStuckBefore p taken → IsEndBefore n (scan taken p bytes).end
scan_end (sticks tokens q) p n bytes k h = omega (arith, h, k)
scan_end (goes tokens pending) p n [] k h = last_end p n pending (omega (arith, k)) h
scan_end (goes tokens pending) p n (b ∷ bytes) k h = scan_end (take_byte pending p b) (p + 1) n bytes (omega (arith, k)) (take_byte-stuck p b pending h)

pub tokens-end : (p : ℕ) (bytes : List ℕ) → IsEndBefore (p + length bytes) (tokens_from p bytes).end
tokens-end p bytes = scan_end (goes [] Nothing) p (p + length bytes) bytes (omega arith) tt
