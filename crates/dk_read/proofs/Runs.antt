-- Bytes that are taken several at a time.
use Rattle.std.proofs.Common.{◌≡◌, ℕ, suc, ◌+◌, ◌<◌, ◌≤◌, ◌==◌, refl, sym, ap, subst, ◌∙◌, Bool, true, false, List, [], ◌∷◌, ◌++◌, length, get_or, take, drop, append_assoc, Err, arith}
use Rattle.std.specs.Prelude.{if◌then◌else◌, not}
use Rattle.std.proofs.lemmas.List.{append-nil}
use Rattle.std.proofs.lemmas.Grind.{common_steps}
use Rattle.lp_spec.specs.Modules.{Declaration}
use Rattle.lp_spec.specs.Tokens as tokens
use Rattle.lp_spec.specs.ReadingFaults as reading
use Rattle.dk_laws.specs.ReadingLaws.{read_bytes-Refused}
use Rattle.dk_read.specs.declared.faults.Stop.{Stop}
use Rattle.dk_read.specs.declared.text.Pending.{Pending}
use Rattle.dk_read.specs.declared.text.Pending.TheVariants as pending
use Rattle.dk_read.specs.declared.text.Text.{Text}
use Rattle.dk_read.specs.Names.{Named}
use Rattle.dk_read.specs.States.{before, state_of, refused_by, OnRefusal}
use Rattle.dk_read.proofs.Bytes.{after_then, after_stops, takes_as, OnRefusal-map}
use Rattle.dk_read.specs.Texts.{run, inside, pending_in, Takes, TakesSome}

-- a run is no longer than the bytes
pub run_within : (test : ℕ → Bool) (bytes : List ℕ) → run test bytes ≤ length bytes
run_within test [] = omega arith
run_within test (b ∷ bytes) = by (test b) (run_within test bytes)
  where
    by : (t : Bool) → run test bytes ≤ length bytes → (if t then suc (run test bytes) else 0) ≤ length (b ∷ bytes)
    by true h = omega (arith, h)
    by false h = omega arith

-- a run whose first byte is of it has one
pub run_some : (test : ℕ → Bool) (bytes : List ℕ) → 1 ≤ length bytes → test (get_or bytes 0 0) ≡ true → 1 ≤ run test bytes
run_some test [] some h = absurd (omega arith)
run_some test (b ∷ bytes) some h = subst (λ (t : Bool). 1 ≤ (if t then suc (run test bytes) else 0)) (sym h) (omega arith)

-- behind a run that ends before the bytes do stands a byte that is not of it
pub record Stops (test : ℕ → Bool) (bytes : List ℕ) (n : ℕ) : Type 0 where
  pub byte : ℕ
  pub more : List ℕ
  pub is : drop n bytes ≡ byte ∷ more
  pub fails : test byte ≡ false

pub run_stops : (test : ℕ → Bool) (bytes : List ℕ) → run test bytes < length bytes → Stops test bytes (run test bytes)
run_stops test [] h = absurd (omega arith)
run_stops test (b ∷ bytes) h = by (test b) refl h (run_stops test bytes)
  where
    by : (t : Bool) → test b ≡ t → (if t then suc (run test bytes) else 0) < length (b ∷ bytes)
        → (run test bytes < length bytes → Stops test bytes (run test bytes)) → Stops test (b ∷ bytes) (if t then suc (run test bytes) else 0)
    by true e h k = let r = k (omega (arith, h)) in record { byte = r.byte; more = r.more; is = r.is; fails = r.fails }
    by false e h k = record { byte = b; more = bytes; is = refl; fails = e }

module _ (test : ℕ → Bool) (pending : tokens.Pending) (m : List Declaration) (s : reading.State)
    (goes : (p b : ℕ) → test b ≡ true → reading.read_byte (reading.Inside p pending m s) b ≡ reading.Inside (p + 1) pending m s) where
  -- a run that leaves everything as it is
  pub skip : (p : ℕ) (bytes : List ℕ) → reading.read_bytes (reading.Inside p pending m s) bytes
      ≡ reading.read_bytes (reading.Inside (p + run test bytes) pending m s) (drop (run test bytes) bytes)
  skip p [] = ap (λ q. reading.Inside q pending m s) (omega arith)
  skip p (b ∷ bytes) = by (test b) refl (skip (p + 1) bytes)
    where
      by : (t : Bool) → test b ≡ t → reading.read_bytes (reading.Inside (p + 1) pending m s) bytes
          ≡ reading.read_bytes (reading.Inside (p + 1 + run test bytes) pending m s) (drop (run test bytes) bytes)
          → reading.read_bytes (reading.Inside p pending m s) (b ∷ bytes)
          ≡ reading.read_bytes (reading.Inside (p + (if t then suc (run test bytes) else 0)) pending m s)
          (drop (if t then suc (run test bytes) else 0) (b ∷ bytes))
      by true e h = ap (λ d. reading.read_bytes d bytes) (goes p b e) ∙ h
          ∙ ap (λ q. reading.read_bytes (reading.Inside q pending m s) (drop (run test bytes) bytes)) (omega arith)
      by false e h = ap (λ q. reading.read_bytes (reading.Inside q pending m s) (b ∷ bytes)) (omega arith)

pub blank_goes : (m : List Declaration) (s : reading.State) (p b : ℕ) → tokens.is_space b ≡ true → reading.read_byte (reading.Inside p tokens.Nothing m s) b
    ≡ reading.Inside (p + 1) tokens.Nothing m s
blank_goes m s p b e =
    ap (λ (c : Bool). reading.after_byte (p + 1) m s
    (if c then tokens.goes [] tokens.Nothing else if tokens.is_letter b then tokens.goes [] (tokens.InWord p (b ∷ [])) else if b == 58 then tokens.goes []
    (tokens.AfterColon p) else if b == 45 then tokens.goes [] (tokens.AfterMinus p) else if b == 61 then tokens.goes [] (tokens.AfterEquals p) else if b
    == 40 then tokens.goes [] (tokens.AfterParen p) else if b == 46 then tokens.goes (tokens.at p tokens.Dot ∷ []) tokens.Nothing else if b == 41 then
    tokens.goes (tokens.at p tokens.RightParen ∷ []) tokens.Nothing else tokens.sticks [] p)) e

is_not : (c : Bool) → not c ≡ true → c ≡ false
is_not true e = absurd (cc)
is_not false e = refl

pub comment_goes : (q : ℕ) (m : List Declaration) (s : reading.State) (p b : ℕ) → not (b == 59) ≡ true
    → reading.read_byte (reading.Inside p (tokens.InComment q) m s) b ≡ reading.Inside (p + 1) (tokens.InComment q) m s
comment_goes q m s p b e = ap (λ (c : Bool). reading.Inside (p + 1) (if c then tokens.AfterSemicolon q else tokens.InComment q) m s) (is_not (b == 59) e)

plus_none : (p : ℕ) → p ≡ p + 0
plus_none p = omega arith

-- a byte in a word, behind one, and at its head
word_goes : (q : ℕ) (w : List ℕ) (m : List Declaration) (s : reading.State) (p b : ℕ) → tokens.is_word_byte b ≡ true
    → reading.read_byte (reading.Inside p (tokens.InWord q w) m s) b ≡ reading.Inside (p + 1) (tokens.InWord q (w ++ b ∷ [])) m s
word_goes q w m s p b e = ap
    (λ (c : Bool). reading.after_byte (p + 1) m s
    (if c then tokens.goes [] (tokens.InWord q (w ++ b ∷ [])) else tokens.after (tokens.at q (tokens.word_token w)) (tokens.begins p b))) e

word_ends : (q : ℕ) (w : List ℕ) (m : List Declaration) (s : reading.State) (p b : ℕ) → tokens.is_word_byte b ≡ false
    → reading.read_byte (reading.Inside p (tokens.InWord q w) m s) b
    ≡ reading.after_byte (p + 1) m s (tokens.after (tokens.at q (tokens.word_token w)) (tokens.begins p b))
word_ends q w m s p b e = ap
    (λ (c : Bool). reading.after_byte (p + 1) m s
    (if c then tokens.goes [] (tokens.InWord q (w ++ b ∷ [])) else tokens.after (tokens.at q (tokens.word_token w)) (tokens.begins p b))) e

letter_no_space : (b : ℕ) → tokens.is_letter b ≡ true → tokens.is_space b ≡ false
letter_no_space b e = grind (arith, common_steps, e)

letter_word : (b : ℕ) → tokens.is_letter b ≡ true → tokens.is_word_byte b ≡ true
letter_word b e = grind (arith, common_steps, e)

letter_goes : (m : List Declaration) (s : reading.State) (p b : ℕ) → tokens.is_letter b ≡ true → reading.read_byte (reading.Inside p tokens.Nothing m s) b
    ≡ reading.Inside (p + 1) (tokens.InWord p (b ∷ [])) m s
letter_goes m s p b e = grind (arith, common_steps, e, letter_no_space b e)

module _ (q : ℕ) (m : List Declaration) (s : reading.State) where
  -- the bytes with which a word goes on
  pub words : (p : ℕ) (w bytes : List ℕ) → reading.read_bytes (reading.Inside p (tokens.InWord q w) m s) bytes
      ≡ reading.read_bytes (reading.Inside (p + run tokens.is_word_byte bytes) (tokens.InWord q (w ++ take (run tokens.is_word_byte bytes) bytes)) m s)
      (drop (run tokens.is_word_byte bytes) bytes)
  words p w [] = ap (λ i. reading.Inside i (tokens.InWord q w) m s) (plus_none p)
      ∙ ap (λ l. reading.Inside (p + 0) (tokens.InWord q l) m s) (sym (append-nil w))
  words p w (b ∷ bytes) = by (tokens.is_word_byte b) refl (words (p + 1) (w ++ b ∷ []) bytes)
    where
      by : (t : Bool) → tokens.is_word_byte b ≡ t → reading.read_bytes (reading.Inside (p + 1) (tokens.InWord q (w ++ b ∷ [])) m s) bytes
          ≡ reading.read_bytes
          (reading.Inside (p + 1 + run tokens.is_word_byte bytes) (tokens.InWord q ((w ++ b ∷ []) ++ take (run tokens.is_word_byte bytes) bytes)) m s)
          (drop (run tokens.is_word_byte bytes) bytes)
          → reading.read_bytes (reading.Inside p (tokens.InWord q w) m s) (b ∷ bytes)
          ≡ reading.read_bytes
          (reading.Inside (p + (if t then suc (run tokens.is_word_byte bytes) else 0))
          (tokens.InWord q (w ++ take (if t then suc (run tokens.is_word_byte bytes) else 0) (b ∷ bytes))) m s)
          (drop (if t then suc (run tokens.is_word_byte bytes) else 0) (b ∷ bytes))
      by true e h =
          ap (λ d. reading.read_bytes d bytes) (word_goes q w m s p b e) ∙ h
          ∙ ap (λ l. reading.read_bytes (reading.Inside (p + 1 + run tokens.is_word_byte bytes) (tokens.InWord q l) m s)
          (drop (run tokens.is_word_byte bytes) bytes)) (append_assoc w (b ∷ []) (take (run tokens.is_word_byte bytes) bytes))
          ∙ ap (λ i. reading.read_bytes (reading.Inside i (tokens.InWord q (w ++ take (suc (run tokens.is_word_byte bytes)) (b ∷ bytes))) m s)
          (drop (run tokens.is_word_byte bytes) bytes)) (omega arith)
      by false e h =
          ap (λ i. reading.read_bytes (reading.Inside i (tokens.InWord q w) m s) (b ∷ bytes)) (plus_none p)
          ∙ ap (λ l. reading.read_bytes (reading.Inside (p + 0) (tokens.InWord q l) m s) (b ∷ bytes)) (sym (append-nil w))

-- a word at the head of a piece
pub record Starts (m : List Declaration) (s : reading.State) (p : ℕ) (piece : List ℕ) (n : ℕ) : Type 0 where
  pub some : 1 ≤ n
  pub read : reading.read_bytes (reading.Inside p tokens.Nothing m s) piece
      ≡ reading.read_bytes (reading.Inside (p + n) (tokens.InWord p (take n piece)) m s) (drop n piece)

starts_by : (m : List Declaration) (s : reading.State) (p b : ℕ) (bytes : List ℕ) → tokens.is_letter b ≡ true → (t : Bool) → tokens.is_word_byte b ≡ t
    → Starts m s p (b ∷ bytes) (if t then suc (run tokens.is_word_byte bytes) else 0)
starts_by m s p b bytes letter true e = record {
  some = omega arith;
  read =
      ap (λ d. reading.read_bytes d bytes) (letter_goes m s p b letter)
      ∙ words p m s (p + 1) (b ∷ []) bytes
      ∙ ap (λ i. reading.read_bytes (reading.Inside i (tokens.InWord p (b ∷ take (run tokens.is_word_byte bytes) bytes)) m s)
      (drop (run tokens.is_word_byte bytes) bytes)) (omega arith);
}
starts_by m s p b bytes letter false e = absurd (cc (letter_word b letter, e))

pub word_starts : (m : List Declaration) (s : reading.State) (p : ℕ) (piece : List ℕ) → 1 ≤ length piece → tokens.is_letter (get_or piece 0 0) ≡ true
    → Starts m s p piece (run tokens.is_word_byte piece)
word_starts m s p [] some letter = absurd (omega arith)
word_starts m s p (b ∷ bytes) some letter = starts_by m s p b bytes letter (tokens.is_word_byte b) refl

-- a word that ends inside the piece
module _ (m : List Declaration) (s : reading.State) (p : ℕ) (piece : List ℕ) (n : ℕ) (starts : Starts m s p piece n) (ends : Stops tokens.is_word_byte piece n)
  where
    behind : reading.read_bytes (reading.Inside p tokens.Nothing m s) piece
        ≡ reading.read_bytes
        (reading.after_byte (p + n + 1) m s (tokens.after (tokens.at p (tokens.word_token (take n piece))) (tokens.begins (p + n) ends.byte))) ends.more
    behind =
        starts.read
        ∙ ap (reading.read_bytes (reading.Inside (p + n) (tokens.InWord p (take n piece)) m s)) ends.is
        ∙ ap (λ d. reading.read_bytes d ends.more) (word_ends p (take n piece) m s (p + n) ends.byte ends.fails)

    pub word_read : (m2 : List Declaration) (s2 : reading.State) → reading.advance m s p (tokens.word_token (take n piece)) ≡ reading.Goes m2 s2
        → reading.read_bytes (reading.Inside p tokens.Nothing m s) piece ≡ reading.read_bytes (reading.Inside (p + n) tokens.Nothing m2 s2) (drop n piece)
    word_read m2 s2 e =
        behind
        ∙ ap (λ d. reading.read_bytes d ends.more) (after_then (p + n + 1) p m m2 s s2 (tokens.word_token (take n piece)) (tokens.begins (p + n) ends.byte) e)
        ∙ sym (ap (reading.read_bytes (reading.Inside (p + n) tokens.Nothing m2 s2)) ends.is)

    pub word_stops : (r : reading.Refusal) → reading.advance m s p (tokens.word_token (take n piece)) ≡ reading.Stops r
        → reading.read_bytes (reading.Inside p tokens.Nothing m s) piece ≡ reading.Refused r
    word_stops r e =
        behind
        ∙ ap (λ d. reading.read_bytes d ends.more) (after_stops (p + n + 1) p m s (tokens.word_token (take n piece)) (tokens.begins (p + n) ends.byte) r e)
        ∙ read_bytes-Refused r ends.more

-- one byte that was taken, or one that stops the reading
pub first_taken : (done new : reading.Progress) (piece : List ℕ) → 1 ≤ length piece → reading.read_byte done (get_or piece 0 0) ≡ new
    → reading.read_bytes done piece ≡ reading.read_bytes new (drop 1 piece)
first_taken done new [] h e = absurd (omega arith)
first_taken done new (b ∷ bytes) h e = ap (λ d. reading.read_bytes d bytes) e

bytes_stop : (done : reading.Progress) (r : reading.Refusal) (piece : List ℕ) → 1 ≤ length piece → reading.read_byte done (get_or piece 0 0) ≡ reading.Refused r
    → reading.read_bytes done piece ≡ reading.Refused r
bytes_stop done r [] h e = absurd (omega arith)
bytes_stop done r (b ∷ bytes) h e = ap (λ d. reading.read_bytes d bytes) e ∙ read_bytes-Refused r bytes

pub first_stops : (old new : Text) (piece : List ℕ) (e : Stop) → 1 ≤ length piece → Takes (reading.read_byte (inside old) (get_or piece 0 0)) new (Err e)
    → TakesSome old piece new (Err e)
first_stops old new piece e h k = OnRefusal-map (refused_by new.parser.names e) (λ r x. bytes_stop (inside old) r piece h x) k

pub begin_stops : (old new : Text) (piece : List ℕ) (e : Stop) → old.pending ≡ pending.Nothing → 1 ≤ length piece
    → Takes (reading.after_byte (old.place + 1) (before old.parser) (state_of old.parser) (tokens.begins old.place (get_or piece 0 0))) new (Err e)
    → TakesSome old piece new (Err e)
begin_stops old new piece e p h k =
    first_stops old new piece e h
    (takes_as _ _ new (Err e)
    (ap (λ (x : Pending). reading.read_byte (reading.Inside old.place (pending_in old.word.items x) (before old.parser) (state_of old.parser))
    (get_or piece 0 0)) p) k)

-- a piece that was read as far as a fault
pub all_stops : (old new t : Text) (all : reading.Progress) (piece : List ℕ) (e : Stop) → t.parser.names ≡ new.parser.names
    → reading.read_bytes (inside old) piece ≡ all → TakesSome old piece new (Err e) → Takes all t (Err e)
all_stops old new t all piece e names same h =
    OnRefusal-map (refused_by t.parser.names e) (λ r k. sym same ∙ k)
    (subst (λ (ns : List Named). OnRefusal (refused_by ns e) (λ r. reading.read_bytes (inside old) piece ≡ reading.Refused r)) (sym names) h)
