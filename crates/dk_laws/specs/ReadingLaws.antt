-- Every text either reads as one module or is refused for one fault.
use Rattle.std.proofs.Common.{inl, inr, ◌≡◌, ℕ, ◌+◌, refl, sym, ap, ◌∙◌, Bool, true, false, List, [], ◌∷◌, ◌++◌, length, arith}
use Rattle.std.specs.Prelude.{if◌then◌else◌, ◌==◌, ◌⊎◌}
use Rattle.std.proofs.lemmas.Bool.{eqb-true, eq-eqb}
use Rattle.lp_spec.specs.Modules.{Declaration}
use Rattle.lp_spec.specs.Text.{prelude}
use Rattle.lp_spec.specs.TextLaws.{ReadsOnce, IsRefused, OneAnswer}
use Rattle.lp_spec.specs.Tokens.{Placed, at, End, ended, stuck, Pending, Nothing, Taken, goes, sticks, take_byte, last_tokens, end_at, Scanned, scan, tokens_from}
use Rattle.lp_spec.specs.Reading.{Reads}
use Rattle.lp_spec.specs.ReadingFaults.{State, Between, Outcome, Goes, Stops, Refusal, refusal, NoPrelude, advance, advance_all, broken, Answer, reads, refused, answers, Progress, Opening, Inside, Refused, progress, after_byte, opened, read_byte, read_bytes, read_end, answer}
use Rattle.dk_laws.specs.ReadingSound.{answers-Completes}
use Rattle.dk_laws.specs.ReadingComplete.{Completes-answers}

-- tokens one by one, or two lists of them
pub advance_all-append : (o : Outcome) (front tokens : List Placed) → advance_all o (front ++ tokens) ≡ advance_all (advance_all o front) tokens
advance_all-append (Stops r) front tokens = refl
advance_all-append (Goes m state) [] tokens = refl
advance_all-append (Goes m state) (at p token ∷ front) tokens = advance_all-append (advance m state p token) front tokens

pub answers-stuck : (o : Outcome) (q : ℕ) → answers o (stuck q) ≡ refused (broken o q)
answers-stuck (Stops r) q = refl
answers-stuck (Goes m Between) q = refl
answers-stuck (Goes m _) q = refl

answers-Stops : (r : Refusal) (end : End) → answers (Stops r) end ≡ refused r
answers-Stops r (ended p) = refl
answers-Stops r (stuck p) = refl

-- after a refusal nothing is read
pub read_bytes-Refused : (r : Refusal) (bytes : List ℕ) → read_bytes (Refused r) bytes ≡ Refused r
read_bytes-Refused r [] = refl
read_bytes-Refused r (b ∷ bytes) = read_bytes-Refused r bytes

-- bytes one by one, or two lists of them
pub read_bytes-append : (done : Progress) (front bytes : List ℕ) → read_bytes done (front ++ bytes) ≡ read_bytes (read_bytes done front) bytes
read_bytes-append done [] bytes = refl
read_bytes-append done (b ∷ front) bytes = read_bytes-append (read_byte done b) front bytes

-- what was taken is read as its tokens are
last_read : (o : Outcome) (pending : Pending) (p : ℕ) → read_end (progress p pending o) ≡ answers (advance_all o (last_tokens pending)) (end_at pending p)
last_read (Goes m state) pending p = refl
last_read (Stops r) pending p = sym (answers-Stops r (end_at pending p))

-- the next byte, where what it does is read as its tokens are
byte_read : (o : Outcome) (pending : Pending) (p b : ℕ) (bytes : List ℕ) (rest : Scanned)
    → ((m : List Declaration) (state : State) → read_end (read_bytes (after_byte (p + 1) m state (take_byte pending p b)) bytes)
    ≡ answers (advance_all (Goes m state) rest.tokens) rest.end)
    → read_end (read_bytes (read_byte (progress p pending o) b) bytes) ≡ answers (advance_all o rest.tokens) rest.end
byte_read (Goes m state) pending p b bytes rest h = h m state
byte_read (Stops r) pending p b bytes rest h = ap read_end (read_bytes-Refused r bytes) ∙ sym (answers-Stops r rest.end)

scan-read : (taken : Taken) (p : ℕ) (bytes : List ℕ) (m : List Declaration) (state : State)
    → read_end (read_bytes (after_byte p m state taken) bytes) ≡ answers (advance_all (Goes m state) (scan taken p bytes).tokens) (scan taken p bytes).end
scan-read (sticks tokens q) p bytes m state =
    ap read_end (read_bytes-Refused (broken (advance_all (Goes m state) tokens) q) bytes) ∙ sym (answers-stuck (advance_all (Goes m state) tokens) q)
scan-read (goes tokens pending) p [] m state =
    last_read (advance_all (Goes m state) tokens) pending p
    ∙ ap (λ o. answers o (end_at pending p)) (sym (advance_all-append (Goes m state) tokens (last_tokens pending)))
scan-read (goes tokens pending) p (b ∷ bytes) m state =
    byte_read (advance_all (Goes m state) tokens) pending p b bytes (scan (take_byte pending p b) (p + 1) bytes)
    (λ n s. scan-read (take_byte pending p b) (p + 1) bytes n s)
    ∙ ap (λ o. answers o (scan (take_byte pending p b) (p + 1) bytes).end)
    (sym (advance_all-append (Goes m state) tokens (scan (take_byte pending p b) (p + 1) bytes).tokens))

-- the text after the signature's own
text_read : (p : ℕ) (bytes : List ℕ)
    → read_end (read_bytes (Inside p Nothing [] Between) bytes) ≡ answers (advance_all (Goes [] Between) (tokens_from p bytes).tokens) (tokens_from p bytes).end
text_read p bytes = scan-read (goes [] Nothing) p bytes [] Between

-- a byte that the signature's own text has too
pub opening_read : (p b : ℕ) (wanted bytes : List ℕ) → read_bytes (read_byte (Opening p (b ∷ wanted)) b) bytes ≡ read_bytes (opened (p + 1) wanted) bytes
opening_read p b wanted bytes = ap (λ (c : Bool). read_bytes (if c then opened (p + 1) wanted else Refused (refusal p NoPrelude)) bytes) (eq-eqb b b refl)

-- the prelude is read, and then what follows
pub prelude_read : (p : ℕ) (wanted text : List ℕ)
    → read_bytes (opened p wanted) (wanted ++ text) ≡ read_bytes (Inside (p + length wanted) Nothing [] Between) text
prelude_read p [] text = ap (λ q. read_bytes (Inside q Nothing [] Between) text) (omega arith)
prelude_read p (b ∷ wanted) text =
    opening_read p b wanted (wanted ++ text)
    ∙ prelude_read (p + 1) wanted text
    ∙ ap (λ q. read_bytes (Inside q Nothing [] Between) text) (omega arith)

-- the bytes begin by those wanted
pub record IsOpened (wanted bytes : List ℕ) : Type 0 where
  pub text : List ℕ
  pub is : bytes ≡ wanted ++ text

opened_by : (p b c : ℕ) (wanted bytes : List ℕ) (m : List Declaration) (same : Bool) → (b == c) ≡ same
    → read_end (read_bytes (if same then opened (p + 1) wanted else Refused (refusal p NoPrelude)) bytes) ≡ reads m
    → (read_end (read_bytes (opened (p + 1) wanted) bytes) ≡ reads m → IsOpened wanted bytes) → IsOpened (c ∷ wanted) (b ∷ bytes)
opened_by p b c wanted bytes m true e h k = let r = k h in record { text = r.text; is = cc (eqb-true b c e, r.is) }
opened_by p b c wanted bytes m false e h k = absurd (cc (h, ap read_end (read_bytes-Refused (refusal p NoPrelude) bytes)))

is_opened : (p : ℕ) (wanted bytes : List ℕ) (m : List Declaration) → read_end (read_bytes (opened p wanted) bytes) ≡ reads m → IsOpened wanted bytes
is_opened p [] bytes m h = record { text = bytes; is = refl }
is_opened p (c ∷ wanted) [] m h = absurd (cc)
is_opened p (c ∷ wanted) (b ∷ bytes) m h = opened_by p b c wanted bytes m (b == c) refl h (is_opened (p + 1) wanted bytes m)

-- the answer to a text that begins as every module does
pub answer_is : (text : List ℕ)
    → answer (prelude ++ text) ≡ answers (advance_all (Goes [] Between) (tokens_from (length prelude) text).tokens) (tokens_from (length prelude) text).end
answer_is text = ap read_end (prelude_read 0 prelude text) ∙ text_read (0 + length prelude) text

-- a text that reads as a module has it for its answer
pub Reads-answer : (bytes : List ℕ) (m : List Declaration) → Reads bytes m → answer bytes ≡ reads m
Reads-answer bytes m h =
    ap answer h.begins ∙ answer_is h.text
    ∙ ap (λ e. answers (advance_all (Goes [] Between) (tokens_from (length prelude) h.text).tokens) e) h.whole
    ∙ Completes-answers h.place h.declares

-- where the tokens are not refused, they have an end
record HasEnd (end : End) : Type 0 where
  place : ℕ
  is : end ≡ ended place

has_end : (o : Outcome) (end : End) (m : List Declaration) → answers o end ≡ reads m → HasEnd end
has_end o (ended p) m h = record { place = p; is = refl }
has_end o (stuck p) m h = absurd (cc (h, answers-stuck o p))

-- a text with a module for its answer reads as it
pub answer-Reads : (bytes : List ℕ) (m : List Declaration) → answer bytes ≡ reads m → Reads bytes m
answer-Reads bytes m h =
    let o = is_opened 0 prelude bytes m h in
    let found : answers (advance_all (Goes [] Between) (tokens_from (length prelude) o.text).tokens) (tokens_from (length prelude) o.text).end ≡ reads m =
    sym (answer_is o.text) ∙ ap answer (sym o.is) ∙ h in
    let e = has_end (advance_all (Goes [] Between) (tokens_from (length prelude) o.text).tokens) (tokens_from (length prelude) o.text).end m found in
    record {
      text = o.text;
      begins = o.is;
      place = e.place;
      whole = e.is;
      declares = answers-Completes m (tokens_from (length prelude) o.text).tokens (tokens_from (length prelude) o.text).end found;
    }

answered_by : (bytes : List ℕ) (a : Answer) → answer bytes ≡ a → ReadsOnce bytes ⊎ IsRefused bytes
answered_by bytes (reads m) e = inl (record { m = m; read = answer-Reads bytes m e; only = λ other h. cc (Reads-answer bytes other h, e); answered = e })
answered_by bytes (refused r) e = inr (record { r = r; unread = λ m h. absurd (cc (Reads-answer bytes m h, e)); answered = e })

-- every text has exactly one answer
pub one_answer : OneAnswer
one_answer bytes = answered_by bytes (answer bytes) refl
