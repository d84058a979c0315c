-- A reading that is inside a text, and the tokens of the text where it goes on.
use Rattle.std.proofs.Common.{◌≡◌, ℕ, ◌+◌, refl, sym, ap, ◌∙◌, subst, Bool, true, false, List, [], ◌∷◌, ◌++◌, length, arith}
use Rattle.std.specs.Prelude.{if◌then◌else◌, ◌==◌}
use Rattle.std.proofs.lemmas.Bool.{eqb-true}
use Rattle.std.proofs.lemmas.List.{append_assoc, append_cancel_left}
use Rattle.lp_spec.specs.Modules.{Declaration}
use Rattle.lp_spec.specs.Text.{prelude}
use Rattle.lp_spec.specs.Tokens.{Placed, Pending, Nothing, Taken, goes, sticks, take_byte, before, Scanned, scan}
use Rattle.lp_spec.specs.ReadingFaults.{State, Between, Outcome, Goes, Stops, refusal, NoPrelude, advance_all, broken, Progress, Opening, Inside, Refused, progress, after_byte, opened, read_byte, read_bytes, unread}
use Rattle.lp_spec.specs.Faults.{tokens_after}
use Rattle.dk_laws.specs.ReadingLaws.{advance_all-append, prelude_read, read_bytes-Refused, IsOpened}
use Rattle.dk_laws.specs.WrittenTokens.{scan-goes}

-- a reading is at place n, unless it is refused
abbrev IsAt : ℕ → Progress → Type 0
IsAt n (Refused r) = Unit {0}
IsAt n (Opening p wanted) = p ≡ n
IsAt n (Inside p pending m state) = p ≡ n

progress_at : (p : ℕ) (pending : Pending) (o : Outcome) → IsAt p (progress p pending o)
progress_at p pending (Goes m state) = refl
progress_at p pending (Stops r) = tt

after_byte_at : (p : ℕ) (m : List Declaration) (state : State) (taken : Taken) → IsAt p (after_byte p m state taken)
after_byte_at p m state (goes tokens pending) = progress_at p pending (advance_all (Goes m state) tokens)
after_byte_at p m state (sticks tokens q) = tt

opened_at : (p : ℕ) (wanted : List ℕ) → IsAt p (opened p wanted)
opened_at p [] = refl
opened_at p (c ∷ wanted) = refl

opening_at : (p : ℕ) (wanted : List ℕ) (same : Bool) → IsAt (p + 1) (if same then opened (p + 1) wanted else Refused (refusal p NoPrelude))
opening_at p wanted true = opened_at (p + 1) wanted
opening_at p wanted false = tt

read_byte_at : (n : ℕ) (done : Progress) (b : ℕ) → IsAt n done → IsAt (n + 1) (read_byte done b)
read_byte_at n (Refused r) b h = tt
read_byte_at n (Opening p []) b h = subst (λ k. IsAt (k + 1) (read_byte (Opening p []) b)) h (after_byte_at (p + 1) [] Between (take_byte Nothing p b))
read_byte_at n (Opening p (c ∷ wanted)) b h = subst (λ k. IsAt (k + 1) (read_byte (Opening p (c ∷ wanted)) b)) h (opening_at p wanted (b == c))
read_byte_at n (Inside p pending m state) b h = subst (λ k. IsAt (k + 1) (read_byte (Inside p pending m state) b)) h
    (after_byte_at (p + 1) m state (take_byte pending p b))

read_bytes_at : (n : ℕ) (done : Progress) (bytes : List ℕ) → IsAt n done → IsAt (n + length bytes) (read_bytes done bytes)
read_bytes_at n done [] h = subst (λ k. IsAt k done) (omega arith) h
read_bytes_at n done (b ∷ bytes) h = subst (λ k. IsAt k (read_bytes (read_byte done b) bytes)) (omega arith)
    (read_bytes_at (n + 1) (read_byte done b) bytes (read_byte_at n done b h))

-- A reading inside a text has come to its end.
pub inside_place : (bytes : List ℕ) (n : ℕ) (pending : Pending) (m : List Declaration) (state : State) → read_bytes unread bytes ≡ Inside n pending m state
    → n ≡ length bytes
inside_place bytes n pending m state h = subst (IsAt (0 + length bytes)) h (read_bytes_at 0 unread bytes refl) ∙ omega arith

-- a reading that has come to place n so
module _ (n : ℕ) (pending : Pending) (c : List Declaration) (d : State) where
  abbrev IsInside : Progress → Type 0
  IsInside done = done ≡ Inside n pending c d

  -- the signature's text comes first
  begun_by : (p a b : ℕ) (wanted bytes : List ℕ) (same : Bool) → (b == a) ≡ same
      → IsInside (read_bytes (if same then opened (p + 1) wanted else Refused (refusal p NoPrelude)) bytes)
      → (IsInside (read_bytes (opened (p + 1) wanted) bytes) → IsOpened wanted bytes) → IsOpened (a ∷ wanted) (b ∷ bytes)
  begun_by p a b wanted bytes true e h k = let r = k h in record { text = r.text; is = cc (eqb-true b a e, r.is) }
  begun_by p a b wanted bytes false e h k = absurd (cc (h, read_bytes-Refused (refusal p NoPrelude) bytes))

  inside_opened : (p : ℕ) (wanted bytes : List ℕ) → IsInside (read_bytes (opened p wanted) bytes) → IsOpened wanted bytes
  inside_opened p [] bytes h = record { text = bytes; is = refl }
  inside_opened p (a ∷ wanted) [] h = absurd (cc)
  inside_opened p (a ∷ wanted) (b ∷ bytes) h = begun_by p a b wanted bytes (b == a) refl h (inside_opened (p + 1) wanted bytes)

  module _ (more : List ℕ) where
    -- some of the tokens have led to the reading, and the others are those of the bytes behind place n
    pub record IsScanned (s : Scanned) (from : Outcome) : Type 0 where
      pub front : List Placed
      pub is : s ≡ before front (scan (goes [] pending) n more)
      pub runs : advance_all from front ≡ Goes c d

    -- at the end of the bytes, and before one more
    last_scanned : (p : ℕ) (waiting : Pending) (tokens : List Placed) (from o : Outcome) → advance_all from tokens ≡ o → IsInside (progress p waiting o)
        → IsScanned (scan (goes tokens waiting) p more) from
    last_scanned p waiting tokens from (Stops r) e h = absurd (cc)
    last_scanned p waiting tokens from (Goes a s) e h =
        let place : p ≡ n = cc in
        let same : waiting ≡ pending = cc in
        record {
          front = tokens;
          is = scan-goes tokens waiting p more ∙ ap (λ k. before tokens (scan (goes [] waiting) k more)) place
              ∙ ap (λ w. before tokens (scan (goes [] w) n more)) same;
          runs = cc;
        }

    next_scanned : (b : ℕ) (bytes : List ℕ) (p : ℕ) (waiting : Pending) (tokens : List Placed) (rest : Scanned) (from o : Outcome) → advance_all from tokens ≡ o
        → IsInside (read_bytes (read_byte (progress p waiting o) b) bytes)
        → ((a : List Declaration) (s : State) → IsInside (read_bytes (after_byte (p + 1) a s (take_byte waiting p b)) bytes) → IsScanned rest (Goes a s))
        → IsScanned (before tokens rest) from
    next_scanned b bytes p waiting tokens rest from (Stops r) e h f = absurd (cc (h, read_bytes-Refused r bytes))
    next_scanned b bytes p waiting tokens rest from (Goes a s) e h f =
        let found = f a s h in
        let last = scan (goes [] pending) n more in
        record {
          front = tokens ++ found.front;
          is = ap (before tokens) found.is ∙ ap (λ w. record { tokens = w; end = last.end }) (sym (append_assoc tokens found.front last.tokens));
          runs = advance_all-append from tokens found.front ∙ ap (λ o. advance_all o found.front) e ∙ found.runs;
        }

    scan_inside : (taken : Taken) (p : ℕ) (bytes : List ℕ) (m : List Declaration) (state : State) → IsInside (read_bytes (after_byte p m state taken) bytes)
        → IsScanned (scan taken p (bytes ++ more)) (Goes m state)
    scan_inside (sticks tokens q) p bytes m state h = absurd (cc (h, read_bytes-Refused (broken (advance_all (Goes m state) tokens) q) bytes))
    scan_inside (goes tokens waiting) p [] m state h = last_scanned p waiting tokens (Goes m state) (advance_all (Goes m state) tokens) refl h
    scan_inside (goes tokens waiting) p (b ∷ bytes) m state h =
        next_scanned b bytes p waiting tokens (scan (take_byte waiting p b) (p + 1) (bytes ++ more)) (Goes m state) (advance_all (Goes m state) tokens) refl h
        (λ a s. scan_inside (take_byte waiting p b) (p + 1) bytes a s)

-- a reading inside the text that follows the signature's
module _ (bytes : List ℕ) (n : ℕ) (pending : Pending) (m : List Declaration) (state : State) (h : read_bytes unread bytes ≡ Inside n pending m state) where
  pub begun : IsOpened prelude bytes
  begun = inside_opened n pending m state 0 prelude bytes h

  text_read : read_bytes (Inside (length prelude) Nothing [] Between) begun.text ≡ Inside n pending m state
  text_read =
      ap (λ k. read_bytes (Inside k Nothing [] Between) begun.text) (omega arith) ∙ sym (prelude_read 0 prelude begun.text)
      ∙ sym (ap (read_bytes unread) begun.is)
      ∙ h

  -- the tokens of a text that begins so
  pub inside_scanned : (more text : List ℕ) → bytes ++ more ≡ prelude ++ text → IsScanned n pending m state more (tokens_after text) (Goes [] Between)
  inside_scanned more text e =
      let grouped : prelude ++ text ≡ prelude ++ (begun.text ++ more) = sym e ∙ ap (λ w. w ++ more) begun.is ∙ append_assoc prelude begun.text more in
      subst (λ w. IsScanned n pending m state more (tokens_after w) (Goes [] Between)) (sym (append_cancel_left prelude text (begun.text ++ more) grouped))
      (scan_inside n pending m state more (goes [] Nothing) (length prelude) begun.text [] Between text_read)
