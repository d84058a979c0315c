-- The faults of a text under a limit.
use Rattle.std.proofs.Common.{inl, inr, ◌≡◌, ℕ, ◌+◌, ◌<◌, refl, sym, ap, ◌∙◌, subst, Bool, true, false, List, [], ◌∷◌, ◌++◌, length, take, Option, None, Some, arith}
use Rattle.std.specs.Prelude.{◌⊎◌, if◌then◌else◌, nat_le}
use Rattle.std.proofs.lemmas.List.{append-nil, length-append, length-take-le}
use Rattle.std.proofs.lemmas.Grind.{common_steps}
use Rattle.lp_spec.specs.Modules.{Declaration}
use Rattle.lp_spec.specs.Text.{prelude}
use Rattle.lp_spec.specs.Tokens.{End, ended, stuck, Pending, Nothing, Taken, goes, sticks, take_byte, last_tokens, scan}
use Rattle.lp_spec.specs.ReadingFaults.{State, Between, Outcome, Goes, Stops, Refusal, refusal, NoPrelude, BadText, DkTooLong, advance_all, Answer, reads, refused, Progress, Opening, Inside, Refused, progress, after_byte, opened, read_byte, read_bytes, read_end, unread, answer, cut_token, or_too_long, cut_at, answer_within}
use Rattle.dk_laws.specs.ReadingLaws.{advance_all-append, prelude_read, read_bytes-Refused, read_bytes-append}
use Rattle.lp_spec.specs.TextLaws.{EachLimitTold}
use Rattle.lp_spec.specs.Faults.{Differs, tokens_after, ShowsWithin, within, early, too_long, IsLeastWithin}
use Rattle.dk_laws.specs.FaultReach.{run}
use Rattle.dk_laws.specs.FaultLeast.{place_of, IsNoLater, answers-Stops}
use Rattle.dk_laws.specs.FaultPlaces.{IsEndBefore, tokens-ascending, tokens-end}
use Rattle.dk_laws.specs.FaultLaws.{IsShown, read_shown, answered, no_token-no-later, shown-no-later, refusals_shown, Opens, opens, differs, opens_by, differs_answer, front_read}
use Rattle.dk_laws.specs.CutTokens.{cut_token-answer, cut_token-stops}
use Rattle.dk_laws.specs.CutScans.{inside_place, begun, inside_scanned}
use Rattle.dk_laws.specs.CutGoesOn.{refused-injective, ShowsSo, cut_token-past, opening-past}

-- a text that is refused within its first bytes is refused whatever bytes follow
refused_early : (begun more : List ℕ) (r : Refusal) → read_bytes unread begun ≡ Refused r → answer (begun ++ more) ≡ refused r
refused_early begun more r h = ap read_end (read_bytes-append unread begun more ∙ ap (λ done. read_bytes done more) h ∙ read_bytes-Refused r more)

module _ (n : ℕ) (bytes : List ℕ) (r : Refusal) (long : n < length bytes) where
  -- what is answered whatever bytes follow is shown so
  always_shown : (s : Refusal) → refused s ≡ refused r → ((more : List ℕ) → answer (take n bytes ++ more) ≡ refused s) → ShowsWithin (Some n) bytes r
  always_shown s h f = subst (ShowsWithin (Some n) bytes) (refused-injective s r h) (early long (λ more. refusals_shown (take n bytes ++ more) s (f more)))

  long_shown : refused (refusal n DkTooLong) ≡ refused r → ShowsWithin (Some n) bytes r
  long_shown h = subst (ShowsWithin (Some n) bytes) (refused-injective (refusal n DkTooLong) r h) (too_long long)

  token_shown : (p : ℕ) (pending : Pending) (m : List Declaration) (state : State) (o : Option Refusal)
      → read_bytes unread (take n bytes) ≡ Inside p pending m state
      → cut_token m state pending ≡ o → or_too_long n o ≡ refused r → ShowsWithin (Some n) bytes r
  token_shown p pending m state (Some s) e k h = always_shown s h (cut_token-answer (take n bytes) p pending m state s e k)
  token_shown p pending m state None e k h = long_shown h

  cut_shown : (done : Progress) → read_bytes unread (take n bytes) ≡ done → cut_at n done ≡ refused r → ShowsWithin (Some n) bytes r
  cut_shown (Refused s) e h = always_shown s h (λ more. refused_early (take n bytes) more s e)
  cut_shown (Opening p wanted) e h = long_shown h
  cut_shown (Inside p pending m state) e h = token_shown p pending m state (cut_token m state pending) e refl h

limit_shown : (n : ℕ) (bytes : List ℕ) (r : Refusal) (b : Bool) → nat_le (length bytes) n ≡ b
    → (if b then answer bytes else cut_at n (read_bytes unread (take n bytes))) ≡ refused r
    → ShowsWithin (Some n) bytes r
limit_shown n bytes r true e h = within (grind (arith, common_steps, e)) (refusals_shown bytes r h)
limit_shown n bytes r false e h = cut_shown n bytes r (grind (arith, common_steps, e)) (read_bytes unread (take n bytes)) refl h

-- What a text is refused for under a limit it shows under it.
pub refusals_shown-within : (limit : Option ℕ) (bytes : List ℕ) (r : Refusal) → answer_within limit bytes ≡ refused r → ShowsWithin limit bytes r
refusals_shown-within None bytes r h = within tt (refusals_shown bytes r h)
refusals_shown-within (Some n) bytes r h = limit_shown n bytes r (nat_le (length bytes) n) refl h

-- a reading that is refused within the bytes was stopped by a token, or is stuck
scan_refused : (taken : Taken) (p : ℕ) (bytes : List ℕ) (m : List Declaration) (state : State) (r : Refusal) (q : ℕ) (n : List Declaration) (s : State)
    → read_bytes (after_byte p m state taken) bytes ≡ Refused r → (scan taken p bytes).end ≡ ended q → run m state (scan taken p bytes).tokens ≡ Goes n s → ⊥
scan_refused (sticks tokens o) p bytes m state r q n s h k l = absurd (cc)
scan_refused (goes tokens pending) p [] m state r q n s h k l =
    refused_first (run m state tokens) h (sym (advance_all-append (Goes m state) tokens (last_tokens pending)) ∙ l)
  where
    refused_first : (o : Outcome) → progress p pending o ≡ Refused r → advance_all o (last_tokens pending) ≡ Goes n s → ⊥
    refused_first (Goes c d) i j = absurd (cc)
    refused_first (Stops c) i j = absurd (cc)
scan_refused (goes tokens pending) p (b ∷ bytes) m state r q n s h k l =
    refused_later (run m state tokens) h (sym (advance_all-append (Goes m state) tokens (scan (take_byte pending p b) (p + 1) bytes).tokens) ∙ l)
    (λ c d i j. scan_refused (take_byte pending p b) (p + 1) bytes c d r q n s i k j)
  where
    refused_later : (o : Outcome) → read_bytes (read_byte (progress p pending o) b) bytes ≡ Refused r
        → advance_all o (scan (take_byte pending p b) (p + 1) bytes).tokens ≡ Goes n s
        → ((c : List Declaration) (d : State) → read_bytes (after_byte (p + 1) c d (take_byte pending p b)) bytes ≡ Refused r
        → run c d (scan (take_byte pending p b) (p + 1) bytes).tokens ≡ Goes n s → ⊥) → ⊥
    refused_later (Goes c d) i j f = f c d i j
    refused_later (Stops c) i j f = absurd (cc)

-- a text doesn't come to its end
abbrev NeverEnds : List ℕ → Type 0
NeverEnds text = (q : ℕ) (m : List Declaration) (state : State) → (tokens_after text).end ≡ ended q → run [] Between (tokens_after text).tokens ≡ Goes m state
    → ⊥

-- such a text is refused at the place of one of its bytes
module _ (bytes text : List ℕ) (begun : bytes ≡ prelude ++ text) (r : Refusal) (is_refused : answer bytes ≡ refused r) (no_end : NeverEnds text) where
  bytes_length : length bytes ≡ length prelude + length text
  bytes_length = ap length begun ∙ length-append prelude text

  stopped_place : (s : Refusal) → run [] Between (tokens_after text).tokens ≡ Stops s → s.place < place_of (tokens_after text).end → (end : End)
      → (tokens_after text).end ≡ end
      → IsEndBefore (length prelude + length text) end → r.place < length bytes
  stopped_place s k l end i b = placed end (subst (λ e. s.place < place_of e) i l) b
    where
      same : r ≡ s
      same = refused-injective r s (sym is_refused ∙ answered bytes text begun
          ∙ answers-Stops (run [] Between (tokens_after text).tokens) s (tokens_after text).end k)

      placed : (end : End) → s.place < place_of end → IsEndBefore (length prelude + length text) end → r.place < length bytes
      placed (ended q) c d = omega (arith, c, d, bytes_length, ap (λ w. w.place) same)
      placed (stuck q) c d = omega (arith, c, d, bytes_length, ap (λ w. w.place) same)

  stuck_place : (q : ℕ) → (tokens_after text).end ≡ stuck q → q < length prelude + length text → r.place < length bytes
  stuck_place q i l = by_order (subst (λ a. IsNoLater a (refusal q BadText)) is_refused (no_token-no-later bytes text begun q i))
    where
      by_order : (r.place < q) ⊎ (r ≡ refusal q BadText) → r.place < length bytes
      by_order (inl c) = omega (arith, c, l, bytes_length)
      by_order (inr c) = omega (arith, l, bytes_length, ap (λ w. w.place) c)

  outcome_place : (o : Outcome) (end : End) → run [] Between (tokens_after text).tokens ≡ o → (tokens_after text).end ≡ end
      → IsEndBefore (length prelude + length text) end
      → IsShown (place_of (tokens_after text).end) (tokens_after text).tokens o → r.place < length bytes
  outcome_place (Stops s) end k i b shows = stopped_place s k shows.1 end i b
  outcome_place (Goes m state) (stuck q) k i b shows = stuck_place q i b
  outcome_place (Goes m state) (ended q) k i b shows = absurd (no_end q m state i k)

  text_place : r.place < length bytes
  text_place =
      outcome_place (run [] Between (tokens_after text).tokens) (tokens_after text).end refl refl (tokens-end (length prelude) text)
      (read_shown (place_of (tokens_after text).end) (tokens_after text).tokens (tokens-ascending (length prelude) text))

text_refused : (bytes text : List ℕ) (r : Refusal) → bytes ≡ prelude ++ text → read_bytes unread bytes ≡ Refused r
    → read_bytes (Inside (length prelude) Nothing [] Between) text ≡ Refused r
text_refused bytes text r begun h = ap (λ n. read_bytes (Inside n Nothing [] Between) text) (omega arith) ∙ sym (prelude_read 0 prelude text) ∙ sym
    (ap (read_bytes unread) begun) ∙ h

refused_place : (bytes text : List ℕ) (r : Refusal) → bytes ≡ prelude ++ text → read_bytes unread bytes ≡ Refused r → r.place < length bytes
refused_place bytes text r begun h =
    text_place bytes text begun r (ap read_end h)
    (λ q m state i k. scan_refused (goes [] Nothing) (length prelude) text [] Between r q m state (text_refused bytes text r begun h) i k)

differs_place : (bytes front wanted rest : List ℕ) (r : Refusal) → prelude ≡ front ++ wanted → bytes ≡ front ++ rest → Differs wanted rest
    → read_bytes unread bytes ≡ Refused r
    → r.place < length bytes
differs_place bytes front [] rest r i k d h = absurd d
differs_place bytes front (c ∷ wanted) [] r i k d h =
    absurd (let opening : read_bytes unread bytes ≡ Opening (0 + length front) (c ∷ wanted) =
    ap (read_bytes unread) k ∙ ap (λ w. read_bytes (opened 0 w) (front ++ [])) i ∙ front_read 0 front (c ∷ wanted) [] in cc)
differs_place bytes front (c ∷ wanted) (b ∷ rest) r i k d h =
    let two : refused r ≡ refused (refusal (length front) NoPrelude) = sym (ap read_end h) ∙ differs_answer bytes front (c ∷ wanted) (b ∷ rest) i k d in
    let same : r ≡ refusal (length front) NoPrelude = cc in
    omega (arith, ap (λ w. w.place) same, ap length k, length-append front (b ∷ rest))

opens_place : (bytes : List ℕ) (r : Refusal) → read_bytes unread bytes ≡ Refused r → Opens bytes → r.place < length bytes
opens_place bytes r h (opens text i) = refused_place bytes text r i h
opens_place bytes r h (differs front wanted rest i k d) = differs_place bytes front wanted rest r i k d h

-- a reading is refused within the bytes at the place of one of them
early_place : (bytes : List ℕ) (r : Refusal) → read_bytes unread bytes ≡ Refused r → r.place < length bytes
early_place bytes r h = opens_place bytes r h (opens_by [] prelude bytes refl refl)

-- and so is one for a token that ends it and can't follow, whatever it becomes
cut_place : (bytes : List ℕ) (n : ℕ) (pending : Pending) (m : List Declaration) (state : State) (r : Refusal)
    → read_bytes unread bytes ≡ Inside n pending m state
    → cut_token m state pending ≡ Some r → r.place < length bytes
cut_place bytes n pending m state r e h =
    text_place bytes text (begun bytes n pending m state e).is r (ap answer (sym (append-nil bytes)) ∙ cut_token-answer bytes n pending m state r e h []) no_end
  where
    text : List ℕ
    text = (begun bytes n pending m state e).text

    no_end : NeverEnds text
    no_end q c d i k =
        let found = inside_scanned bytes n pending m state e [] text (append-nil bytes ∙ (begun bytes n pending m state e).is) in
        let last = last_tokens pending in
        let runs : run [] Between (found.front ++ last) ≡ advance_all (Goes m state) last =
        advance_all-append (Goes [] Between) found.front last ∙ ap (λ o. advance_all o last) found.runs in
        cut_token-stops n pending m state r q c d h (sym (ap (λ s. s.end) found.is) ∙ i) (sym runs ∙ ap (λ s. run [] Between s.tokens) (sym found.is) ∙ k)

module _ (n : ℕ) (bytes : List ℕ) (s : Refusal) (shows : ShowsWithin (Some n) bytes s) (long : n < length bytes) where
  taken_length : length (take n bytes) ≡ n
  taken_length = length-take-le n bytes (omega (arith, long))

  -- what is answered whatever bytes follow, at one of the first bytes, is before all else that is shown under the limit
  always_least : (r : Refusal) → ((more : List ℕ) → answer (take n bytes ++ more) ≡ refused r) → r.place < length (take n bytes) → IsNoLater (refused r) s
  always_least r f p = by_shown s shows
    where
      by_shown : (other : Refusal) → ShowsWithin (Some n) bytes other → IsNoLater (refused r) other
      by_shown other (within w k) = absurd (omega (arith, w, long))
      by_shown other (early k g) = subst (λ a. IsNoLater a other) (f []) (shown-no-later (take n bytes ++ []) other (g []))
      by_shown _ (too_long k) = inl (omega (arith, p, taken_length))

  -- where no fault is shown up to the limit, the text is too long
  long_least : (ShowsSo (take n bytes) s → n < s.place) → IsNoLater (refused (refusal n DkTooLong)) s
  long_least f = by_shown s shows f
    where
      by_shown : (other : Refusal) → ShowsWithin (Some n) bytes other → (ShowsSo (take n bytes) other → n < other.place)
          → IsNoLater (refused (refusal n DkTooLong)) other
      by_shown other (within w k) g = absurd (omega (arith, w, long))
      by_shown other (early k shown) g = inl (g shown)
      by_shown _ (too_long k) g = inr refl

  token_least : (p : ℕ) (pending : Pending) (m : List Declaration) (state : State) (o : Option Refusal)
      → read_bytes unread (take n bytes) ≡ Inside p pending m state
      → cut_token m state pending ≡ o → IsNoLater (or_too_long n o) s
  token_least p pending m state (Some r) e h = always_least r (cut_token-answer (take n bytes) p pending m state r e h)
      (cut_place (take n bytes) p pending m state r e h)
  token_least p pending m state None e h =
      long_least (λ f. subst (λ c. c < s.place) (inside_place (take n bytes) p pending m state e ∙ taken_length)
      (cut_token-past (take n bytes) p s pending m state e h f))

  -- the fault that is answered under a limit is before all others that are shown under it
  cut_least : (done : Progress) → read_bytes unread (take n bytes) ≡ done → IsNoLater (cut_at n done) s
  cut_least (Refused r) e = always_least r (λ more. refused_early (take n bytes) more r e) (early_place (take n bytes) r e)
  cut_least (Opening p wanted) e = long_least (opening-past (take n bytes) n s p wanted e)
  cut_least (Inside p pending m state) e = token_least p pending m state (cut_token m state pending) e refl

limit_least : (n : ℕ) (bytes : List ℕ) (s : Refusal) (b : Bool) → nat_le (length bytes) n ≡ b → ShowsWithin (Some n) bytes s
    → IsNoLater (if b then answer bytes else cut_at n (read_bytes unread (take n bytes))) s
limit_least n bytes s true e (within w k) = shown-no-later bytes s k
limit_least n bytes s true e (early l f) = absurd (grind (arith, common_steps, e, l))
limit_least n bytes s true e (too_long l) = absurd (grind (arith, common_steps, e, l))
limit_least n bytes s false e k = cut_least n bytes s k (grind (arith, common_steps, e)) (read_bytes unread (take n bytes)) refl

-- Under a limit a text is refused for each fault that it shows under it, or for one at an earlier place.
pub within-no-later : (limit : Option ℕ) (bytes : List ℕ) (s : Refusal) → ShowsWithin limit bytes s → IsNoLater (answer_within limit bytes) s
within-no-later None bytes s (within w k) = shown-no-later bytes s k
within-no-later (Some n) bytes s k = limit_least n bytes s (nat_le (length bytes) n) refl k

-- Of the faults that a text shows under a limit, it is refused under it for the one at the least place.
pub least_fault-within : (limit : Option ℕ) (bytes : List ℕ) (r s : Refusal) → answer_within limit bytes ≡ refused r → ShowsWithin limit bytes s
    → (r.place < s.place) ⊎ (r ≡ s)
least_fault-within limit bytes r s h k = subst (λ a. IsNoLater a s) h (within-no-later limit bytes s k)

-- A text that reads as a module under a limit shows no fault under it.
pub reading_faultless-within : (limit : Option ℕ) (bytes : List ℕ) (m : List Declaration) (s : Refusal) → answer_within limit bytes ≡ reads m
    → ShowsWithin limit bytes s → ⊥
reading_faultless-within limit bytes m s h k = subst (λ a. IsNoLater a s) h (within-no-later limit bytes s k)

least_answered : (limit : Option ℕ) (bytes : List ℕ) (r : Refusal) (a : Answer) → answer_within limit bytes ≡ a → IsNoLater a r → IsLeastWithin limit bytes r
    → a ≡ refused r
least_answered limit bytes r (reads m) e h l = absurd h
least_answered limit bytes r (refused s) e (inr h) l = ap refused h
least_answered limit bytes r (refused s) e (inl h) l = absurd (earlier_no (l.least s (refusals_shown-within limit bytes s e)))
  where
    earlier_no : (r.place < s.place) ⊎ (r ≡ s) → ⊥
    earlier_no (inl k) = absurd (omega (arith, h, k))
    earlier_no (inr k) = absurd (omega (arith, h, ap (λ c. c.place) k))

-- A text is refused under a limit for the fault that it shows before all others.
pub least_told-within : (limit : Option ℕ) (bytes : List ℕ) (r : Refusal) → IsLeastWithin limit bytes r → answer_within limit bytes ≡ refused r
least_told-within limit bytes r l = least_answered limit bytes r (answer_within limit bytes) refl (within-no-later limit bytes r l.shown) l

-- The law of limits.
pub limits-told : EachLimitTold
limits-told limit bytes =
    record {
      shown = refusals_shown-within limit bytes;
      least = least_fault-within limit bytes;
      none = reading_faultless-within limit bytes;
      told = least_told-within limit bytes;
    }
