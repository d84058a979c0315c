-- How a text is read to its end.
use Rattle.std.proofs.Common.{◌≡◌, ℕ, zero, suc, ◌+◌, ◌-◌, ◌==◌, Bool, true, ◌<◌, ◌≤◌, refl, sym, ap, subst, ◌∙◌, List, [], ◌∷◌, ◌++◌, length, take, drop, nat_le, if◌then◌else◌, false, append_assoc, length-append, Option, None, Some, Err, arith}
use Rattle.std.proofs.lemmas.Bool.{ltb-true}
use Rattle.std.proofs.lemmas.List.{append-nil}
use Rattle.std.proofs.lemmas.Grind.{common_steps}
use Rattle.lp_spec.specs.Modules.{Declaration}
use Rattle.lp_spec.specs.Text.{prelude}
use Rattle.lp_spec.specs.Tokens.{Pending, Nothing, Taken, goes, sticks, take_byte}
use Rattle.lp_spec.specs.ReadingFaults as reading
use Rattle.dk_laws.specs.ReadingLaws.{read_bytes-Refused, read_bytes-append}
use Rattle.dk_read.specs.declared.faults.DkFault.{DkFault}
use Rattle.dk_read.specs.declared.faults.DkFault.TheVariants as fault
use Rattle.lp_spec.specs.declared.fault_kind.DkKind.{DkKind}
use Rattle.lp_spec.specs.declared.fault_kind.DkKind.TheVariants as kind
use Rattle.dk_read.specs.declared.stage.Stage.{Stage}
use Rattle.dk_read.specs.declared.stage.Stage.TheVariants as stage
use Rattle.lp_spec.specs.FaultKinds.{fault_of}
use Rattle.dk_read.specs.Texts.{Ends, Refuses}
use Rattle.dk_read.proofs.Answered.{within_answer}
use Rattle.dk_read.specs.Readers.{Reading, IsFed, IsWithin, HasRoom, IsStage, Comes, IsGoing, progress_of, place_of, fault_in, fed_with, IsCut, StopsAs, StaysStopped}

-- a reader that has stopped
stopped_by : (r : Reading) (o : Option DkFault) (f : DkFault) (text : List ℕ) → o ≡ Some f → r.fault ≡ o → IsFed r text
    → Ends (reading.answer_within r.limit text) (Err f)
stopped_by r o (fault.Refused p k) text e g h =
    let refuses = subst (λ w. fed_with w r text) (g ∙ e) h in
    subst (λ w. Refuses (reading.answer_within r.limit w) p k) (append-nil text) (refuses [])
stopped_by r o fault.Memory text e g h = tt

pub stopped : (r : Reading) (f : DkFault) (text : List ℕ) → r.fault ≡ Some f → IsFed r text → Ends (reading.answer_within r.limit text) (Err f)
stopped r f text e h = stopped_by r (Some f) f text refl e h

-- a text that is cut at its limit
take_front : (front more : List ℕ) → take (length front) (front ++ more) ≡ front
take_front [] more = refl
take_front (b ∷ front) more = ap (λ w. b ∷ w) (take_front front more)

regrouped : (text front back more : List ℕ) → text ++ (front ++ back) ++ more ≡ text ++ front ++ (back ++ more)
regrouped text front back more = simp append_assoc

cut_answer : (n : ℕ) (text front back more : List ℕ) → length (text ++ front) ≡ n → 1 ≤ length back
    → reading.answer_within (Some n) (text ++ (front ++ back) ++ more) ≡ reading.cut_at n (reading.read_bytes reading.unread (text ++ front))
cut_answer n text front back more e h =
    let whole : List ℕ = text ++ (front ++ back) ++ more in
    let same : whole ≡ text ++ front ++ (back ++ more) = regrouped text front back more in
    let long : nat_le (length whole) n ≡ false = grind (arith, common_steps, same, e, h) in
    let cut : take n whole ≡ text ++ front = ap (take n) same ∙ ap (λ k. take k (text ++ front ++ (back ++ more))) (sym e) ∙ take_front (text ++ front)
    (back ++ more) in
    ap (λ b. if b then reading.answer whole else reading.cut_at n (reading.read_bytes reading.unread (take n whole))) long
    ∙ ap (λ w. reading.cut_at n (reading.read_bytes reading.unread w)) cut

cut_feeds : (r : Reading) (f : DkFault) (n : ℕ) (text front back : List ℕ) → r.limit ≡ Some n → length (text ++ front) ≡ n → 1 ≤ length back
    → IsCut (reading.cut_at n (reading.read_bytes reading.unread (text ++ front))) f → fed_with (Some f) r (text ++ (front ++ back))
cut_feeds r fault.Memory n text front back l e h k = tt
cut_feeds r (fault.Refused p k0) n text front back l e h k =
    λ more. subst (λ a. Refuses a p k0) (sym (ap (λ w. reading.answer_within w (text ++ (front ++ back) ++ more)) l ∙ cut_answer n text front back more e h)) k

-- what a reading that goes on has read
byte_place : (p : ℕ) (pending : Pending) (o : reading.Outcome) → IsGoing (reading.progress p pending o) → place_of (reading.progress p pending o) ≡ p
byte_place p pending (reading.Goes m s) g = refl
byte_place p pending (reading.Stops r) g = absurd g

taken_place : (p : ℕ) (m : List Declaration) (s : reading.State) (taken : Taken) → IsGoing (reading.after_byte p m s taken)
    → place_of (reading.after_byte p m s taken) ≡ p
taken_place p m s (goes ts pending) g = byte_place p pending (reading.advance_all (reading.Goes m s) ts) g
taken_place p m s (sticks ts q) g = absurd g

opened_place : (p : ℕ) (wanted : List ℕ) → place_of (reading.opened p wanted) ≡ p
opened_place p [] = refl
opened_place p (c ∷ wanted) = refl

opening_place : (p : ℕ) (wanted : List ℕ) (t : Bool)
    → IsGoing (if t then reading.opened p wanted else reading.Refused (reading.refusal (p - 1) reading.NoPrelude))
    → place_of (if t then reading.opened p wanted else reading.Refused (reading.refusal (p - 1) reading.NoPrelude)) ≡ p
opening_place p wanted true g = opened_place p wanted
opening_place p wanted false g = absurd g

next_opening : (p : ℕ) (wanted : List ℕ) (t : Bool)
    → IsGoing (if t then reading.opened (p + 1) wanted else reading.Refused (reading.refusal p reading.NoPrelude))
    → place_of (if t then reading.opened (p + 1) wanted else reading.Refused (reading.refusal p reading.NoPrelude)) ≡ p + 1
next_opening p wanted true g = opened_place (p + 1) wanted
next_opening p wanted false g = absurd g

next_place : (done : reading.Progress) (b : ℕ) → IsGoing (reading.read_byte done b) → place_of (reading.read_byte done b) ≡ place_of done + 1
next_place (reading.Refused r) b g = absurd g
next_place (reading.Opening p []) b g = taken_place (p + 1) [] reading.Between (take_byte Nothing p b) g
next_place (reading.Opening p (c ∷ wanted)) b g = next_opening p wanted (b == c) g
next_place (reading.Inside p pending m s) b g = taken_place (p + 1) m s (take_byte pending p b) g

went_on : (done : reading.Progress) (bytes : List ℕ) → IsGoing (reading.read_bytes done bytes) → IsGoing done
went_on (reading.Refused r) bytes g = subst IsGoing (read_bytes-Refused r bytes) g
went_on (reading.Opening p wanted) bytes g = tt
went_on (reading.Inside p pending m s) bytes g = tt

bytes_place : (done : reading.Progress) (bytes : List ℕ) → IsGoing (reading.read_bytes done bytes) → place_of (reading.read_bytes done bytes)
    ≡ place_of done + length bytes
bytes_place done [] g = omega arith
bytes_place done (b ∷ bytes) g =
    let one = next_place done b (went_on (reading.read_byte done b) bytes g) in
    let more = bytes_place (reading.read_byte done b) bytes g in
    omega (arith, one, more)

stage_going : (s : Stage) → fault_in s ≡ None → IsGoing (progress_of s)
stage_going (stage.Opening n) e = tt
stage_going (stage.Inside t) e = tt
stage_going (stage.Stopped f) e = absurd (cc)

-- as many bytes as the text has that it was fed
pub fed_place : (s : Stage) (text : List ℕ) → fault_in s ≡ None → progress_of s ≡ reading.read_bytes reading.unread text → place_of (progress_of s)
    ≡ length text
fed_place s text g e =
    let going = subst IsGoing e (stage_going s g) in
    ap place_of e ∙ bytes_place reading.unread text going ∙ no_bytes (length text)
  where
    no_bytes : (n : ℕ) → 0 + n ≡ n
    no_bytes n = omega arith

-- a text that a fault refuses is refused so whatever follows
take_suc : (n k b : ℕ) (text more : List ℕ) → suc k ≡ n → take k (text ++ more) ≡ text ++ take (k - length text) more → take n (b ∷ (text ++ more))
    ≡ b ∷ (text ++ take (n - suc (length text)) more)
take_suc n k b text more same h =
    ap (λ i. take i (b ∷ (text ++ more))) (sym same) ∙ ap (λ l. b ∷ l) h ∙ ap (λ i. b ∷ (text ++ take i more)) (omega (arith, same))

take_more : (n : ℕ) (text more : List ℕ) → length text ≤ n → take n (text ++ more) ≡ text ++ take (n - length text) more
take_more n [] more h = ap (λ k. take k more) (omega arith)
take_more zero (b ∷ text) more h = absurd (omega (arith, h))
take_more (suc k) (b ∷ text) more h = take_suc (suc k) k b text more refl (take_more k text more (omega (arith, h)))

refused_more : (text more : List ℕ) (r : reading.Refusal) → reading.read_bytes reading.unread text ≡ reading.Refused r
    → reading.read_bytes reading.unread (text ++ more) ≡ reading.Refused r
refused_more text more r e = read_bytes-append reading.unread text more ∙ ap (λ d. reading.read_bytes d more) e ∙ read_bytes-Refused r more

within_by : (n : ℕ) (text more : List ℕ) (r : reading.Refusal) (t : Bool) → length text ≤ n → reading.read_bytes reading.unread text ≡ reading.Refused r
    → (if t then reading.answer (text ++ more) else reading.cut_at n (reading.read_bytes reading.unread (take n (text ++ more)))) ≡ reading.refused r
within_by n text more r true h e = ap reading.read_end (refused_more text more r e)
within_by n text more r false h e = ap (reading.cut_at n)
    (ap (reading.read_bytes reading.unread) (take_more n text more h) ∙ refused_more text (take (n - length text) more) r e)

refused_within : (limit : Option ℕ) (text more : List ℕ) (r : reading.Refusal) → IsWithin limit text → reading.read_bytes reading.unread text
    ≡ reading.Refused r → reading.answer_within limit (text ++ more) ≡ reading.refused r
refused_within None text more r h e = ap reading.read_end (refused_more text more r e)
refused_within (Some n) text more r h e = within_by n text more r (nat_le (length (text ++ more)) n) h e

placed : (a : reading.Answer) (p : ℕ) (k : DkKind) → a ≡ reading.refused (reading.refusal p (fault_of k)) → p < 18446744073709551616 → Refuses a p k
placed a p k e w = record { r = reading.refusal p (fault_of k); is = e; place = omega (arith, w); fault = refl }

-- a piece that was read within the limit
pub read_feeds : (limit : Option ℕ) (s : Stage) (text : List ℕ) → IsStage s → IsWithin limit text → Comes (reading.read_bytes reading.unread text) s
    → fed_with (fault_in s) (record { limit = limit; progress = progress_of s; fault = fault_in s }) text
read_feeds limit (stage.Opening n) text h w e = (sym e, w)
read_feeds limit (stage.Inside t) text h w e = (sym e, w)
read_feeds limit (stage.Stopped fault.Memory) text h w e = tt
read_feeds limit (stage.Stopped (fault.Refused p k)) text h w e = λ more. placed _ p k (refused_within limit text more (reading.refusal p (fault_of k)) w e) h

room_within : (limit : Option ℕ) (n : ℕ) (text piece : List ℕ) → n ≡ length text → IsWithin limit text → HasRoom limit n (length piece)
    → IsWithin limit (text ++ piece)
room_within None n text piece e w h = tt
room_within (Some most) n text piece e w h = omega (arith, e, w, h, length-append text piece)

comes_fed : (old new : Stage) (text piece : List ℕ) → progress_of old ≡ reading.read_bytes reading.unread text
    → Comes (reading.read_bytes (progress_of old) piece) new → Comes (reading.read_bytes reading.unread (text ++ piece)) new
comes_fed old new text piece e comes = subst (λ d. Comes d new) (ap (λ d. reading.read_bytes d piece) e ∙ sym (read_bytes-append reading.unread text piece))
    comes

pub piece_feeds : (limit : Option ℕ) (old new : Stage) (text piece : List ℕ) → fault_in old ≡ None → IsStage new → progress_of old
    ≡ reading.read_bytes reading.unread text → IsWithin limit text → HasRoom limit (place_of (progress_of old)) (length piece)
    → Comes (reading.read_bytes (progress_of old) piece) new
    → fed_with (fault_in new) (record { limit = limit; progress = progress_of new; fault = fault_in new }) (text ++ piece)
piece_feeds limit old new text piece going h e within room comes =
    read_feeds limit new (text ++ piece) h (room_within limit (place_of (progress_of old)) text piece (fed_place old text going e) within room)
    (comes_fed old new text piece e comes)

-- a stage that has stopped stays
stays_stopped : (s : Stage) (f : DkFault) (piece : List ℕ) → s ≡ stage.Stopped f → Comes (reading.read_bytes (progress_of s) piece) (stage.Stopped f)
stays_stopped s (fault.Refused p k) piece e = ap (λ (x : Stage). reading.read_bytes (progress_of x) piece) e ∙ read_bytes-Refused
    (reading.refusal p (fault_of k)) piece
stays_stopped s fault.Memory piece e = tt

pub stays_so : (s : Stage) (f : DkFault) (piece : List ℕ) → s ≡ stage.Stopped f → Comes (reading.read_bytes (progress_of s) piece) s
stays_so s f piece e = subst (Comes (reading.read_bytes (progress_of s) piece)) (sym e) (stays_stopped s f piece e)

-- a reader that has stopped within the front of a text is one that was fed the whole
fed_more : (r : Reading) (f : DkFault) (text front back : List ℕ) → r.fault ≡ Some f → IsFed r (text ++ front) → IsFed r (text ++ (front ++ back))
fed_more r (fault.Refused p k) text front back e fed =
    let refuses = subst (λ o. fed_with o r (text ++ front)) e fed in
    subst (λ o. fed_with o r (text ++ (front ++ back))) (sym e)
    (λ more. subst (λ w. Refuses (reading.answer_within r.limit w) p k) (sym (regrouped text front back more)) (refuses (back ++ more)))
fed_more r fault.Memory text front back e fed = subst (λ o. fed_with o r (text ++ (front ++ back))) (sym e) tt

-- a reader that stops where its text goes on past the limit, unless a fault before it has stopped it
module _ (mid new : Reading) (n : ℕ) (stops : mid.fault ≡ None → StopsAs (reading.cut_at n mid.progress) new.fault) (stays : StaysStopped mid new) where
  stops_by : (o : Option DkFault) → mid.fault ≡ o → new.fault ≡ None → ⊥
  stops_by None e h = subst (StopsAs (reading.cut_at n mid.progress)) h (stops e)
  stops_by (Some f) e h = absurd (cc (stays f e, e, h))

  pub stops_there : new.fault ≡ None → ⊥
  stops_there h = stops_by mid.fault refl h

  fed_cut : (o : Option DkFault) (text front back : List ℕ) → new.limit ≡ Some n → length (text ++ front) ≡ n → 1 ≤ length back
      → StopsAs (reading.cut_at n (reading.read_bytes reading.unread (text ++ front))) o → fed_with o new (text ++ (front ++ back))
  fed_cut None text front back limit whole some cut = absurd cut
  fed_cut (Some f) text front back limit whole some cut = cut_feeds new f n text front back limit whole some cut

  fed_by : (o : Option DkFault) (text front back : List ℕ) → mid.fault ≡ o → new.limit ≡ Some n → length (text ++ front) ≡ n → 1 ≤ length back
      → IsFed mid (text ++ front) → IsFed new (text ++ (front ++ back))
  fed_by None text front back e limit whole some fed =
      let read = subst (λ o. fed_with o mid (text ++ front)) e fed in
      fed_cut new.fault text front back limit whole some (subst (λ d. StopsAs (reading.cut_at n d) new.fault) read.0 (stops e))
  fed_by (Some f) text front back e limit whole some fed =
      subst (λ r. IsFed r (text ++ (front ++ back))) (sym (stays f e)) (fed_more mid f text front back e fed)

  pub fed_there : (text front back : List ℕ) → new.limit ≡ Some n → length (text ++ front) ≡ n → 1 ≤ length back → IsFed mid (text ++ front)
      → IsFed new (text ++ (front ++ back))
  fed_there text front back limit whole some fed = fed_by mid.fault text front back refl limit whole some fed

-- the end of a text that ended within the signature's
pub ends_early : (n : ℕ) (wanted : List ℕ) → 0 < length wanted → n < 18446744073709551616
    → Refuses (reading.read_end (reading.Opening n wanted)) n kind.NoPrelude
ends_early n [] h w = absurd (omega arith)
ends_early n (c ∷ wanted) h w = record { r = reading.refusal n reading.NoPrelude; is = refl; place = omega (arith, w); fault = refl }

some_left : (n : ℕ) (xs : List ℕ) → n < length xs → 0 < length (drop n xs)
some_left zero xs h = h
some_left (suc n) [] h = absurd (omega arith)
some_left (suc n) (x ∷ xs) h = some_left n xs (omega (arith, h))

-- a place within it fits 64 bits
prelude-short : length prelude < 18446744073709551616
prelude-short = ltb-true (length prelude) 18446744073709551616 refl

pub opening_ends : (r : Reading) (n : ℕ) (text : List ℕ) → r.progress ≡ reading.Opening n (drop n prelude) → r.fault ≡ None → n < length prelude → IsFed r text
    → Refuses (reading.answer_within r.limit text) n kind.NoPrelude
opening_ends r n text p f h fed =
    let w : n < 18446744073709551616 = omega (arith, h, prelude-short) in
    let going = subst (λ o. fed_with o r text) f fed in
    subst (λ a. Refuses a n kind.NoPrelude) (sym (within_answer r.limit text going.1 ∙ ap reading.read_end (sym going.0 ∙ p)))
    (ends_early n (drop n prelude) (some_left n prelude h) w)

-- a stage under another name
pub comes_as : (a b : reading.Progress) (s : Stage) → a ≡ b → Comes b s → Comes a s
comes_as a b s e h = subst (λ d. Comes d s) (sym e) h

-- a stage that goes on after a piece has gone on by its bytes
pub went_by : (old new : Stage) (piece : List ℕ) → fault_in new ≡ None → Comes (reading.read_bytes (progress_of old) piece) new → place_of (progress_of new)
    ≡ place_of (progress_of old) + length piece
went_by old (stage.Opening n) piece g e = ap place_of (sym e) ∙ bytes_place (progress_of old) piece (subst IsGoing (sym e) tt)
went_by old (stage.Inside t) piece g e = ap place_of (sym e) ∙ bytes_place (progress_of old) piece (subst IsGoing (sym e) tt)
went_by old (stage.Stopped f) piece g e = absurd (cc)
