-- A text is refused for the fault at the least place of those that it shows, and a text that reads as a module shows none.
use Rattle.std.proofs.Common.{inl, inr, ◌≡◌, ℕ, ◌+◌, ◌<◌, refl, sym, ap, ◌∙◌, subst, Bool, true, false, List, [], ◌∷◌, ◌++◌, length, Option, None, Some, arith}
use Rattle.std.specs.Prelude.{◌⊎◌, ◌==◌, if◌then◌else◌}
use Rattle.std.proofs.lemmas.List.{append_assoc, append-nil}
use Rattle.std.proofs.lemmas.Grind.{common_steps}
use Rattle.std.proofs.lemmas.Bool.{eqb-true, ne_eqb}
use Rattle.lp_spec.specs.Trees.{Tree}
use Rattle.lp_spec.specs.Modules.{Declaration}
use Rattle.lp_spec.specs.Text.{prelude}
use Rattle.lp_spec.specs.Tokens.{Token, Placed, at, End, ended, stuck}
use Rattle.lp_spec.specs.Reading.{Reads}
use Rattle.lp_spec.specs.ReadingFaults.{Frame, Head, State, Between, AfterKeyword, AfterName, AtTerm, AfterFirst, InApplication, Outcome, Goes, Stops, Refusal, refusal, NoPrelude, BadText, meaning, advance_all, Answer, reads, refused, answers, broken_after, Refused, opened, read_bytes, read_end, answer}
use Rattle.dk_laws.specs.ReadingLaws.{one_answer, read_bytes-Refused, Reads-answer, answer_is, opening_read}
use Rattle.lp_spec.specs.TextLaws.{ReadsOnce, IsRefused, EachFaultTold}
use Rattle.dk_laws.specs.FaultFollows.{CanFollow}
use Rattle.dk_laws.specs.FaultMoves.{follows-text, text-follows}
use Rattle.lp_spec.specs.Faults.{DeclarationBegins, first, Declared, none_yet, IsText, Differs, tokens_after, TokensShow, bad_token, unknown_name, name_twice, too_deep, Shows, no_prelude, by_tokens, no_token, no_end, IsLeastFault}
use Rattle.dk_laws.specs.FaultReach.{AreAfter, AreAscending, run, Reaches, past, reached}
use Rattle.dk_laws.specs.FaultContexts.{names_of, OfNames, declaration_comes}
use Rattle.dk_laws.specs.FaultLeast.{can-follow, place_of, IsNoLater, no_later, unknown-no-later, twice-no-later, deep-no-later}
use Rattle.dk_laws.specs.FaultStands.{HasRead, Step, goes, shown, cannot, earlier, advance_step, ended_unknown, ended_before}
use Rattle.dk_laws.specs.FaultPlaces.{tokens-ascending}

-- what a reading is refused for is shown by the tokens and stands before their end; what it has come to stands there
abbrev pub IsShown : ℕ → List Placed → Outcome → Type 0
IsShown e all (Stops r) = TokensShow all r × (r.place < e)
IsShown e all (Goes m state) = HasRead all m state []

after_end : (e n : ℕ) (tokens : List Placed) → AreAfter e n tokens → n < e
after_end e n [] h = h
after_end e n (at p token ∷ tokens) h = after_end e n tokens h.1

pub after_front : (e n p : ℕ) (token : Token) (front rest : List Placed) → AreAfter e n (front ++ at p token ∷ rest) → n < p
after_front e n p token [] rest h = h.0
after_front e n p token (at q other ∷ front) rest h = after_front e n p token front rest h.1

snoc_front : (all front rest : List Placed) (p : ℕ) (token : Token) → all ≡ front ++ at p token ∷ rest → all ≡ (front ++ at p token ∷ []) ++ rest
snoc_front all front rest p token h = h ∙ sym (append_assoc front (at p token ∷ []) rest)

module _ (e : ℕ) (all : List Placed) (ascending : AreAscending e all) where
  -- the reading of all tokens
  abbrev read : Outcome
  read = run [] Between all

  step_shown : {o : Outcome} (p : ℕ) (token : Token) (front rest : List Placed) → all ≡ front ++ at p token ∷ rest → p < e → read ≡ advance_all o rest
      → ((m : List Declaration) (state : State) → HasRead all m state rest → read ≡ run m state rest → IsShown e all (run m state rest))
      → Step all p token rest o → IsShown e all (advance_all o rest)
  step_shown p token front rest i b k f (goes {m = m} {state = state} c s) = f m state s k
  step_shown p token front rest i b k f (shown c t) = (t, b)
  step_shown p token front rest i b k f cannot =
      (bad_token front rest token i (λ more h. can-follow e all ascending (text-follows all front rest more p token i h) k), b)
  step_shown p token front rest i b k f (earlier t l) = (t, omega (arith, l, b))

  run_shown : (rest front : List Placed) (m : List Declaration) (state : State) → all ≡ front ++ rest → AreAscending e rest → HasRead all m state rest
      → read ≡ run m state rest → IsShown e all (run m state rest)
  run_shown [] front m state i a s k = s
  run_shown (at p token ∷ rest) front m state i a s k =
      step_shown p token front rest i (after_end e p rest a.0) k
      (λ n t u l. run_shown rest (front ++ at p token ∷ []) n t (snoc_front all front rest p token i) a.1 u l)
      (advance_step e all ascending m state p token rest s)

  pub read_shown : IsShown e all read
  read_shown = run_shown all [] [] Between refl ascending (first, none_yet) refl

  -- a token that can't follow is refused, or something before it
  step_least : {o : Outcome} (p q : ℕ) (end : End) (other : Token) (rest : List Placed) → q < p → read ≡ advance_all o rest
      → ((m : List Declaration) (state : State) → HasRead all m state rest → read ≡ run m state rest → IsNoLater (answers read end) (refusal p BadText))
      → Step all q other rest o → IsNoLater (answers read end) (refusal p BadText)
  step_least p q end other rest l k f (goes {m = m} {state = state} c s) = f m state s k
  step_least p q end other rest l k f (shown {fault = fault} c t) = no_later read (refusal p BadText) (refusal q fault) end k (inl l)
  step_least p q end other rest l k f cannot = no_later read (refusal p BadText) (refusal q BadText) end k (inl l)
  step_least p q end other rest l k f (earlier {q = r} {fault = fault} t i) =
      no_later read (refusal p BadText) (refusal r fault) end k (inl (omega (arith, i, l)))

  bad_least : {o : Outcome} (p : ℕ) (end : End) (token : Token) (rest : List Placed) → (CanFollow all (at p token ∷ rest) → ⊥) → read ≡ advance_all o rest
      → Step all p token rest o → IsNoLater (answers read end) (refusal p BadText)
  bad_least p end token rest b k (goes c s) = absurd (b c)
  bad_least p end token rest b k (shown c t) = absurd (b c)
  bad_least p end token rest b k cannot = no_later read (refusal p BadText) (refusal p BadText) end k (inr refl)
  bad_least p end token rest b k (earlier {q = r} {fault = fault} t i) = no_later read (refusal p BadText) (refusal r fault) end k (inl i)

  run_least : (front rest : List Placed) (p : ℕ) (end : End) (token : Token) (m : List Declaration) (state : State) → (CanFollow all (at p token ∷ rest) → ⊥)
      → AreAscending e (front ++ at p token ∷ rest) → HasRead all m state (front ++ at p token ∷ rest) → read ≡ run m state (front ++ at p token ∷ rest)
      → IsNoLater (answers read end) (refusal p BadText)
  run_least [] rest p end token m state b a s k = bad_least p end token rest b k (advance_step e all ascending m state p token rest s)
  run_least (at q other ∷ front) rest p end token m state b a s k =
      step_least p q end other (front ++ at p token ∷ rest) (after_front e q p token front rest a.0) k
      (λ n t u l. run_least front rest p end token n t b a.1 u l)
      (advance_step e all ascending m state q other (front ++ at p token ∷ rest) s)

  bad-no-later : (front rest : List Placed) (p : ℕ) (end : End) (token : Token) → all ≡ front ++ at p token ∷ rest
      → ((more : List Placed) → IsText (front ++ at p token ∷ more) → ⊥) → IsNoLater (answers read end) (refusal p BadText)
  bad-no-later front rest p end token i b =
      run_least front rest p end token [] Between (λ c. let t = follows-text all front rest p token i c in b t.0 t.1) (subst (AreAscending e) i ascending)
      (subst (λ tokens. DeclarationBegins all [] tokens × Declared all [] tokens) i (first, none_yet)) (ap (λ tokens. run [] Between tokens) i)

  -- where a reading ends that is between no two declarations
  unended : (m : List Declaration) (state : State) → read ≡ Goes m state → (state ≡ Between → ⊥) → IsText all → ⊥
  unended m state k b t = refuted (declaration_comes e all ascending t.1)
    where
      refuted : Reaches read e (OfNames t.0) (λ x. Goes x.m Between) [] → ⊥
      refuted (past r h a) = absurd (cc)
      refuted (reached x h) = b (let same : Goes m state ≡ Goes x.m Between = sym k ∙ h in cc)

-- what a text is refused for it shows
abbrev pub IsAnswerShown : List ℕ → Answer → Type 0
IsAnswerShown bytes (reads m) = Unit {0}
IsAnswerShown bytes (refused r) = Shows bytes r

module _ (bytes text : List ℕ) (begun : bytes ≡ prelude ++ text) where
  abbrev all_tokens : List Placed
  all_tokens = (tokens_after text).tokens

  abbrev last_place : ℕ
  last_place = place_of (tokens_after text).end

  in_order : AreAscending last_place all_tokens
  in_order = tokens-ascending (length prelude) text

  -- after an identifier at the end of the tokens
  first_shown : (m : List Declaration) (h : Head) (frames : List Frame) (q : ℕ) (name : List ℕ) (p : ℕ) (o : Option Tree) → meaning m frames name ≡ o
      → HasRead all_tokens m (AfterFirst h frames q name) [] → Shows bytes (refusal p BadText) → Shows bytes (broken_after q name o p)
  first_shown m h frames q name p None i s b = by_tokens text begun (ended_unknown last_place all_tokens in_order m h frames q name s i)
  first_shown m h frames q name p (Some x) i s b = b

  not_ended : (m : List Declaration) (state : State) (p : ℕ) → run [] Between all_tokens ≡ Goes m state → (state ≡ Between → ⊥)
      → (tokens_after text).end ≡ ended p → Shows bytes (refusal p BadText)
  not_ended m state p k b i = no_end text begun i (unended last_place all_tokens in_order m state k b)

  outcome_shown : (o : Outcome) (end : End) → run [] Between all_tokens ≡ o → (tokens_after text).end ≡ end → IsShown last_place all_tokens o
      → IsAnswerShown bytes (answers o end)
  outcome_shown (Stops r) (ended p) k i s = by_tokens text begun s.0
  outcome_shown (Stops r) (stuck p) k i s = by_tokens text begun s.0
  outcome_shown (Goes m Between) (ended p) k i s = tt
  outcome_shown (Goes m (AfterFirst h frames q name)) (ended p) k i s =
      first_shown m h frames q name p (meaning m frames name) refl s (not_ended m (AfterFirst h frames q name) p k (λ c. absurd (cc)) i)
  outcome_shown (Goes m (AfterKeyword form)) (ended p) k i s = not_ended m (AfterKeyword form) p k (λ c. absurd (cc)) i
  outcome_shown (Goes m (AfterName form name)) (ended p) k i s = not_ended m (AfterName form name) p k (λ c. absurd (cc)) i
  outcome_shown (Goes m (AtTerm h frames)) (ended p) k i s = not_ended m (AtTerm h frames) p k (λ c. absurd (cc)) i
  outcome_shown (Goes m (InApplication h frames f)) (ended p) k i s = not_ended m (InApplication h frames f) p k (λ c. absurd (cc)) i
  outcome_shown (Goes m (AfterFirst h frames q name)) (stuck p) k i s = first_shown m h frames q name p (meaning m frames name) refl s (no_token text begun i)
  outcome_shown (Goes m Between) (stuck p) k i s = no_token text begun i
  outcome_shown (Goes m (AfterKeyword form)) (stuck p) k i s = no_token text begun i
  outcome_shown (Goes m (AfterName form name)) (stuck p) k i s = no_token text begun i
  outcome_shown (Goes m (AtTerm h frames)) (stuck p) k i s = no_token text begun i
  outcome_shown (Goes m (InApplication h frames f)) (stuck p) k i s = no_token text begun i

  -- the answer, by the tokens
  pub answered : answer bytes ≡ answers (run [] Between all_tokens) (tokens_after text).end
  answered = ap answer begun ∙ answer_is text

  text_shown : IsAnswerShown bytes (answer bytes)
  text_shown = subst (IsAnswerShown bytes) (sym answered)
      (outcome_shown (run [] Between all_tokens) (tokens_after text).end refl refl (read_shown last_place all_tokens in_order))

  -- a fault at the end is answered, or one before it
  first_least : (m : List Declaration) (h : Head) (frames : List Frame) (q : ℕ) (name : List ℕ) (p : ℕ) (o : Option Tree) → last_place ≡ p
      → HasRead all_tokens m (AfterFirst h frames q name) [] → IsNoLater (refused (broken_after q name o p)) (refusal p BadText)
  first_least m h frames q name p None i s = inl (subst (λ n. q < n) i (ended_before last_place all_tokens in_order m h frames q name s))
  first_least m h frames q name p (Some x) i s = inr refl

  stuck_least : (o : Outcome) (p : ℕ) → last_place ≡ p → IsShown last_place all_tokens o → IsNoLater (answers o (stuck p)) (refusal p BadText)
  stuck_least (Stops r) p i s = inl (subst (λ n. r.place < n) i s.1)
  stuck_least (Goes m (AfterFirst h frames q name)) p i s = first_least m h frames q name p (meaning m frames name) i s
  stuck_least (Goes m Between) p i s = inr refl
  stuck_least (Goes m (AfterKeyword form)) p i s = inr refl
  stuck_least (Goes m (AfterName form name)) p i s = inr refl
  stuck_least (Goes m (AtTerm h frames)) p i s = inr refl
  stuck_least (Goes m (InApplication h frames f)) p i s = inr refl

  ended_least : (o : Outcome) (p : ℕ) → last_place ≡ p → (IsText all_tokens → ⊥) → IsShown last_place all_tokens o
      → IsNoLater (answers o (ended p)) (refusal p BadText)
  ended_least (Stops r) p i b s = inl (subst (λ n. r.place < n) i s.1)
  ended_least (Goes m (AfterFirst h frames q name)) p i b s = first_least m h frames q name p (meaning m frames name) i s
  ended_least (Goes m Between) p i b s = absurd (b (names_of m, s.0))
  ended_least (Goes m (AfterKeyword form)) p i b s = inr refl
  ended_least (Goes m (AfterName form name)) p i b s = inr refl
  ended_least (Goes m (AtTerm h frames)) p i b s = inr refl
  ended_least (Goes m (InApplication h frames f)) p i b s = inr refl

  by_answer : (r : Refusal) → IsNoLater (answers (run [] Between all_tokens) (tokens_after text).end) r → IsNoLater (answer bytes) r
  by_answer r h = subst (λ a. IsNoLater a r) (sym answered) h

  tokens_least : {r : Refusal} → TokensShow all_tokens r → IsNoLater (answers (run [] Between all_tokens) (tokens_after text).end) r
  tokens_least (bad_token front rest {p = p} token i b) = bad-no-later last_place all_tokens in_order front rest p (tokens_after text).end token i b
  tokens_least (unknown_name a v i b) = unknown-no-later (tokens_after text).end all_tokens in_order a v i b
  tokens_least (name_twice n i) = twice-no-later (tokens_after text).end all_tokens in_order n i
  tokens_least (too_deep w t d) = deep-no-later (tokens_after text).end all_tokens in_order w t d

  pub tokens-no-later : {r : Refusal} → TokensShow all_tokens r → IsNoLater (answer bytes) r
  tokens-no-later {r = r} t = by_answer r (tokens_least t)

  pub no_token-no-later : (p : ℕ) → (tokens_after text).end ≡ stuck p → IsNoLater (answer bytes) (refusal p BadText)
  no_token-no-later p i =
      by_answer (refusal p BadText) (subst (λ end. IsNoLater (answers (run [] Between all_tokens) end) (refusal p BadText)) (sym i)
      (stuck_least (run [] Between all_tokens) p (ap place_of i) (read_shown last_place all_tokens in_order)))

  pub no_end-no-later : (p : ℕ) → (tokens_after text).end ≡ ended p → (IsText all_tokens → ⊥) → IsNoLater (answer bytes) (refusal p BadText)
  no_end-no-later p i b =
      by_answer (refusal p BadText) (subst (λ end. IsNoLater (answers (run [] Between all_tokens) end) (refusal p BadText)) (sym i)
      (ended_least (run [] Between all_tokens) p (ap place_of i) b (read_shown last_place all_tokens in_order)))

-- how far the signature's text begins a text
pub data Opens (bytes : List ℕ) : Type 0 where
  opens : (text : List ℕ) → bytes ≡ prelude ++ text → Opens bytes
  differs : (front wanted rest : List ℕ) → prelude ≡ front ++ wanted → bytes ≡ front ++ rest → Differs wanted rest → Opens bytes

unlike : (b c : ℕ) → (b == c) ≡ false → b ≡ c → ⊥
unlike b c e h = absurd (grind (arith, common_steps, e, h))

opens_step : {bytes : List ℕ} (front : List ℕ) (c : ℕ) (wanted : List ℕ) (b : ℕ) (rest : List ℕ) (same : Bool) → (b == c) ≡ same → prelude ≡ front ++ c ∷ wanted
    → bytes ≡ front ++ b ∷ rest → (prelude ≡ (front ++ c ∷ []) ++ wanted → bytes ≡ (front ++ c ∷ []) ++ rest → Opens bytes) → Opens bytes
opens_step front c wanted b rest true e h k f =
    f (h ∙ sym (append_assoc front (c ∷ []) wanted)) (k ∙ ap (λ a. front ++ a ∷ rest) (eqb-true b c e) ∙ sym (append_assoc front (c ∷ []) rest))
opens_step front c wanted b rest false e h k f = differs front (c ∷ wanted) (b ∷ rest) h k (unlike b c e)

pub opens_by : {bytes : List ℕ} (front wanted rest : List ℕ) → prelude ≡ front ++ wanted → bytes ≡ front ++ rest → Opens bytes
opens_by front [] rest h k = opens rest (k ∙ ap (λ w. w ++ rest) (sym (h ∙ append-nil front)))
opens_by front (c ∷ wanted) [] h k = differs front (c ∷ wanted) [] h k tt
opens_by front (c ∷ wanted) (b ∷ rest) h k = opens_step front c wanted b rest (b == c) refl h k (opens_by (front ++ c ∷ []) wanted rest)

-- the bytes that the signature's text has too
pub front_read : (p : ℕ) (front wanted rest : List ℕ)
    → read_bytes (opened p (front ++ wanted)) (front ++ rest) ≡ read_bytes (opened (p + length front) wanted) rest
front_read p [] wanted rest = ap (λ n. read_bytes (opened n wanted) rest) (omega arith)
front_read p (b ∷ front) wanted rest =
    opening_read p b (front ++ wanted) (front ++ rest)
    ∙ front_read (p + 1) front wanted rest
    ∙ ap (λ n. read_bytes (opened n wanted) rest) (omega arith)

differs_read : (p : ℕ) (wanted rest : List ℕ) → Differs wanted rest → read_end (read_bytes (opened p wanted) rest) ≡ refused (refusal p NoPrelude)
differs_read p [] rest h = absurd h
differs_read p (c ∷ wanted) [] h = refl
differs_read p (c ∷ wanted) (b ∷ rest) h =
    ap (λ (t : Bool). read_end (read_bytes (if t then opened (p + 1) wanted else Refused (refusal p NoPrelude)) rest)) (ne_eqb b c h)
    ∙ ap read_end (read_bytes-Refused (refusal p NoPrelude) rest)

pub differs_answer : (bytes front wanted rest : List ℕ) → prelude ≡ front ++ wanted → bytes ≡ front ++ rest → Differs wanted rest
    → answer bytes ≡ refused (refusal (length front) NoPrelude)
differs_answer bytes front wanted rest h k d =
    ap answer k
    ∙ ap (λ w. read_end (read_bytes (opened 0 w) (front ++ rest))) h
    ∙ ap read_end (front_read 0 front wanted rest)
    ∙ differs_read (0 + length front) wanted rest d
    ∙ ap (λ n. refused (refusal n NoPrelude)) (omega arith)

answer_shown : (bytes : List ℕ) → Opens bytes → IsAnswerShown bytes (answer bytes)
answer_shown bytes (opens text h) = text_shown bytes text h
answer_shown bytes (differs front wanted rest h k d) =
    subst (IsAnswerShown bytes) (sym (differs_answer bytes front wanted rest h k d)) (no_prelude front wanted rest h k d)

-- What a text is refused for it shows.
pub refusals_shown : (bytes : List ℕ) (r : Refusal) → answer bytes ≡ refused r → Shows bytes r
refusals_shown bytes r h = subst (IsAnswerShown bytes) h (answer_shown bytes (opens_by [] prelude bytes refl refl))

-- A text is refused for each fault that it shows, or for one at an earlier place.
pub shown-no-later : (bytes : List ℕ) (r : Refusal) → Shows bytes r → IsNoLater (answer bytes) r
shown-no-later bytes _ (no_prelude front wanted rest h k d) =
    subst (λ a. IsNoLater a (refusal (length front) NoPrelude)) (sym (differs_answer bytes front wanted rest h k d)) (inr refl)
shown-no-later bytes r (by_tokens text h t) = tokens-no-later bytes text h t
shown-no-later bytes _ (no_token text {p = p} h i) = no_token-no-later bytes text h p i
shown-no-later bytes _ (no_end text {p = p} h i b) = no_end-no-later bytes text h p i b

-- Of the faults that a text shows, it is refused for the one at the least place.
pub least_fault : (bytes : List ℕ) (r s : Refusal) → answer bytes ≡ refused r → Shows bytes s → (r.place < s.place) ⊎ (r ≡ s)
least_fault bytes r s h k = subst (λ a. IsNoLater a s) h (shown-no-later bytes s k)

-- A text that reads as a module shows no fault.
pub reading_faultless : (bytes : List ℕ) (m : List Declaration) (r : Refusal) → Reads bytes m → Shows bytes r → ⊥
reading_faultless bytes m r h k = subst (λ a. IsNoLater a r) (Reads-answer bytes m h) (shown-no-later bytes r k)

least_answered : (bytes : List ℕ) (r : Refusal) (a : Answer) → answer bytes ≡ a → IsNoLater a r → IsLeastFault bytes r → a ≡ refused r
least_answered bytes r (reads m) e h l = absurd h
least_answered bytes r (refused s) e (inl h) l = absurd (earlier_no (l.least s (refusals_shown bytes s e)))
  where
    earlier_no : (r.place < s.place) ⊎ (r ≡ s) → ⊥
    earlier_no (inl k) = absurd (omega (arith, h, k))
    earlier_no (inr k) = absurd (omega (arith, h, ap (λ c. c.place) k))
least_answered bytes r (refused s) e (inr h) l = ap refused h

faultless_reads : (bytes : List ℕ) → ReadsOnce bytes ⊎ IsRefused bytes → ((r : Refusal) → Shows bytes r → ⊥) → (m : List Declaration) × Reads bytes m
faultless_reads bytes (inl o) h = (o.m, o.read)
faultless_reads bytes (inr o) h = absurd (h o.r (refusals_shown bytes o.r o.answered))

-- The law of faults.
pub faults-told : EachFaultTold
faults-told bytes =
    record {
      shown = refusals_shown bytes;
      least = least_fault bytes;
      none = reading_faultless bytes;
      told = λ r l. least_answered bytes r (answer bytes) refl (shown-no-later bytes r l.shown) l;
      reading = faultless_reads bytes (one_answer bytes);
    }
