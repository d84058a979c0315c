-- Where a token that the limit cuts may still go on well, no fault is shown up to the limit whatever bytes follow.
use Rattle.std.proofs.Common.{inl, inr, ◌≡◌, ℕ, ◌+◌, ◌<◌, ◌≤◌, refl, sym, ap, ◌∙◌, subst, Bool, true, false, List, [], ◌∷◌, ◌++◌, length, Option, None, Some, codes, arith}
use Rattle.std.specs.Prelude.{◌⊎◌, if◌then◌else◌, nat_le}
use Rattle.std.specs.Str.{bytes_eq}
use Rattle.std.proofs.lemmas.List.{append_cancel_left}
use Rattle.std.proofs.lemmas.Bool.{false_from_ne_true}
use Rattle.std.proofs.lemmas.Slice.Eq.{bytes_eq-Decides}
use Rattle.lp_spec.specs.declared.form.Form.{Form}
use Rattle.lp_spec.specs.declared.form.Form.TheVariants.{Symbol, Def, Thm}
use Rattle.lp_spec.specs.Trees.{Tree, depth}
use Rattle.lp_spec.specs.Modules.{Declaration, signature}
use Rattle.lp_spec.specs.ModuleOrder.{is_declared}
use Rattle.lp_spec.specs.Text.{prelude}
use Rattle.lp_spec.specs.Tokens.{Token, Name, TypeWord, DefWord, ThmWord, Arrow, FatArrow, Placed, at, End, ended, stuck, word_token, Pending, Nothing, InWord, AfterColon, AfterMinus, AfterEquals, AfterParen, InComment, AfterSemicolon, goes, scan}
use Rattle.lp_spec.specs.Reading.{max_depth}
use Rattle.lp_spec.specs.ReadingFaults.{Frame, Domain, Head, TypeOf, BodyOf, State, Between, AfterKeyword, AfterName, AtTerm, AfterFirst, InApplication, Outcome, Goes, Stops, stops, Refusal, refusal, Fault, NoPrelude, BadText, UnknownName, NameTwice, DkTooDeep, meaning, atom, whole, assigns, goes_on, advance, advance_all, broken_after, Answer, reads, refused, answers, Progress, Opening, Inside, progress, read_bytes, read_end, unread, answer, stop_of, bad_text_of, unknown, any_word, any_colon, cut_token}
use Rattle.lp_spec.specs.Faults.{tokens_after, TokensShow, bad_token, unknown_name, name_twice, too_deep, Shows, no_prelude, by_tokens, no_token, no_end}
use Rattle.dk_laws.specs.ReadingLaws.{prelude_read, read_bytes-append}
use Rattle.dk_laws.specs.FaultReach.{AreAscending, IsKept, run}
use Rattle.dk_laws.specs.FaultContexts.{name_keeps, atom_stands_keeps}
use Rattle.dk_laws.specs.FaultLeast.{place_of, IsNoLater, answers-Stops, deep-Stops}
use Rattle.dk_laws.specs.FaultPlaces.{tokens-ascending}
use Rattle.dk_laws.specs.FaultLaws.{answered, after_front, shown-no-later, differs_answer}
use Rattle.dk_laws.specs.CutScans.{IsScanned, inside_scanned}

-- an answer is no refusal at a place up to n
abbrev IsPast : ℕ → Answer → Type 0
IsPast n (reads m) = Unit {0}
IsPast n (refused r) = n < r.place

no_later-IsPast : (n : ℕ) (a : Answer) (s : Refusal) → IsPast n a → IsNoLater a s → n < s.place
no_later-IsPast n (reads m) s h k = absurd k
no_later-IsPast n (refused r) s h (inl k) = omega (arith, h, k)
no_later-IsPast n (refused r) s h (inr k) = subst (λ (c : Refusal). n < c.place) k h

-- a reading can go on so that it isn't refused at a place up to n
record GoesOn (n : ℕ) (done : Progress) : Type 0 where
  more : List ℕ
  past : IsPast n (read_end (read_bytes done more))

goes_on_by : (n : ℕ) (done : Progress) (front : List ℕ) → GoesOn n (read_bytes done front) → GoesOn n done
goes_on_by n done front h = record { more = front ++ h.more; past = subst (λ d. IsPast n (read_end d)) (sym (read_bytes-append done front h.more)) h.past }

-- after an identifier by a `:`, and else by a blank
nothing_goes_on : (n p : ℕ) (m : List Declaration) (state : State) → n ≤ p → GoesOn n (Inside p Nothing m state)
nothing_goes_on n p m (AfterFirst head frames q name) l = record { more = codes ": "; past = omega (arith, l) }
nothing_goes_on n p m Between l = record { more = codes " "; past = tt }
nothing_goes_on n p m (AfterKeyword form) l = record { more = codes " "; past = omega (arith, l) }
nothing_goes_on n p m (AfterName form name) l = record { more = codes " "; past = omega (arith, l) }
nothing_goes_on n p m (AtTerm head frames) l = record { more = codes " "; past = omega (arith, l) }
nothing_goes_on n p m (InApplication head frames f) l = record { more = codes " "; past = omega (arith, l) }

-- by the end of the comment
comment_goes_on : (n q : ℕ) (m : List Declaration) (state : State) → GoesOn n (Inside n (InComment q) m state)
comment_goes_on n q m state = goes_on_by n (Inside n (InComment q) m state) (codes ";)") (nothing_goes_on n (n + 1 + 1) m state (omega arith))

semicolon_goes_on : (n q : ℕ) (m : List Declaration) (state : State) → GoesOn n (Inside n (AfterSemicolon q) m state)
semicolon_goes_on n q m state = goes_on_by n (Inside n (AfterSemicolon q) m state) (codes ";)") (nothing_goes_on n (n + 1 + 1) m state (omega arith))

-- a comment may come of a `(`
paren_goes_on : (n q : ℕ) (m : List Declaration) (state : State) → GoesOn n (Inside n (AfterParen q) m state)
paren_goes_on n q m state = goes_on_by n (Inside n (AfterParen q) m state) (codes ";;)") (nothing_goes_on n (n + 1 + 1 + 1) m state (omega arith))

-- by a token that doesn't stop the reading
outcome_goes_on : (n p : ℕ) (o : Outcome) → n ≤ p → stop_of o ≡ None → GoesOn n (progress p Nothing (advance_all o []))
outcome_goes_on n p (Goes m state) l h = nothing_goes_on n p m state l
outcome_goes_on n p (Stops r) l h = absurd (cc)

minus_goes_on : (n q : ℕ) (m : List Declaration) (state : State) → stop_of (advance m state q Arrow) ≡ None → GoesOn n (Inside n (AfterMinus q) m state)
minus_goes_on n q m state h = goes_on_by n (Inside n (AfterMinus q) m state) (codes ">") (outcome_goes_on n (n + 1) (advance m state q Arrow) (omega arith) h)

equals_goes_on : (n q : ℕ) (m : List Declaration) (state : State) → stop_of (advance m state q FatArrow) ≡ None → GoesOn n (Inside n (AfterEquals q) m state)
equals_goes_on n q m state h = goes_on_by n (Inside n (AfterEquals q) m state) (codes ">")
    (outcome_goes_on n (n + 1) (advance m state q FatArrow) (omega arith) h)

-- by the rest of the signature's text
opening_goes_on : (n p : ℕ) (wanted : List ℕ) → GoesOn n (Opening p wanted)
opening_goes_on n p [] = record { more = []; past = tt }
opening_goes_on n p (c ∷ wanted) = record { more = (c ∷ wanted) ++ []; past = subst (λ d. IsPast n (read_end d)) (sym (prelude_read p (c ∷ wanted) [])) tt }

-- what a fault tells of a token: its name, or that it can't follow
abbrev told : Fault → Option (List ℕ)
told (UnknownName name) = Some name
told (NameTwice name) = Some name
told BadText = Some []
told _ = None

-- an answer is past n, or a refusal at place q that tells this
data EndsAt (n q : ℕ) (x : Option (List ℕ)) : Answer → Type 0 where
  past : {a : Answer} → IsPast n a → EndsAt n q x a
  here : {fault : Fault} → told fault ≡ x → EndsAt n q x (refused (refusal q fault))

-- an identifier at place q, where a text ends at place p
module _ (n q p : ℕ) (later : n < p) (name : List ℕ) where
  abbrev NameEnds : Outcome → Type 0
  NameEnds o = EndsAt n q (Some name) (answers (advance_all o []) (ended p))

  names_end : (m : List Declaration) (form : Form) (b : Bool) → NameEnds (if b then stops q (NameTwice name) else Goes m (AfterName form name))
  names_end m form true = here refl
  names_end m form false = past later

  first_end : (o : Option Tree) → EndsAt n q (Some name) (refused (broken_after q name o p))
  first_end None = here refl
  first_end (Some x) = past later

  atom_end : (m : List Declaration) (head : Head) (frames : List Frame) (f o : Option Tree) → NameEnds (atom m head frames f q name o)
  atom_end m head frames f None = here refl
  atom_end m head frames f (Some x) = past later

  second_end : (m : List Declaration) (head : Head) (frames : List Frame) (o : ℕ) (first : List ℕ) (x : Option Tree) → unknown o first x ≡ None
      → NameEnds (goes_on m head frames o first x q (Name name))
  second_end m head frames o first None h = absurd (cc)
  second_end m head frames o first (Some x) h = atom_end m head frames (Some x) (meaning m frames name)

  -- where an identifier can follow it is refused for its name, if at all
  identifier_end : (m : List Declaration) (state : State) → any_word m state q ≡ None → NameEnds (advance m state q (Name name))
  identifier_end m Between h = names_end m Symbol (is_declared (signature ++ m) name)
  identifier_end m (AfterKeyword form) h = names_end m form (is_declared (signature ++ m) name)
  identifier_end m (AfterName form other) h = absurd (cc)
  identifier_end m (AtTerm head frames) h = first_end (meaning m frames name)
  identifier_end m (AfterFirst head frames o first) h = second_end m head frames o first (meaning m frames first) h
  identifier_end m (InApplication head frames f) h = atom_end m head frames f (meaning m frames name)

-- a `:=` at place q, where a text ends with it: it ends a type, which may be too deep
module _ (n q : ℕ) (m : List Declaration) where
  abbrev AssignEnds : Outcome → Type 0
  AssignEnds o = EndsAt n q None (read_end (progress (n + 1) Nothing (advance_all o [])))

  deep_end : (head : Head) (b : Bool) → AssignEnds (if b then Goes m (AtTerm head []) else stops q DkTooDeep)
  deep_end head true = past (omega arith)
  deep_end head false = here refl

  assign_end : (head : Head) (t : Option Tree) → bad_text_of (assigns m head t q) ≡ None → AssignEnds (assigns m head t q)
  assign_end head None h = absurd (cc)
  assign_end (TypeOf Symbol name) (Some t) h = absurd (cc)
  assign_end (TypeOf Def name) (Some t) h = deep_end (BodyOf Def name t) (nat_le (depth t) max_depth)
  assign_end (TypeOf Thm name) (Some t) h = deep_end (BodyOf Thm name t) (nat_le (depth t) max_depth)
  assign_end (BodyOf form name ty) (Some t) h = absurd (cc)

abbrev last_byte : List ℕ → ℕ
last_byte [] = 0
last_byte (b ∷ []) = b
last_byte (b ∷ c ∷ bytes) = last_byte (c ∷ bytes)

last_byte-snoc : (bytes : List ℕ) (b : ℕ) → last_byte (bytes ++ b ∷ []) ≡ b
last_byte-snoc [] b = refl
last_byte-snoc (a ∷ []) b = refl
last_byte-snoc (a ∷ c ∷ bytes) b = last_byte-snoc (c ∷ bytes) b

-- a word that ends by `x` or by `y` is no key word
module _ (bytes : List ℕ) (b : ℕ) (end : 119 < b) where
  other_word : (word : List ℕ) → last_byte word < 119 → bytes_eq (bytes ++ b ∷ []) word ≡ false
  other_word word h =
      false_from_ne_true (bytes_eq (bytes ++ b ∷ []) word)
      (λ e. absurd (omega (arith, end, h, last_byte-snoc bytes b, ap last_byte ((bytes_eq-Decides (bytes ++ b ∷ []) word).0 e))))

  word_by : {c d e : Bool} → c ≡ false → d ≡ false → e ≡ false
      → (if c then TypeWord else if d then DefWord else if e then ThmWord else Name (bytes ++ b ∷ [])) ≡ Name (bytes ++ b ∷ [])
  word_by {d = d} {e = e} i j w =
      ap (λ (t : Bool). if t then TypeWord else if d then DefWord else if e then ThmWord else Name (bytes ++ b ∷ [])) i
      ∙ ap (λ (t : Bool). if t then DefWord else if e then ThmWord else Name (bytes ++ b ∷ [])) j
      ∙ ap (λ (t : Bool). if t then ThmWord else Name (bytes ++ b ∷ [])) w

  word_token-Name : word_token (bytes ++ b ∷ []) ≡ Name (bytes ++ b ∷ [])
  word_token-Name = word_by (other_word (codes "Type") (omega arith)) (other_word (codes "def") (omega arith)) (other_word (codes "thm") (omega arith))

  word_end : (n q : ℕ) (m : List Declaration) (state : State) → any_word m state q ≡ None
      → EndsAt n q (Some (bytes ++ b ∷ [])) (answers (advance_all (advance m state q (word_token (bytes ++ b ∷ []))) []) (ended (n + 1)))
  word_end n q m state h =
      subst (λ t. EndsAt n q (Some (bytes ++ b ∷ [])) (answers (advance_all (advance m state q t) []) (ended (n + 1)))) (sym word_token-Name)
      (identifier_end n q (n + 1) (omega arith) (bytes ++ b ∷ []) m state h)

some-injective : (v w : List ℕ) → Some v ≡ Some w → v ≡ w
some-injective v w e = cc

unlike_names : (bytes : List ℕ) → Some (bytes ++ codes "x") ≡ Some (bytes ++ codes "y") → ⊥
unlike_names bytes h = absurd
    (omega (arith, ap last_byte (append_cancel_left bytes (codes "x") (codes "y") (some-injective (bytes ++ codes "x") (bytes ++ codes "y") h))))

-- the bytes behind place n end one token, and the text ends
abbrev EndsToken : ℕ → Pending → List ℕ → ℕ → Token → Type 0
EndsToken n pending more q token = scan (goes [] pending) n more ≡ record { tokens = at q token ∷ []; end = ended (n + 1) }

-- a cut token goes on well, or two tokens that it may become are refused, if at all, for two faults
data Passes (n : ℕ) (pending : Pending) (m : List Declaration) (state : State) : Type 0 where
  passes : GoesOn n (Inside n pending m state) → Passes n pending m state
  forks : {q : ℕ} {token : Token} {x y : Option (List ℕ)} (one two : List ℕ) → EndsToken n pending one q token → (x ≡ y → ⊥)
      → EndsAt n q x (read_end (read_bytes (Inside n pending m state) one)) → EndsAt n q y (read_end (read_bytes (Inside n pending m state) two))
      → Passes n pending m state

-- a `:`, or a `:=`
colon_passes : (n q : ℕ) (m : List Declaration) (state : State) → any_colon m state q ≡ None → Passes n (AfterColon q) m state
colon_passes n q m (AfterName form name) h =
    passes (goes_on_by n (Inside n (AfterColon q) m (AfterName form name)) (codes " ")
    (nothing_goes_on n (n + 1) m (AtTerm (TypeOf form name) []) (omega arith)))
colon_passes n q m (AfterFirst head frames o name) h =
    passes (goes_on_by n (Inside n (AfterColon q) m (AfterFirst head frames o name)) (codes " ")
    (nothing_goes_on n (n + 1) m (InApplication head (Domain name ∷ frames) None) (omega arith)))
colon_passes n q m (InApplication head frames (Some t)) h =
    forks (codes "=") (codes " ") refl (λ e. absurd (cc)) (assign_end n q m head (whole frames t) h) (here {fault = BadText} refl)
colon_passes n q m _ h = absurd (cc)

-- where a cut token shows nothing
token_passes : (n : ℕ) (pending : Pending) (m : List Declaration) (state : State) → cut_token m state pending ≡ None → Passes n pending m state
token_passes n Nothing m state h = passes (nothing_goes_on n n m state (omega arith))
token_passes n (InWord q bytes) m state h = forks (codes "x") (codes "y") refl (unlike_names bytes) (word_end bytes 120 (omega arith) n q m state h)
    (word_end bytes 121 (omega arith) n q m state h)
token_passes n (AfterColon q) m state h = colon_passes n q m state h
token_passes n (AfterMinus q) m state h = passes (minus_goes_on n q m state h)
token_passes n (AfterEquals q) m state h = passes (equals_goes_on n q m state h)
token_passes n (AfterParen q) m state h = passes (paren_goes_on n q m state)
token_passes n (InComment q) m state h = passes (comment_goes_on n q m state)
token_passes n (AfterSemicolon q) m state h = passes (semicolon_goes_on n q m state)

-- places up to q
abbrev AreUpTo : ℕ → List Placed → Type 0
AreUpTo q [] = Unit {0}
AreUpTo q (at p token ∷ tokens) = (p ≤ q) × AreUpTo q tokens

up_to_kept : (q : ℕ) → IsKept (AreUpTo q)
up_to_kept q = record { tail = λ p token tokens h. h.1 }

ascending_up_to : (e q : ℕ) (token : Token) (front : List Placed) → AreAscending e (front ++ at q token ∷ []) → AreUpTo q (front ++ at q token ∷ [])
ascending_up_to e q token [] a = (omega arith, tt)
ascending_up_to e q token (at p other ∷ front) a = (omega (arith, after_front e p q token front [] a.0), ascending_up_to e q token front a.1)

up_to_front : (q p : ℕ) (token : Token) (front rest : List Placed) → AreUpTo q (front ++ at p token ∷ rest) → p ≤ q
up_to_front q p token [] rest h = h.0
up_to_front q p token (at o other ∷ front) rest h = up_to_front q p token front rest h.1

pub refused-injective : (r s : Refusal) → refused r ≡ refused s → r ≡ s
refused-injective r s h = cc

-- a fault of tokens is at the place of one of them, or it is the answer
tokens_up_to : {all : List Placed} {s : Refusal} (q : ℕ) (fault : Fault) (end : End) → AreUpTo q all
    → answers (run [] Between all) end ≡ refused (refusal q fault)
    → TokensShow all s → s.place ≤ q
tokens_up_to q fault end u a (bad_token front rest {p = p} token i b) = up_to_front q p token front rest (subst (AreUpTo q) i u)
tokens_up_to q fault end u a (unknown_name x v i b) = (atom_stands_keeps (up_to_kept q) u x).0
tokens_up_to q fault end u a (name_twice x i) = (name_keeps (up_to_kept q) u x).0
tokens_up_to {all = all} q fault end u a (too_deep {p = p} w t d) =
    let deep : answers (run [] Between all) end ≡ refused (refusal p DkTooDeep) =
    answers-Stops (run [] Between all) (refusal p DkTooDeep) end (deep-Stops w t d) in
    omega (arith, ap (λ c. c.place) (refused-injective (refusal p DkTooDeep) (refusal q fault) (sym deep ∙ a)))

ended-injective : (o p : ℕ) → ended o ≡ ended p → o ≡ p
ended-injective o p h = cc

-- a reading of the first bytes of a text, in which a token is pending
module _ (bytes : List ℕ) (n : ℕ) (pending : Pending) (m : List Declaration) (state : State) (h : read_bytes unread bytes ≡ Inside n pending m state) where
  inside_answer : (more : List ℕ) → answer (bytes ++ more) ≡ read_end (read_bytes (Inside n pending m state) more)
  inside_answer more = ap read_end (read_bytes-append unread bytes more ∙ ap (λ d. read_bytes d more) h)

  -- where the bytes behind it end that token alone
  module _ (more : List ℕ) (q : ℕ) (token : Token) (last : EndsToken n pending more q token) where
    module _ (text : List ℕ) (i : bytes ++ more ≡ prelude ++ text) where
      found : IsScanned n pending m state more (tokens_after text) (Goes [] Between)
      found = inside_scanned bytes n pending m state h more text i

      end_is : (tokens_after text).end ≡ ended (n + 1)
      end_is = ap (λ s. s.end) found.is ∙ ap (λ s. s.end) last

      tokens_are : (tokens_after text).tokens ≡ found.front ++ at q token ∷ []
      tokens_are = ap (λ s. s.tokens) found.is ∙ ap (λ s. found.front ++ s.tokens) last

      all_up_to : AreUpTo q (tokens_after text).tokens
      all_up_to =
          let e = place_of (tokens_after text).end in
          subst (AreUpTo q) (sym tokens_are)
          (ascending_up_to e q token found.front (subst (AreAscending e) tokens_are (tokens-ascending (length prelude) text)))

    -- and the text is refused for that token, another fault is at the token's place or before it, or at the end
    late_shown : (fault : Fault) (s : Refusal) → answer (bytes ++ more) ≡ refused (refusal q fault) → q < s.place → Shows (bytes ++ more) s → n < s.place
    late_shown fault _ a l (no_prelude front wanted rest i k d) =
        let two : refused (refusal q fault) ≡ refused (refusal (length front) NoPrelude) = sym a ∙ differs_answer (bytes ++ more) front wanted rest i k d in
        absurd (omega (arith, l, ap (λ c. c.place) (refused-injective (refusal q fault) (refusal (length front) NoPrelude) two)))
    late_shown fault s a l (by_tokens text i t) = absurd
        (omega (arith, l, tokens_up_to q fault (tokens_after text).end (all_up_to text i) (sym (answered (bytes ++ more) text i) ∙ a) t))
    late_shown fault _ a l (no_token text {p = o} i k) = absurd (let two : stuck o ≡ ended (n + 1) = sym k ∙ end_is text i in cc)
    late_shown fault _ a l (no_end text {p = o} i k b) = omega (arith, ended-injective o (n + 1) (sym k ∙ end_is text i))

-- a text shows this fault whatever bytes follow
abbrev pub ShowsSo : List ℕ → Refusal → Type 0
ShowsSo bytes s = (more : List ℕ) → Shows (bytes ++ more) s

-- such a fault
module _ (bytes : List ℕ) (n : ℕ) (s : Refusal) (always : ShowsSo bytes s) where
  no_later_by : (more : List ℕ) (a : Answer) → answer (bytes ++ more) ≡ a → IsNoLater a s
  no_later_by more a e = subst (λ w. IsNoLater w s) e (shown-no-later (bytes ++ more) s (always more))

  -- is past n, where the reading can go on
  goes_on_past : (done : Progress) → read_bytes unread bytes ≡ done → GoesOn n done → n < s.place
  goes_on_past done e g =
      no_later-IsPast n (read_end (read_bytes done g.more)) s g.past
      (no_later_by g.more (read_end (read_bytes done g.more)) (ap read_end (read_bytes-append unread bytes g.more ∙ ap (λ d. read_bytes d g.more) e)))

  -- and where two refusals for one token differ
  fork_past : (q : ℕ) (x y : Option (List ℕ)) (one two : List ℕ) (a b : Answer) → (x ≡ y → ⊥) → answer (bytes ++ one) ≡ a → answer (bytes ++ two) ≡ b
      → EndsAt n q x a → EndsAt n q y b → ((fault : Fault) → a ≡ refused (refusal q fault) → q < s.place → n < s.place) → n < s.place
  fork_past q x y one two a b unlike e f (past i) w g = no_later-IsPast n a s i (no_later_by one a e)
  fork_past q x y one two a b unlike e f w (past i) g = no_later-IsPast n b s i (no_later_by two b f)
  fork_past q x y one two _ _ unlike e f (here {fault = c} i) (here {fault = d} j) g =
      by_order (no_later_by one (refused (refusal q c)) e) (no_later_by two (refused (refusal q d)) f)
    where
      by_order : (q < s.place) ⊎ (refusal q c ≡ s) → (q < s.place) ⊎ (refusal q d ≡ s) → n < s.place
      by_order (inl k) l = g c refl k
      by_order (inr k) (inl l) = absurd (omega (arith, l, ap (λ w. w.place) k))
      by_order (inr k) (inr l) = absurd (unlike (sym i ∙ ap (λ w. told w.fault) (k ∙ sym l) ∙ j))

  passes_past : (pending : Pending) (m : List Declaration) (state : State) → read_bytes unread bytes ≡ Inside n pending m state → Passes n pending m state
      → n < s.place
  passes_past pending m state h (passes g) = goes_on_past (Inside n pending m state) h g
  passes_past pending m state h (forks {q = q} {token = token} {x = x} {y = y} one two last unlike v w) =
      let after = read_end (read_bytes (Inside n pending m state) one) in
      fork_past q x y one two after (read_end (read_bytes (Inside n pending m state) two)) unlike (inside_answer bytes n pending m state h one)
      (inside_answer bytes n pending m state h two) v w
      (λ fault a l. late_shown bytes n pending m state h one q token last fault s (inside_answer bytes n pending m state h one ∙ a) l (always one))

-- Where a cut token shows nothing, no fault is shown at a place up to the limit whatever bytes follow.
pub cut_token-past : (bytes : List ℕ) (n : ℕ) (s : Refusal) (pending : Pending) (m : List Declaration) (state : State)
    → read_bytes unread bytes ≡ Inside n pending m state
    → cut_token m state pending ≡ None → ShowsSo bytes s → n < s.place
cut_token-past bytes n s pending m state e h always = passes_past bytes n s always pending m state e (token_passes n pending m state h)

-- Nor is one where the signature's text is cut.
pub opening-past : (bytes : List ℕ) (n : ℕ) (s : Refusal) (p : ℕ) (wanted : List ℕ) → read_bytes unread bytes ≡ Opening p wanted → ShowsSo bytes s → n < s.place
opening-past bytes n s p wanted e always = goes_on_past bytes n s always (Opening p wanted) e (opening_goes_on n p wanted)
