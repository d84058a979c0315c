-- A token that the limit cuts shows its fault whatever bytes follow.
use Rattle.std.proofs.Common.{◌≡◌, ℕ, ◌+◌, refl, ap, ◌∙◌, Bool, true, false, List, [], ◌∷◌, ◌++◌, Option, None, Some, codes}
use Rattle.std.specs.Prelude.{if◌then◌else◌, ◌==◌, nat_le}
use Rattle.std.specs.Str.{bytes_eq}
use Rattle.lp_spec.specs.declared.form.Form.TheVariants.{Symbol, Def, Thm}
use Rattle.lp_spec.specs.Trees.{Tree, depth}
use Rattle.lp_spec.specs.Modules.{Declaration}
use Rattle.lp_spec.specs.Tokens.{Token, Name, TypeWord, DefWord, ThmWord, Colon, Assign, Arrow, FatArrow, at, ended, is_word_byte, word_token, Pending, Nothing, InWord, AfterColon, AfterMinus, AfterEquals, Taken, goes, sticks, begins, after, last_tokens, end_at}
use Rattle.lp_spec.specs.Reading.{max_depth}
use Rattle.lp_spec.specs.ReadingFaults.{Frame, Domain, Head, TypeOf, BodyOf, State, Between, AfterKeyword, AfterName, AtTerm, AfterFirst, InApplication, Outcome, Goes, Stops, stops, Refusal, refusal, BadText, DkTooDeep, meaning, whole, assigns, arrow, fat_arrow, goes_on, advance, advance_all, broken, broken_after, refused, answers, Progress, Inside, Refused, progress, after_byte, read_bytes, read_end, unread, answer, stop_of, bad_text_of, unknown, any_word, any_colon, cut_token}
use Rattle.dk_laws.specs.ReadingLaws.{answers-stuck, read_bytes-Refused, read_bytes-append}

-- an identifier or a key word
abbrev IsWord : Token → Type 0
IsWord (Name name) = Unit {0}
IsWord TypeWord = Unit {0}
IsWord DefWord = Unit {0}
IsWord ThmWord = Unit {0}
IsWord _ = ⊥

word_token-IsWord : (bytes : List ℕ) → IsWord (word_token bytes)
word_token-IsWord bytes = by_tests (bytes_eq bytes (codes "Type")) (bytes_eq bytes (codes "def")) (bytes_eq bytes (codes "thm"))
  where
    by_tests : (b c d : Bool) → IsWord (if b then TypeWord else if c then DefWord else if d then ThmWord else Name bytes)
    by_tests true c d = tt
    by_tests false true d = tt
    by_tests false false true = tt
    by_tests false false false = tt

-- a `->` ends any application
arrow_goes : (m : List Declaration) (head : Head) (frames : List Frame) (t : Tree) → stop_of (arrow m head frames t) ≡ None
arrow_goes m head (Domain name ∷ frames) t = refl
arrow_goes m head _ t = refl

-- and a `=>` one in the domain of a binder
fat_arrow_breaks : (m : List Declaration) (head : Head) (frames : List Frame) (t : Tree) (p : ℕ) (r : Refusal) → stop_of (fat_arrow m head frames t p) ≡ Some r
    → refusal p BadText ≡ r
fat_arrow_breaks m head (Domain name ∷ frames) t p r h = absurd (cc)
fat_arrow_breaks m head _ t p r h = cc

-- a token after an identifier, and a sign that can't follow it
module _ (m : List Declaration) (head : Head) (frames : List Frame) (q : ℕ) (name : List ℕ) (p : ℕ) (r : Refusal) where
  unknown_stops : (token : Token) (o : Option Tree) → unknown q name o ≡ Some r → goes_on m head frames q name o p token ≡ Stops r
  unknown_stops token None h = cc
  unknown_stops token (Some x) h = absurd (cc)

  first_arrow : (o : Option Tree) → stop_of (goes_on m head frames q name o p Arrow) ≡ Some r → broken_after q name o p ≡ r
  first_arrow None h = cc
  first_arrow (Some x) h = absurd (cc (h, arrow_goes m head frames x))

  first_fat_arrow : (o : Option Tree) → stop_of (goes_on m head frames q name o p FatArrow) ≡ Some r → broken_after q name o p ≡ r
  first_fat_arrow None h = cc
  first_fat_arrow (Some x) h = fat_arrow_breaks m head frames x p r h

-- any word stops a reading where none can follow
word_stops : (m : List Declaration) (state : State) (p : ℕ) (token : Token) (r : Refusal) → IsWord token → any_word m state p ≡ Some r
    → advance m state p token ≡ Stops r
word_stops m (AfterName form name) p (Name other) r w h = cc
word_stops m (AfterName form name) p TypeWord r w h = cc
word_stops m (AfterName form name) p DefWord r w h = cc
word_stops m (AfterName form name) p ThmWord r w h = cc
word_stops m (AfterName form name) p _ r w h = absurd w
word_stops m (AfterFirst head frames q name) p (Name other) r w h = unknown_stops m head frames q name p r (Name other) (meaning m frames name) h
word_stops m (AfterFirst head frames q name) p TypeWord r w h = unknown_stops m head frames q name p r TypeWord (meaning m frames name) h
word_stops m (AfterFirst head frames q name) p DefWord r w h = unknown_stops m head frames q name p r DefWord (meaning m frames name) h
word_stops m (AfterFirst head frames q name) p ThmWord r w h = unknown_stops m head frames q name p r ThmWord (meaning m frames name) h
word_stops m (AfterFirst head frames q name) p _ r w h = absurd w
word_stops m _ p token r w h = absurd (cc)

-- a tree that may be too deep is no token that can't follow
deep_stops : (p : ℕ) (m : List Declaration) (state : State) (r : Refusal) (b : Bool) → bad_text_of (if b then Goes m state else stops p DkTooDeep) ≡ Some r → ⊥
deep_stops p m state r true h = absurd (cc)
deep_stops p m state r false h = absurd (cc)

assigns_stops : (m : List Declaration) (head : Head) (t : Option Tree) (p : ℕ) (r : Refusal) → bad_text_of (assigns m head t p) ≡ Some r
    → (stops p BadText ≡ Stops r) × (assigns m head t p ≡ Stops r)
assigns_stops m head None p r h = (cc, cc)
assigns_stops m (TypeOf Symbol name) (Some t) p r h = (cc, cc)
assigns_stops m (TypeOf Def name) (Some t) p r h = absurd (deep_stops p m (AtTerm (BodyOf Def name t) []) r (nat_le (depth t) max_depth) h)
assigns_stops m (TypeOf Thm name) (Some t) p r h = absurd (deep_stops p m (AtTerm (BodyOf Thm name t) []) r (nat_le (depth t) max_depth) h)
assigns_stops m (BodyOf form name ty) (Some t) p r h = (cc, cc)

-- a `:` and a `:=` stop a reading where neither can follow
colon_stops : (m : List Declaration) (state : State) (p : ℕ) (r : Refusal) → any_colon m state p ≡ Some r
    → (advance m state p Colon ≡ Stops r) × (advance m state p Assign ≡ Stops r)
colon_stops m Between p r h = (cc, cc)
colon_stops m (AfterKeyword form) p r h = (cc, cc)
colon_stops m (AfterName form name) p r h = absurd (cc)
colon_stops m (AtTerm head frames) p r h = (cc, cc)
colon_stops m (AfterFirst head frames q name) p r h = absurd (cc)
colon_stops m (InApplication head frames None) p r h = (cc, cc)
colon_stops m (InApplication head frames (Some t)) p r h = assigns_stops m head (whole frames t) p r h

-- an outcome at which a reading stops
stop_of-Stops : (o : Outcome) (r : Refusal) → stop_of o ≡ Some r → o ≡ Stops r
stop_of-Stops (Stops s) r h = cc
stop_of-Stops (Goes m state) r h = absurd (cc)

-- where a `->` can't follow, a `-` alone is refused as it is
minus_breaks : (m : List Declaration) (state : State) (p : ℕ) (r : Refusal) → stop_of (advance m state p Arrow) ≡ Some r → broken (Goes m state) p ≡ r
minus_breaks m (AfterFirst head frames q name) p r h = first_arrow m head frames q name p r (meaning m frames name) h
minus_breaks m (InApplication head frames (Some t)) p r h = absurd (cc (h, arrow_goes m head frames t))
minus_breaks m Between p r h = cc
minus_breaks m (AfterKeyword form) p r h = cc
minus_breaks m (AfterName form name) p r h = cc
minus_breaks m (AtTerm head frames) p r h = cc
minus_breaks m (InApplication head frames None) p r h = cc

-- and where a `=>` can't follow, a `=`
equals_breaks : (m : List Declaration) (state : State) (p : ℕ) (r : Refusal) → stop_of (advance m state p FatArrow) ≡ Some r → broken (Goes m state) p ≡ r
equals_breaks m (AfterFirst head frames q name) p r h = first_fat_arrow m head frames q name p r (meaning m frames name) h
equals_breaks m (InApplication head frames (Some t)) p r h = fat_arrow_breaks m head frames t p r h
equals_breaks m Between p r h = cc
equals_breaks m (AfterKeyword form) p r h = cc
equals_breaks m (AfterName form name) p r h = cc
equals_breaks m (AtTerm head frames) p r h = cc
equals_breaks m (InApplication head frames None) p r h = cc

-- a reading that goes on by these bytes is refused so
abbrev IsRefused : Progress → Refusal → List ℕ → Type 0
IsRefused done r more = read_end (read_bytes done more) ≡ refused r

refused_end : (done : Progress) (r : Refusal) (more : List ℕ) → done ≡ Refused r → IsRefused done r more
refused_end done r more h = ap (λ d. read_end (read_bytes d more)) h ∙ ap read_end (read_bytes-Refused r more)

module _ (m : List Declaration) (state : State) (r : Refusal) where
  -- a reading in which this is pending, and one where a byte before place n did this
  abbrev IsCutAt : ℕ → Pending → List ℕ → Type 0
  IsCutAt n pending more = IsRefused (Inside n pending m state) r more

  abbrev IsTaken : ℕ → Taken → List ℕ → Type 0
  IsTaken n taken more = IsRefused (after_byte n m state taken) r more

  -- a token that stops the reading does so whatever the byte behind it begins
  after_stops : (n q : ℕ) (token : Token) (taken : Taken) (more : List ℕ) → advance m state q token ≡ Stops r → IsTaken n (after (at q token) taken) more
  after_stops n q token (goes tokens pending) more h =
      refused_end (after_byte n m state (goes (at q token ∷ tokens) pending)) r more (ap (λ o. progress n pending (advance_all o tokens)) h)
  after_stops n q token (sticks tokens p) more h =
      refused_end (after_byte n m state (sticks (at q token ∷ tokens) p)) r more (ap (λ o. Refused (broken (advance_all o tokens) p)) h)

  sign_stops : (n q : ℕ) (token : Token) (more : List ℕ) → advance m state q token ≡ Stops r → IsTaken n (goes (at q token ∷ []) Nothing) more
  sign_stops n q token more h = refused_end (after_byte n m state (goes (at q token ∷ []) Nothing)) r more (ap (λ o. progress n Nothing (advance_all o [])) h)

  -- a word
  module _ (q : ℕ) (h : any_word m state q ≡ Some r) where
    stops_by : (bytes : List ℕ) → advance m state q (word_token bytes) ≡ Stops r
    stops_by bytes = word_stops m state q (word_token bytes) r (word_token-IsWord bytes) h

    word_byte : (n : ℕ) (bytes longer : List ℕ) (taken : Taken) (t : Bool) (more : List ℕ) → IsCutAt n (InWord q longer) more
        → IsTaken n (if t then goes [] (InWord q longer) else after (at q (word_token bytes)) taken) more
    word_byte n bytes longer taken true more k = k
    word_byte n bytes longer taken false more k = after_stops n q (word_token bytes) taken more (stops_by bytes)

    word_always : (n : ℕ) (bytes more : List ℕ) → IsCutAt n (InWord q bytes) more
    word_always n bytes [] = ap (λ o. answers (advance_all o []) (ended n)) (stops_by bytes)
    word_always n bytes (b ∷ more) = word_byte (n + 1) bytes (bytes ++ b ∷ []) (begins n b) (is_word_byte b) more (word_always (n + 1) (bytes ++ b ∷ []) more)

  -- a `:`
  module _ (q : ℕ) (h : any_colon m state q ≡ Some r) where
    colon_byte : (n : ℕ) (taken : Taken) (t : Bool) (more : List ℕ) → IsTaken n (if t then goes (at q Assign ∷ []) Nothing else after (at q Colon) taken) more
    colon_byte n taken true more = sign_stops n q Assign more (colon_stops m state q r h).1
    colon_byte n taken false more = after_stops n q Colon taken more (colon_stops m state q r h).0

    colon_always : (n : ℕ) (more : List ℕ) → IsCutAt n (AfterColon q) more
    colon_always n [] = ap (λ o. answers (advance_all o []) (ended n)) (colon_stops m state q r h).0
    colon_always n (b ∷ more) = colon_byte (n + 1) (begins n b) (b == 61) more

  -- a `-`, or a `=`, and the byte behind it
  sign_byte : (n q : ℕ) (token : Token) (t : Bool) (more : List ℕ) → stop_of (advance m state q token) ≡ Some r → broken (Goes m state) q ≡ r
      → IsTaken n (if t then goes (at q token ∷ []) Nothing else sticks [] q) more
  sign_byte n q token true more h k = sign_stops n q token more (stop_of-Stops (advance m state q token) r h)
  sign_byte n q token false more h k = refused_end (after_byte n m state (sticks [] q)) r more (ap Refused k)

  minus_always : (n q : ℕ) (more : List ℕ) → stop_of (advance m state q Arrow) ≡ Some r → IsCutAt n (AfterMinus q) more
  minus_always n q [] h = answers-stuck (Goes m state) q ∙ ap refused (minus_breaks m state q r h)
  minus_always n q (b ∷ more) h = sign_byte (n + 1) q Arrow (b == 62) more h (minus_breaks m state q r h)

  equals_always : (n q : ℕ) (more : List ℕ) → stop_of (advance m state q FatArrow) ≡ Some r → IsCutAt n (AfterEquals q) more
  equals_always n q [] h = answers-stuck (Goes m state) q ∙ ap refused (equals_breaks m state q r h)
  equals_always n q (b ∷ more) h = sign_byte (n + 1) q FatArrow (b == 62) more h (equals_breaks m state q r h)

  cut_always : (n : ℕ) (pending : Pending) (more : List ℕ) → cut_token m state pending ≡ Some r → IsCutAt n pending more
  cut_always n (InWord q bytes) more h = word_always q h n bytes more
  cut_always n (AfterColon q) more h = colon_always q h n more
  cut_always n (AfterMinus q) more h = minus_always n q more h
  cut_always n (AfterEquals q) more h = equals_always n q more h
  cut_always n _ more h = absurd (cc)

-- What a cut token shows is answered whatever bytes follow.
pub cut_token-answer : (bytes : List ℕ) (n : ℕ) (pending : Pending) (m : List Declaration) (state : State) (r : Refusal)
    → read_bytes unread bytes ≡ Inside n pending m state
    → cut_token m state pending ≡ Some r → (more : List ℕ) → answer (bytes ++ more) ≡ refused r
cut_token-answer bytes n pending m state r e h more =
    ap read_end (read_bytes-append unread bytes more ∙ ap (λ done. read_bytes done more) e) ∙ cut_always m state r n pending more h

-- an outcome that stops
goes_no : (o : Outcome) (r : Refusal) (c : List Declaration) (d : State) → o ≡ Stops r → advance_all o [] ≡ Goes c d → ⊥
goes_no (Goes m state) r c d h k = absurd (cc)
goes_no (Stops s) r c d h k = absurd (cc)

-- And where the text ends with it, the text is stuck, or its tokens are refused.
pub cut_token-stops : (n : ℕ) (pending : Pending) (m : List Declaration) (state : State) (r : Refusal) (q : ℕ) (c : List Declaration) (d : State)
    → cut_token m state pending ≡ Some r
    → end_at pending n ≡ ended q → advance_all (Goes m state) (last_tokens pending) ≡ Goes c d → ⊥
cut_token-stops n (InWord o word) m state r q c d h i k = goes_no (advance m state o (word_token word)) r c d (stops_by m state r o h word) k
cut_token-stops n (AfterColon o) m state r q c d h i k = goes_no (advance m state o Colon) r c d (colon_stops m state o r h).0 k
cut_token-stops n (AfterMinus o) m state r q c d h i k = absurd (cc)
cut_token-stops n (AfterEquals o) m state r q c d h i k = absurd (cc)
cut_token-stops n _ m state r q c d h i k = absurd (cc)
