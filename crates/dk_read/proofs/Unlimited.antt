-- No text is too long by itself.
use Rattle.std.proofs.Common.{ℕ, ◌+◌, Bool, true, false, List, [], ◌∷◌, ◌++◌, Option, None, Some}
use Rattle.std.specs.Prelude.{◌==◌, nat_le, if◌then◌else◌}
use Rattle.lp_spec.specs.declared.form.Form.{Form}
use Rattle.lp_spec.specs.declared.form.Form.TheVariants.{Symbol, Def, Thm}
use Rattle.lp_spec.specs.Trees.{Tree, Pi, Lam, depth}
use Rattle.lp_spec.specs.Modules.{Declaration, signature}
use Rattle.lp_spec.specs.ModuleOrder.{is_declared}
use Rattle.lp_spec.specs.Tokens.{Token, Name, TypeWord, DefWord, ThmWord, Colon, Assign, Arrow, FatArrow, Dot, LeftParen, RightParen, Placed, at, End, ended, stuck, Pending, Nothing, Taken, goes, sticks, take_byte, last_tokens, end_at}
use Rattle.lp_spec.specs.Reading.{max_depth}
use Rattle.lp_spec.specs.ReadingFaults.{Fault, NameTwice, NoPrelude, DkTooDeep, DkTooLong, refusal, Frame, Enclosing, Domain, Product, Abstraction, Head, TypeOf, BodyOf, State, Between, AfterKeyword, AfterName, AtTerm, AfterFirst, InApplication, Outcome, Goes, Stops, stops, meaning, atom, encloses, whole, declares, assigns, arrow, fat_arrow, applies, goes_on, advance, advance_all, broken_after, broken, Answer, reads, refused, answers, Progress, Opening, Inside, Refused, progress, after_byte, opened, read_byte, read_bytes, read_end, unread, answer}

-- a fault that a text has whatever the limit is
abbrev pub IsOfText : Fault → Type 0
IsOfText DkTooLong = ⊥
IsOfText _ = Unit {0}

abbrev StopsByText : Outcome → Type 0
StopsByText (Goes m state) = Unit {0}
StopsByText (Stops r) = IsOfText r.fault

abbrev IsByText : Progress → Type 0
IsByText (Refused r) = IsOfText r.fault
IsByText _ = Unit {0}

abbrev pub AnswersByText : Answer → Type 0
AnswersByText (reads m) = Unit {0}
AnswersByText (refused r) = IsOfText r.fault

named : (b : Bool) (m : List Declaration) (form : Form) (p : ℕ) (name : List ℕ)
    → StopsByText (if b then stops p (NameTwice name) else Goes m (AfterName form name))
named true m form p name = tt
named false m form p name = tt

shallow : (b : Bool) (m : List Declaration) (state : State) (p : ℕ) → StopsByText (if b then Goes m state else stops p DkTooDeep)
shallow true m state p = tt
shallow false m state p = tt

module _ (m : List Declaration) where
  meant_text : (head : Head) (frames : List Frame) (f : Option Tree) (p : ℕ) (name : List ℕ) (o : Option Tree) → StopsByText (atom m head frames f p name o)
  meant_text head frames f p name None = tt
  meant_text head frames f p name (Some x) = tt

  encloses_text : (head : Head) (frames : List Frame) (t : Tree) (p : ℕ) → StopsByText (encloses m head frames t p)
  encloses_text head [] t p = tt
  encloses_text head (Enclosing f ∷ frames) t p = tt
  encloses_text head (Domain name ∷ frames) t p = tt
  encloses_text head (Product name a ∷ frames) t p = encloses_text head frames (Pi a t) p
  encloses_text head (Abstraction name a ∷ frames) t p = encloses_text head frames (Lam a t) p

  arrow_text : (head : Head) (frames : List Frame) (a : Tree) → StopsByText (arrow m head frames a)
  arrow_text head (Domain name ∷ frames) a = tt
  arrow_text head _ a = tt

  fat_arrow_text : (head : Head) (frames : List Frame) (a : Tree) (p : ℕ) → StopsByText (fat_arrow m head frames a p)
  fat_arrow_text head (Domain name ∷ frames) a p = tt
  fat_arrow_text head _ a p = tt

  declares_text : (head : Head) (o : Option Tree) (p : ℕ) → StopsByText (declares m head o p)
  declares_text head None p = tt
  declares_text (TypeOf Symbol name) (Some t) p = shallow (nat_le (depth t) max_depth) (m ++ record { name = name; form = Symbol; ty = t; body = None } ∷ [])
      Between p
  declares_text (TypeOf Def name) (Some t) p = tt
  declares_text (TypeOf Thm name) (Some t) p = tt
  declares_text (BodyOf form name ty) (Some t) p =
      shallow (nat_le (depth t) max_depth) (m ++ record { name = name; form = form; ty = ty; body = Some t } ∷ []) Between p

  assigns_text : (head : Head) (o : Option Tree) (p : ℕ) → StopsByText (assigns m head o p)
  assigns_text head None p = tt
  assigns_text (TypeOf Symbol name) (Some t) p = tt
  assigns_text (TypeOf Def name) (Some t) p = shallow (nat_le (depth t) max_depth) m (AtTerm (BodyOf Def name t) []) p
  assigns_text (TypeOf Thm name) (Some t) p = shallow (nat_le (depth t) max_depth) m (AtTerm (BodyOf Thm name t) []) p
  assigns_text (BodyOf form name ty) (Some t) p = tt

  applies_text : (head : Head) (frames : List Frame) (f : Option Tree) (p : ℕ) (token : Token) → StopsByText (applies m head frames f p token)
  applies_text head frames f p (Name name) = meant_text head frames f p name (meaning m frames name)
  applies_text head frames f p TypeWord = tt
  applies_text head frames f p LeftParen = tt
  applies_text head frames (Some t) p RightParen = encloses_text head frames t p
  applies_text head frames (Some t) p Arrow = arrow_text head frames t
  applies_text head frames (Some t) p FatArrow = fat_arrow_text head frames t p
  applies_text head frames (Some t) p Dot = declares_text head (whole frames t) p
  applies_text head frames (Some t) p Assign = assigns_text head (whole frames t) p
  applies_text head frames f p _ = tt

  first_text : (head : Head) (frames : List Frame) (q : ℕ) (name : List ℕ) (o : Option Tree) (p : ℕ) (token : Token)
      → StopsByText (goes_on m head frames q name o p token)
  first_text head frames q name None p token = tt
  first_text head frames q name (Some x) p token = applies_text head frames (Some x) p token

  advance_text : (state : State) (p : ℕ) (token : Token) → StopsByText (advance m state p token)
  advance_text Between p (Name name) = named (is_declared (signature ++ m) name) m Symbol p name
  advance_text Between p DefWord = tt
  advance_text Between p ThmWord = tt
  advance_text Between p _ = tt
  advance_text (AfterKeyword form) p (Name name) = named (is_declared (signature ++ m) name) m form p name
  advance_text (AfterKeyword form) p _ = tt
  advance_text (AfterName form name) p Colon = tt
  advance_text (AfterName form name) p _ = tt
  advance_text (AtTerm head frames) p (Name name) = tt
  advance_text (AtTerm head frames) p token = applies_text head frames None p token
  advance_text (AfterFirst head frames q name) p Colon = tt
  advance_text (AfterFirst head frames q name) p token = first_text head frames q name (meaning m frames name) p token
  advance_text (InApplication head frames f) p token = applies_text head frames f p token

advance_all_text : (o : Outcome) (tokens : List Placed) → StopsByText o → StopsByText (advance_all o tokens)
advance_all_text (Stops r) tokens h = h
advance_all_text (Goes m state) [] h = h
advance_all_text (Goes m state) (at p token ∷ tokens) h = advance_all_text (advance m state p token) tokens (advance_text m state p token)

broken_after_text : (q : ℕ) (name : List ℕ) (o : Option Tree) (p : ℕ) → IsOfText (broken_after q name o p).fault
broken_after_text q name None p = tt
broken_after_text q name (Some x) p = tt

broken_text : (o : Outcome) (p : ℕ) → StopsByText o → IsOfText (broken o p).fault
broken_text (Stops r) p h = h
broken_text (Goes m (AfterFirst head frames q name)) p h = broken_after_text q name (meaning m frames name) p
broken_text (Goes m _) p h = tt

progress_text : (p : ℕ) (pending : Pending) (o : Outcome) → StopsByText o → IsByText (progress p pending o)
progress_text p pending (Goes m state) h = tt
progress_text p pending (Stops r) h = h

after_byte_text : (p : ℕ) (m : List Declaration) (state : State) (taken : Taken) → IsByText (after_byte p m state taken)
after_byte_text p m state (goes tokens pending) = progress_text p pending (advance_all (Goes m state) tokens) (advance_all_text (Goes m state) tokens tt)
after_byte_text p m state (sticks tokens q) = broken_text (advance_all (Goes m state) tokens) q (advance_all_text (Goes m state) tokens tt)

opened_text : (p : ℕ) (wanted : List ℕ) → IsByText (opened p wanted)
opened_text p [] = tt
opened_text p (c ∷ wanted) = tt

opening_text : (same : Bool) (p : ℕ) (wanted : List ℕ) → IsByText (if same then opened (p + 1) wanted else Refused (refusal p NoPrelude))
opening_text true p wanted = opened_text (p + 1) wanted
opening_text false p wanted = tt

byte_text : (done : Progress) (b : ℕ) → IsByText done → IsByText (read_byte done b)
byte_text (Refused r) b h = h
byte_text (Opening p []) b h = after_byte_text (p + 1) [] Between (take_byte Nothing p b)
byte_text (Opening p (c ∷ wanted)) b h = opening_text (b == c) p wanted
byte_text (Inside p pending m state) b h = after_byte_text (p + 1) m state (take_byte pending p b)

bytes_text : (done : Progress) (bytes : List ℕ) → IsByText done → IsByText (read_bytes done bytes)
bytes_text done [] h = h
bytes_text done (b ∷ bytes) h = bytes_text (read_byte done b) bytes (byte_text done b h)

answers_text : (o : Outcome) (end : End) → StopsByText o → AnswersByText (answers o end)
answers_text (Stops r) (ended p) h = h
answers_text (Stops r) (stuck p) h = h
answers_text (Goes m Between) (ended p) h = tt
answers_text (Goes m Between) (stuck p) h = tt
answers_text (Goes m (AfterFirst head frames q name)) (ended p) h = broken_after_text q name (meaning m frames name) p
answers_text (Goes m (AfterFirst head frames q name)) (stuck p) h = broken_after_text q name (meaning m frames name) p
answers_text (Goes m _) (ended p) h = tt
answers_text (Goes m _) (stuck p) h = tt

end_text : (done : Progress) → IsByText done → AnswersByText (read_end done)
end_text (Refused r) h = h
end_text (Opening p []) h = tt
end_text (Opening p (c ∷ wanted)) h = tt
end_text (Inside p pending m state) h = answers_text (advance_all (Goes m state) (last_tokens pending)) (end_at pending p)
    (advance_all_text (Goes m state) (last_tokens pending) tt)

-- whatever a text is refused for, it is not its length
pub answer_text : (bytes : List ℕ) → AnswersByText (answer bytes)
answer_text bytes = end_text (read_bytes unread bytes) (bytes_text unread bytes tt)
