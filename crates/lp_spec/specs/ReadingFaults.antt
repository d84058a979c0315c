-- The faults of a text that reads as no module, each at its place: the first one that a reading from left to right comes to.
-- Source: this reader's own; the grammar is that of the readings.
use Rattle.std.specs.Prelude.{ℕ, ◌+◌, ◌==◌, nat_le, if◌then◌else◌, List, [], ◌∷◌, ◌++◌, length, take, Option, None, Some}
use Rattle.lp_spec.specs.declared.form.Form.{Form}
use Rattle.lp_spec.specs.declared.form.Form.TheVariants.{Symbol, Def, Thm}
use Rattle.lp_spec.specs.Trees.{Tree, SortType, Var, App, Lam, Pi, depth}
use Rattle.lp_spec.specs.Modules.{Declaration, signature}
use Rattle.lp_spec.specs.ModuleOrder.{is_declared}
use Rattle.lp_spec.specs.ShortNames.{named_tree}
use Rattle.lp_spec.specs.Text.{prelude}
use Rattle.lp_spec.specs.Tokens.{Token, Name, TypeWord, DefWord, ThmWord, Colon, Assign, Arrow, FatArrow, Dot, LeftParen, RightParen, Placed, at, End, ended, stuck, Pending, Nothing, InWord, AfterColon, AfterMinus, AfterEquals, Taken, goes, sticks, take_byte, last_tokens, end_at}
use Rattle.lp_spec.specs.Reading.{Scope, variable_of, symbol_of, max_depth}

-- the text doesn't begin as every module does; a token can't follow, or a byte begins none, or a comment or a declaration doesn't end;
-- an identifier names nothing; a declared name is a symbol already; a type or a body is too deep; the text is too long
pub data Fault : Type 0 where
  NoPrelude : Fault
  BadText : Fault
  UnknownName : List ℕ → Fault
  NameTwice : List ℕ → Fault
  DkTooDeep : Fault
  DkTooLong : Fault

-- a fault at its place
pub record Refusal : Type 0 where
  pub place : ℕ
  pub fault : Fault

abbrev pub refusal : ℕ → Fault → Refusal
refusal p fault = record { place = p; fault = fault }

-- what is open round a place in a term, the innermost first: a parenthesis, after what is applied to what it encloses; a binder whose domain
-- is being read; a product or an abstraction whose domain has been read
pub data Frame : Type 0 where
  Enclosing : Option Tree → Frame
  Domain : List ℕ → Frame
  Product : List ℕ → Tree → Frame
  Abstraction : List ℕ → Tree → Frame

-- the names of the binders round a place
abbrev pub scope_of : List Frame → Scope
scope_of [] = []
scope_of (Enclosing f ∷ frames) = scope_of frames
scope_of (Domain name ∷ frames) = scope_of frames
scope_of (Product name a ∷ frames) = name ∷ scope_of frames
scope_of (Abstraction name a ∷ frames) = name ∷ scope_of frames

-- what has been read of the declaration whose term is open: form and name, and for a body the type
pub data Head : Type 0 where
  TypeOf : Form → List ℕ → Head
  BodyOf : Form → List ℕ → Tree → Head

-- where a reading is: between two declarations, after a key word, after a declaration's name, where a term begins,
-- after an identifier that begins a term at this place, or after what the application so far is, if anything
pub data State : Type 0 where
  Between : State
  AfterKeyword : Form → State
  AfterName : Form → List ℕ → State
  AtTerm : Head → List Frame → State
  AfterFirst : Head → List Frame → ℕ → List ℕ → State
  InApplication : Head → List Frame → Option Tree → State

-- a reading goes on after these declarations in this state, or has come to a fault at this place
pub data Outcome : Type 0 where
  Goes : List Declaration → State → Outcome
  Stops : Refusal → Outcome

-- a fault is come to at place p
abbrev pub stops : ℕ → Fault → Outcome
stops p fault = Stops (refusal p fault)

-- the variable or the symbol that an identifier is; a short name is the tree for which it is short
abbrev pub meant : List Declaration → Option ℕ → Option ℕ → Option Tree
meant m (Some n) symbol = Some (Var n)
meant m None (Some s) = Some (named_tree m s)
meant m None None = None

abbrev pub meaning : List Declaration → List Frame → List ℕ → Option Tree
meaning m frames name = meant m (variable_of (scope_of frames) name) (symbol_of m name)

-- a tree after what is applied to it, if anything
abbrev pub argued : Option Tree → Tree → Tree
argued None x = x
argued (Some f) x = App f x

-- the name of a declaration at place p
abbrev pub names : List Declaration → Form → ℕ → List ℕ → Outcome
names m form p name = if is_declared (signature ++ m) name then stops p (NameTwice name) else Goes m (AfterName form name)

-- an atom has been read
abbrev pub atom : List Declaration → Head → List Frame → Option Tree → ℕ → List ℕ → Option Tree → Outcome
atom m head frames f p name None = stops p (UnknownName name)
atom m head frames f p name (Some x) = Goes m (InApplication head frames (Some (argued f x)))

-- a term t ends by a `)` at place p
abbrev pub encloses : List Declaration → Head → List Frame → Tree → ℕ → Outcome
encloses m head [] t p = stops p BadText
encloses m head (Enclosing f ∷ frames) t p = Goes m (InApplication head frames (Some (argued f t)))
encloses m head (Domain name ∷ frames) t p = stops p BadText
encloses m head (Product name a ∷ frames) t p = encloses m head frames (Pi a t) p
encloses m head (Abstraction name a ∷ frames) t p = encloses m head frames (Lam a t) p

-- the type or body of a declaration that a term t ends, where no parenthesis and no domain is open
abbrev pub whole : List Frame → Tree → Option Tree
whole [] t = Some t
whole (Enclosing f ∷ frames) t = None
whole (Domain name ∷ frames) t = None
whole (Product name a ∷ frames) t = whole frames (Pi a t)
whole (Abstraction name a ∷ frames) t = whole frames (Lam a t)

-- what comes after a tree that ends at place p, unless it is too deep
abbrev pub unless_deep : Tree → ℕ → Outcome → Outcome
unless_deep t p outcome = if nat_le (depth t) max_depth then outcome else stops p DkTooDeep

-- a declaration ends by a `.` at place p
abbrev pub declares : List Declaration → Head → Option Tree → ℕ → Outcome
declares m head None p = stops p BadText
declares m (TypeOf Symbol name) (Some t) p = unless_deep t p (Goes (m ++ record { name = name; form = Symbol; ty = t; body = None } ∷ []) Between)
declares m (TypeOf Def name) (Some t) p = stops p BadText
declares m (TypeOf Thm name) (Some t) p = stops p BadText
declares m (BodyOf form name ty) (Some t) p = unless_deep t p (Goes (m ++ record { name = name; form = form; ty = ty; body = Some t } ∷ []) Between)

-- a type ends by a `:=` at place p
abbrev pub assigns : List Declaration → Head → Option Tree → ℕ → Outcome
assigns m head None p = stops p BadText
assigns m (TypeOf Symbol name) (Some t) p = stops p BadText
assigns m (TypeOf Def name) (Some t) p = unless_deep t p (Goes m (AtTerm (BodyOf Def name t) []))
assigns m (TypeOf Thm name) (Some t) p = unless_deep t p (Goes m (AtTerm (BodyOf Thm name t) []))
assigns m (BodyOf form name ty) (Some t) p = stops p BadText

-- an application ends by a `->`: it is the domain of a binder with or without a name
abbrev pub arrow : List Declaration → Head → List Frame → Tree → Outcome
arrow m head (Domain name ∷ frames) a = Goes m (AtTerm head (Product name a ∷ frames))
arrow m head frames a = Goes m (AtTerm head (Product [] a ∷ frames))

-- an application ends by a `=>` at place p
abbrev pub fat_arrow : List Declaration → Head → List Frame → Tree → ℕ → Outcome
fat_arrow m head (Domain name ∷ frames) a p = Goes m (AtTerm head (Abstraction name a ∷ frames))
fat_arrow m head frames a p = stops p BadText

-- the token at place p after what the application so far is, if anything
abbrev pub applies : List Declaration → Head → List Frame → Option Tree → ℕ → Token → Outcome
applies m head frames f p (Name name) = atom m head frames f p name (meaning m frames name)
applies m head frames f p TypeWord = Goes m (InApplication head frames (Some (argued f SortType)))
applies m head frames f p LeftParen = Goes m (AtTerm head (Enclosing f ∷ frames))
applies m head frames (Some t) p RightParen = encloses m head frames t p
applies m head frames (Some t) p Arrow = arrow m head frames t
applies m head frames (Some t) p FatArrow = fat_arrow m head frames t p
applies m head frames (Some t) p Dot = declares m head (whole frames t) p
applies m head frames (Some t) p Assign = assigns m head (whole frames t) p
applies m head frames f p _ = stops p BadText

-- the token at place p after an identifier at place q that is no binder
abbrev pub goes_on : List Declaration → Head → List Frame → ℕ → List ℕ → Option Tree → ℕ → Token → Outcome
goes_on m head frames q name None p token = stops q (UnknownName name)
goes_on m head frames q name (Some x) p token = applies m head frames (Some x) p token

-- the token at place p
abbrev pub advance : List Declaration → State → ℕ → Token → Outcome
advance m Between p (Name name) = names m Symbol p name
advance m Between p DefWord = Goes m (AfterKeyword Def)
advance m Between p ThmWord = Goes m (AfterKeyword Thm)
advance m Between p _ = stops p BadText
advance m (AfterKeyword form) p (Name name) = names m form p name
advance m (AfterKeyword form) p _ = stops p BadText
advance m (AfterName form name) p Colon = Goes m (AtTerm (TypeOf form name) [])
advance m (AfterName form name) p _ = stops p BadText
advance m (AtTerm head frames) p (Name name) = Goes m (AfterFirst head frames p name)
advance m (AtTerm head frames) p token = applies m head frames None p token
advance m (AfterFirst head frames q name) p Colon = Goes m (InApplication head (Domain name ∷ frames) None)
advance m (AfterFirst head frames q name) p token = goes_on m head frames q name (meaning m frames name) p token
advance m (InApplication head frames f) p token = applies m head frames f p token

-- the tokens, each after those before it
abbrev pub advance_all : Outcome → List Placed → Outcome
advance_all (Stops r) tokens = Stops r
advance_all (Goes m state) [] = Goes m state
advance_all (Goes m state) (at p token ∷ tokens) = advance_all (advance m state p token) tokens

-- no token comes at place p after an identifier at place q that means this, if anything
abbrev pub broken_after : ℕ → List ℕ → Option Tree → ℕ → Refusal
broken_after q name None p = refusal q (UnknownName name)
broken_after q name (Some x) p = refusal p BadText

-- no token comes at place p, where a declaration should go on
abbrev pub broken : Outcome → ℕ → Refusal
broken (Stops r) p = r
broken (Goes m (AfterFirst head frames q name)) p = broken_after q name (meaning m frames name) p
broken (Goes m state) p = refusal p BadText

-- a text reads as a module, or it is refused
pub data Answer : Type 0 where
  reads : List Declaration → Answer
  refused : Refusal → Answer

-- the answer where the tokens end: between two declarations they make a module
abbrev pub answers : Outcome → End → Answer
answers (Goes m Between) (ended p) = reads m
answers outcome (ended p) = refused (broken outcome p)
answers outcome (stuck p) = refused (broken outcome p)

-- a reading between two bytes: after so many bytes of the signature's text, before these; inside the text after it, at this place; or at a fault
pub data Progress : Type 0 where
  Opening : ℕ → List ℕ → Progress
  Inside : ℕ → Pending → List Declaration → State → Progress
  Refused : Refusal → Progress

abbrev pub progress : ℕ → Pending → Outcome → Progress
progress p pending (Goes m state) = Inside p pending m state
progress p pending (Stops r) = Refused r

-- a byte before place p did this
abbrev pub after_byte : ℕ → List Declaration → State → Taken → Progress
after_byte p m state (goes tokens pending) = progress p pending (advance_all (Goes m state) tokens)
after_byte p m state (sticks tokens q) = Refused (broken (advance_all (Goes m state) tokens) q)

-- so many bytes of the signature's text have come, and these are to come
abbrev pub opened : ℕ → List ℕ → Progress
opened p [] = Inside p Nothing [] Between
opened p (c ∷ wanted) = Opening p (c ∷ wanted)

-- the next byte
abbrev pub read_byte : Progress → ℕ → Progress
read_byte (Refused r) b = Refused r
read_byte (Opening p []) b = after_byte (p + 1) [] Between (take_byte Nothing p b)
read_byte (Opening p (c ∷ wanted)) b = if b == c then opened (p + 1) wanted else Refused (refusal p NoPrelude)
read_byte (Inside p pending m state) b = after_byte (p + 1) m state (take_byte pending p b)

abbrev pub read_bytes : Progress → List ℕ → Progress
read_bytes done [] = done
read_bytes done (b ∷ bytes) = read_bytes (read_byte done b) bytes

-- the end of the text
abbrev pub read_end : Progress → Answer
read_end (Refused r) = refused r
read_end (Opening p []) = reads []
read_end (Opening p (c ∷ wanted)) = refused (refusal p NoPrelude)
read_end (Inside p pending m state) = answers (advance_all (Goes m state) (last_tokens pending)) (end_at pending p)

-- a text of which nothing has been read
abbrev pub unread : Progress
unread = Opening 0 prelude

-- what a text of any length reads as, or its refusal: the fault at the least place
abbrev pub answer : List ℕ → Answer
answer bytes = read_end (read_bytes unread bytes)

-- the fault at which an outcome stops, and that of a token that can't follow alone
abbrev pub stop_of : Outcome → Option Refusal
stop_of (Stops r) = Some r
stop_of (Goes m state) = None

abbrev pub bad_text : ℕ → Fault → Option Refusal
bad_text p BadText = Some (refusal p BadText)
bad_text p _ = None

abbrev pub bad_text_of : Outcome → Option Refusal
bad_text_of (Stops r) = bad_text r.place r.fault
bad_text_of (Goes m state) = None

-- an identifier at place q that is no binder and means this, if anything
abbrev pub unknown : ℕ → List ℕ → Option Tree → Option Refusal
unknown q name None = Some (refusal q (UnknownName name))
unknown q name (Some x) = None

-- the fault of a word at place p, whichever word it is
abbrev pub any_word : List Declaration → State → ℕ → Option Refusal
any_word m (AfterName form name) p = Some (refusal p BadText)
any_word m (AfterFirst head frames q name) p = unknown q name (meaning m frames name)
any_word m state p = None

-- the fault of a `:` and of a `:=` at place p
abbrev pub any_colon : List Declaration → State → ℕ → Option Refusal
any_colon m (AfterName form name) p = None
any_colon m (AfterFirst head frames q name) p = None
any_colon m state p = bad_text_of (advance m state p Assign)

-- the fault that a token shows whatever it becomes, where the bytes that may be read end in it; a `(` may begin a comment
abbrev pub cut_token : List Declaration → State → Pending → Option Refusal
cut_token m state (InWord p bytes) = any_word m state p
cut_token m state (AfterColon p) = any_colon m state p
cut_token m state (AfterMinus p) = stop_of (advance m state p Arrow)
cut_token m state (AfterEquals p) = stop_of (advance m state p FatArrow)
cut_token m state _ = None

abbrev pub or_too_long : ℕ → Option Refusal → Answer
or_too_long n (Some r) = refused r
or_too_long n None = refused (refusal n DkTooLong)

-- a text of more than n bytes is refused for a fault that its first n bytes show, or else at its byte n + 1
abbrev pub cut_at : ℕ → Progress → Answer
cut_at n (Refused r) = refused r
cut_at n (Opening p wanted) = or_too_long n None
cut_at n (Inside p pending m state) = or_too_long n (cut_token m state pending)

-- what a text reads as under a limit of so many bytes, if there is one
abbrev pub answer_within : Option ℕ → List ℕ → Answer
answer_within None bytes = answer bytes
answer_within (Some n) bytes = if nat_le (length bytes) n then answer bytes else cut_at n (read_bytes unread (take n bytes))
