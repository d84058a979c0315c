-- A reading by numbers of trees and of names, and what it stands for.
use Rattle.std.specs.Prelude.{◌≡◌, ℕ, ◌<◌, ◌≤◌, List, [], ◌∷◌, ◌++◌, length, map, reverse, slice_get, Option, None, Some, option_map, Result, Ok, Err}
use Rattle.lp_spec.specs.Trees.{Tree, Var, Sym}
use Rattle.lp_spec.specs.Modules.{Declaration, signature}
use Rattle.lp_spec.specs.ModuleOrder.{IsModule}
use Rattle.lp_spec.specs.Reading.{Scope}
use Rattle.lp_spec.specs.Tokens as tokens
use Rattle.lp_spec.specs.ReadingFaults as reading
use Rattle.lp_spec.specs.FaultKinds.{fault_of}
use Rattle.dk_laws.specs.ReadingOrder.{IsState}
use Rattle.lp_term.specs.declared.LpId.{LpId}
use Rattle.lp_term.specs.Tables.{tree_at, Holds, Keeps}
use Rattle.holide_sig.specs.declared.module.Module.{Module}
use Rattle.holide_sig.specs.declared.decls.Decl.{Decl}
use Rattle.holide_sig.specs.Modules.{declaration_in, declarations_of, IsHeld}
use Rattle.dk_read.specs.declared.faults.DkFault.{DkFault}
use Rattle.dk_read.specs.declared.faults.DkFault.TheVariants as fault
use Rattle.dk_read.specs.declared.faults.Stop.{Stop}
use Rattle.dk_read.specs.declared.faults.Stop.TheVariants as stop
use Rattle.dk_read.specs.declared.terms.Meaning.{Meaning}
use Rattle.dk_read.specs.declared.terms.Atoms.{Atoms}
use Rattle.dk_read.specs.declared.terms.Frame.{Frame}
use Rattle.dk_read.specs.declared.terms.Frame.TheVariants as frame
use Rattle.dk_read.specs.declared.terms.Binder.{Binder}
use Rattle.dk_read.specs.declared.terms.Binder.TheVariants as binder
use Rattle.dk_read.specs.declared.terms.Head.{Head}
use Rattle.dk_read.specs.declared.terms.Head.TheVariants as head
use Rattle.dk_read.specs.declared.terms.State.{State}
use Rattle.dk_read.specs.declared.terms.State.TheVariants as state
use Rattle.dk_read.specs.declared.terms.Token.{Token}
use Rattle.dk_read.specs.declared.terms.Token.TheVariants as token
use Rattle.dk_read.specs.declared.terms.Word.{Word}
use Rattle.dk_read.specs.declared.terms.Word.TheVariants as word
use Rattle.dk_read.specs.declared.parser.Parser.{Parser}
use Rattle.dk_read.specs.Names.{Named, name_at, looked, bound, IsNameless}
use Rattle.dk_read.specs.Names as naming

-- the tree of a number, if there is one
abbrev pub tree_in : List Tree → Option LpId → Option Tree
tree_in trees id = option_map (λ i. tree_at trees i.0) id

abbrev pub frame_in : List Tree → List Named → Frame → reading.Frame
frame_in trees ns (frame.Enclosing f) = reading.Enclosing (tree_in trees f)
frame_in trees ns (frame.Domain n) = reading.Domain (name_at ns n)
frame_in trees ns (frame.Product n a hidden) = reading.Product (name_at ns n) (tree_at trees a.0)
frame_in trees ns (frame.Abstraction n a hidden) = reading.Abstraction (name_at ns n) (tree_at trees a.0)

abbrev pub frames_in : List Tree → List Named → List Frame → List reading.Frame
frames_in trees ns fs = map (frame_in trees ns) fs

-- what is open, the innermost first
abbrev pub frames_of : Parser → List reading.Frame
frames_of p = frames_in p.module.table p.names (reverse p.frames.items)

-- the names of the binders that are open
abbrev pub scope_of : Parser → Scope
scope_of p = reading.scope_of (frames_of p)

abbrev pub head_in : List Tree → List Named → Head → reading.Head
head_in trees ns (head.TypeOf form n) = reading.TypeOf form (name_at ns n)
head_in trees ns (head.BodyOf form n ty) = reading.BodyOf form (name_at ns n) (tree_at trees ty.0)

abbrev pub head_of : Parser → reading.Head
head_of p = head_in p.module.table p.names p.head

abbrev pub state_in : Parser → State → reading.State
state_in p state.Between = reading.Between
state_in p (state.AfterKeyword form) = reading.AfterKeyword form
state_in p (state.AfterName form n) = reading.AfterName form (name_at p.names n)
state_in p state.AtTerm = reading.AtTerm (head_of p) (frames_of p)
state_in p (state.AfterFirst q n) = reading.AfterFirst (head_of p) (frames_of p) q (name_at p.names n)
state_in p (state.InApplication f) = reading.InApplication (head_of p) (frames_of p) (tree_in p.module.table f)

abbrev pub state_of : Parser → reading.State
state_of p = state_in p p.state

abbrev pub token_in : List Named → Token → tokens.Token
token_in ns (token.Name n) = tokens.Name (name_at ns n)
token_in ns token.TypeWord = tokens.TypeWord
token_in ns token.DefWord = tokens.DefWord
token_in ns token.ThmWord = tokens.ThmWord
token_in ns token.Colon = tokens.Colon
token_in ns token.Assign = tokens.Assign
token_in ns token.Arrow = tokens.Arrow
token_in ns token.FatArrow = tokens.FatArrow
token_in ns token.Dot = tokens.Dot
token_in ns token.LeftParen = tokens.LeftParen
token_in ns token.RightParen = tokens.RightParen

-- the declarations before a token
abbrev pub before : Parser → List Declaration
before p = declarations_of p.module

-- and with the signature's
abbrev pub declared : Parser → List Declaration
declared p = signature ++ before p

-- the tree of a number
abbrev pub tree_of : Parser → LpId → Tree
tree_of p id = tree_at p.module.table id.0

-- what an identifier means, by its number
abbrev pub meaning_in : Parser → ℕ → Option Tree
meaning_in p n = reading.meaning (before p) (frames_of p) (name_at p.names n)

-- a type or a body that ends with this tree, unless a parenthesis or a domain is open
abbrev pub whole_of : Parser → LpId → Option Tree
whole_of p id = reading.whole (frames_of p) (tree_of p id)

-- the reading after an atom, to which the tree before it is applied, if there is one
abbrev pub argued_in : Parser → Option LpId → LpId → reading.Outcome
argued_in p function atom =
    reading.Goes (before p) (reading.InApplication (head_of p) (frames_of p) (Some (reading.argued (tree_in p.module.table function) (tree_of p atom))))

-- the reading after a declaration
abbrev pub goes_after : Parser → Decl → reading.Outcome
goes_after p d = reading.Goes (before p ++ declaration_in p.module.table d ∷ []) reading.Between

-- the reading after a token that comes behind an application so far, if there is one
abbrev pub applies_in : Parser → Option Tree → ℕ → Token → reading.Outcome
applies_in p f place token = reading.applies (before p) (head_of p) (frames_of p) f place (token_in p.names token)

-- the reading after a token that comes behind an identifier that begins a term, at this place
abbrev pub goes_on_in : Parser → ℕ → ℕ → ℕ → Token → reading.Outcome
goes_on_in p first n place token =
    reading.goes_on (before p) (head_of p) (frames_of p) first (name_at p.names n) (meaning_in p n) place (token_in p.names token)

-- the reading after a token
abbrev pub advance_in : Parser → ℕ → Token → reading.Outcome
advance_in p place token = reading.advance (before p) (state_of p) place (token_in p.names token)

-- a number is of the table, where there is one
abbrev pub IsIdKnown : List Tree → Option LpId → Type 0
IsIdKnown trees None = Unit {0}
IsIdKnown trees (Some id) = id.0 < length trees

-- a binder's numbers are known, and what it hides is what its name means outside it
pub record IsBinding (trees : List Tree) (ns : List Named) (ds : List Declaration) (scope : Scope) (n : ℕ) (a : LpId) (hidden : Meaning) : Type 0 where
  pub name : n < length ns
  pub domain : a.0 < length trees
  pub hides : hidden ≡ bound ds scope (name_at ns n)

-- what is known of a frame inside these binders
abbrev pub IsFrameKnown : List Tree → List Named → List Declaration → Scope → Frame → Type 0
IsFrameKnown trees ns ds scope (frame.Enclosing f) = IsIdKnown trees f
IsFrameKnown trees ns ds scope (frame.Domain n) = n < length ns
IsFrameKnown trees ns ds scope (frame.Product n a hidden) = IsBinding trees ns ds scope n a hidden
IsFrameKnown trees ns ds scope (frame.Abstraction n a hidden) = IsBinding trees ns ds scope n a hidden

-- of each frame, the innermost first
abbrev pub AreFramesKnown : List Tree → List Named → List Declaration → List Frame → Type 0
AreFramesKnown trees ns ds [] = Unit {0}
AreFramesKnown trees ns ds (f ∷ fs) = IsFrameKnown trees ns ds (reading.scope_of (frames_in trees ns fs)) f × AreFramesKnown trees ns ds fs

abbrev pub IsHeadKnown : List Tree → List Named → Head → Type 0
IsHeadKnown trees ns (head.TypeOf form n) = n < length ns
IsHeadKnown trees ns (head.BodyOf form n ty) = (n < length ns) × (ty.0 < length trees)

-- a state's numbers are known, and nothing is open between declarations
abbrev pub IsStateKnown : Parser → State → Type 0
IsStateKnown p state.Between = p.frames.items ≡ []
IsStateKnown p (state.AfterKeyword form) = p.frames.items ≡ []
IsStateKnown p (state.AfterName form n) = (n < length p.names) × (p.frames.items ≡ [])
IsStateKnown p state.AtTerm = Unit {0}
IsStateKnown p (state.AfterFirst q n) = n < length p.names
IsStateKnown p (state.InApplication f) = IsIdKnown p.module.table f

abbrev pub IsTokenKnown : List Named → Token → Type 0
IsTokenKnown ns (token.Name n) = n < length ns
IsTokenKnown ns _ = Unit {0}

-- each number of the list is that of the tree that its place has
abbrev pub AreOf : (ℕ → Tree) → List Tree → List LpId → Type 0
AreOf tree trees ids = (n : ℕ) (id : LpId) → slice_get ids n ≡ Some id → Holds trees id.0 (tree n)

-- each number that stands at a place is that of the symbol of that number
abbrev pub AreOfSymbols : List Tree → List (Option LpId) → Type 0
AreOfSymbols trees ids = (n : ℕ) (id : LpId) → slice_get ids n ≡ Some (Some id) → Holds trees id.0 (Sym n)

-- the nodes that are kept are those of the first variables and of symbols, by number
abbrev pub AreAtoms : List Tree → Atoms → Type 0
AreAtoms trees atoms = AreOf Var trees atoms.variables.items × AreOfSymbols trees atoms.symbols.items

-- the numbers of a reading are of its table and of its names, its module is one, and each name means what it does inside the binders that are open
pub record IsSoundIn (m : Module) (ns : List Named) (nameless : ℕ) (kept : Atoms) (binders : ℕ) (h : Head) (fs : List Frame) : Type 0 where
  pub held : IsHeld m
  pub is_module : IsModule (declarations_of m)
  pub frames : AreFramesKnown m.table ns (signature ++ declarations_of m) fs
  pub head : IsHeadKnown m.table ns h
  pub meanings : (x : List ℕ) → looked ns x ≡ bound (signature ++ declarations_of m) (reading.scope_of (frames_in m.table ns fs)) x
  pub empty : IsNameless ns nameless
  pub depth : binders ≡ length (reading.scope_of (frames_in m.table ns fs))
  pub few : binders ≤ length fs
  pub atoms : AreAtoms m.table kept

-- the node of the variable is kept in the new one, if those of all lower numbers were kept
abbrev pub KeepsVariable : Parser → Parser → ℕ → LpId → Type 0
KeepsVariable old new n id = n ≤ length old.atoms.variables.items → slice_get new.atoms.variables.items n ≡ Some id

-- the node of the symbol is kept, if it has a place
abbrev pub KeepsSymbol : Parser → ℕ → LpId → Type 0
KeepsSymbol p n id = n < length p.atoms.symbols.items → slice_get p.atoms.symbols.items n ≡ Some (Some id)

abbrev pub IsSound : Parser → Type 0
IsSound p = IsSoundIn p.module p.names p.nameless p.atoms p.binders p.head (reverse p.frames.items)

-- and so are those of its state
pub record IsReady (p : Parser) : Type 0 where
  pub sound : IsSound p
  pub known : IsStateKnown p p.state

-- and the reading can go on
pub record IsReading (p : Parser) : Type 0 where
  pub ready : IsReady p
  pub ordered : IsState (before p) (state_of p)

-- the table or the names have grown, and nothing else has changed
pub record Grows (old new : Parser) : Type 0 where
  pub keeps : Keeps old.module.table new.module.table
  pub names : naming.Keeps old.names new.names
  pub declared : before new ≡ before old
  pub frames : frames_of new ≡ frames_of old
  pub head : head_of new ≡ head_of old
  pub opened : new.frames.items ≡ old.frames.items
  pub state : new.state ≡ old.state
  pub sound : IsSound old → IsSound new

-- where a stop refuses the text, and for which fault; none for want of memory
abbrev pub refused_by : List Named → Stop → Option reading.Refusal
refused_by ns (stop.BadText p) = Some (reading.refusal p reading.BadText)
refused_by ns (stop.UnknownName p n) = Some (reading.refusal p (reading.UnknownName (name_at ns n)))
refused_by ns (stop.NameTwice p n) = Some (reading.refusal p (reading.NameTwice (name_at ns n)))
refused_by ns (stop.TooDeep p) = Some (reading.refusal p reading.DkTooDeep)
refused_by ns stop.Memory = None

-- the refusal has the property, if there is one
abbrev pub OnRefusal : Option reading.Refusal → (reading.Refusal → Type 0) → Type 0
OnRefusal None P = Unit {0}
OnRefusal (Some r) P = P r

-- the fault that is answered is the stop's; want of memory says nothing
abbrev pub Tells : List Named → Stop → DkFault → Type 0
Tells ns s (fault.Refused p k) = refused_by ns s ≡ Some (reading.refusal p (fault_of k))
Tells ns s fault.Memory = Unit {0}

-- a reading has come to what is said
abbrev pub Becomes : reading.Outcome → Parser → Result (Unit {0}) Stop → Type 0
Becomes outcome p (Ok _) = outcome ≡ reading.Goes (before p) (state_of p)
Becomes outcome p (Err s) = OnRefusal (refused_by p.names s) (λ r. outcome ≡ reading.Stops r)

-- the stop is this refusal
abbrev pub Breaks : reading.Refusal → List Named → Stop → Type 0
Breaks refusal ns s = OnRefusal (refused_by ns s) (λ r. refusal ≡ r)

-- the stop is this refusal, and there is none where there is no stop
abbrev pub MayBreak : Option reading.Refusal → List Named → Option Stop → Type 0
MayBreak refusal ns None = refusal ≡ None
MayBreak refusal ns (Some s) = OnRefusal (refused_by ns s) (λ r. refusal ≡ Some r)

-- the number's tree is what an identifier means, or the identifier means none
abbrev pub Means : Option Tree → ℕ → List ℕ → Parser → Result LpId Stop → Type 0
Means meaning place name p (Ok id) = meaning ≡ Some (tree_at p.module.table id.0)
Means meaning place name p (Err s) = OnRefusal (refused_by p.names s) (λ r. (meaning ≡ None) × (r ≡ reading.refusal place (reading.UnknownName name)))

-- the frame of a binder
abbrev pub bound_frame : List Tree → Binder → List ℕ → reading.Frame
bound_frame trees (binder.Product a) name = reading.Product name (tree_at trees a.0)
bound_frame trees (binder.Abstraction a) name = reading.Abstraction name (tree_at trees a.0)

abbrev pub IsBinderKnown : List Tree → Binder → Type 0
IsBinderKnown trees (binder.Product a) = a.0 < length trees
IsBinderKnown trees (binder.Abstraction a) = a.0 < length trees

-- the innermost of the frames is this binder's
pub record Binds (frames : List reading.Frame) (trees : List Tree) (b : Binder) (outer : List reading.Frame) : Type 0 where
  pub name : List ℕ
  pub is : frames ≡ bound_frame trees b name ∷ outer

-- a frame of no binder whose domain has been read
abbrev pub IsPlain : Frame → Type 0
IsPlain (frame.Product n a hidden) = ⊥
IsPlain (frame.Abstraction n a hidden) = ⊥
IsPlain _ = Unit {0}

-- no product and no abstraction is open at once
abbrev pub IsUnwound : List reading.Frame → Type 0
IsUnwound (reading.Product name a ∷ frames) = ⊥
IsUnwound (reading.Abstraction name a ∷ frames) = ⊥
IsUnwound _ = Unit {0}

-- no domain is open at once
abbrev pub NoDomain : List reading.Frame → Type 0
NoDomain (reading.Domain name ∷ frames) = ⊥
NoDomain _ = Unit {0}

-- what ends a term ends it with the binders whose body it is
pub record Unwinds (frames : List reading.Frame) (t : Tree) (outer : List reading.Frame) (whole : Tree) : Type 0 where
  pub encloses : (m : List Declaration) (head : reading.Head) (p : ℕ) → reading.encloses m head frames t p ≡ reading.encloses m head outer whole p
  pub completes : reading.whole frames t ≡ reading.whole outer whole
  pub unwound : IsUnwound outer

pub record Rewinds (frames : List reading.Frame) (t : Tree) (outer : List reading.Frame) (so_far : Tree) : Type 0 where
  pub encloses : (m : List Declaration) (head : reading.Head) (p : ℕ) → reading.encloses m head frames t p ≡ reading.encloses m head outer so_far p
  pub completes : reading.whole frames t ≡ reading.whole outer so_far

-- no parenthesis is open at once
abbrev pub NoEnclosing : List reading.Frame → Type 0
NoEnclosing (reading.Enclosing f ∷ frames) = ⊥
NoEnclosing _ = Unit {0}

-- a token that is no atom's first
abbrev pub IsSign : Token → Type 0
IsSign (token.Name n) = ⊥
IsSign token.TypeWord = ⊥
IsSign token.LeftParen = ⊥
IsSign _ = Unit {0}

abbrev pub NoColon : Token → Type 0
NoColon token.Colon = ⊥
NoColon _ = Unit {0}

-- the word is this one of the key words, or an identifier
abbrev pub IsWord : List ℕ → Word → Type 0
IsWord bytes word.Type = tokens.word_token bytes ≡ tokens.TypeWord
IsWord bytes word.Def = tokens.word_token bytes ≡ tokens.DefWord
IsWord bytes word.Thm = tokens.word_token bytes ≡ tokens.ThmWord
IsWord bytes word.Identifier = tokens.word_token bytes ≡ tokens.Name bytes
