-- A reading between two bytes, and what it stands for.
use Rattle.std.specs.Prelude.{◌≡◌, ℕ, suc, ◌+◌, ◌≤◌, ◌==◌, min, Bool, if◌then◌else◌, List, [], ◌∷◌, drop, length, Result, Ok, Err}
use Rattle.lp_spec.specs.ModuleOrder.{IsModule}
use Rattle.holide_sig.specs.declared.module.Module.{Module}
use Rattle.holide_sig.specs.Modules.{declarations_of, IsHeld}
use Rattle.lp_spec.specs.declared.fault_kind.DkKind.{DkKind}
use Rattle.lp_spec.specs.Tokens as tokens
use Rattle.lp_term.specs.Tables.{Keeps}
use Rattle.lp_spec.specs.ReadingFaults as reading
use Rattle.dk_read.specs.declared.faults.DkFault.{DkFault}
use Rattle.dk_read.specs.declared.faults.DkFault.TheVariants as fault
use Rattle.dk_read.specs.declared.text.Pending.{Pending}
use Rattle.dk_read.specs.declared.text.Pending.TheVariants as pending
use Rattle.dk_read.specs.declared.text.Text.{Text}
use Rattle.dk_read.specs.declared.faults.Stop.{Stop}
use Rattle.dk_read.specs.declared.terms.Token.{Token}
use Rattle.lp_spec.specs.Modules.{Declaration}
use Rattle.dk_read.specs.States.{before, state_of, refused_by, OnRefusal, token_in, IsTokenKnown, IsReading}
use Rattle.lp_spec.specs.FaultKinds.{fault_of}

-- what is pending, with the bytes of the word that is open, if one is
abbrev pub pending_in : List ℕ → Pending → tokens.Pending
pending_in word pending.Nothing = tokens.Nothing
pending_in word (pending.InWord q) = tokens.InWord q word
pending_in word (pending.AfterColon q) = tokens.AfterColon q
pending_in word (pending.AfterMinus q) = tokens.AfterMinus q
pending_in word (pending.AfterEquals q) = tokens.AfterEquals q
pending_in word (pending.AfterParen q) = tokens.AfterParen q
pending_in word (pending.InComment q) = tokens.InComment q
pending_in word (pending.AfterSemicolon q) = tokens.AfterSemicolon q

-- the same, of a reading
abbrev pub pending_of : Text → tokens.Pending
pending_of t = pending_in t.word.items t.pending

abbrev pub inside : Text → reading.Progress
inside t = reading.Inside t.place (pending_in t.word.items t.pending) (before t.parser) (state_of t.parser)

-- a byte further on, with this pending
abbrev pub a_byte_on : Text → tokens.Pending → reading.Progress
a_byte_on t pending = reading.Inside (t.place + 1) pending (before t.parser) (state_of t.parser)

-- a byte further on, where the tokens that it ends are read
abbrev pub after_byte_in : Text → tokens.Taken → reading.Progress
after_byte_in t taken = reading.after_byte (t.place + 1) (before t.parser) (state_of t.parser) taken

-- and where it ends one token and is read itself
abbrev pub after_token_and_byte : Text → tokens.Placed → ℕ → reading.Progress
after_token_and_byte t token byte = after_byte_in t (tokens.after token (tokens.begins t.place byte))

-- what is answered where the text ends here
abbrev pub answer_at_end : Text → reading.Answer
answer_at_end t =
    reading.answers (reading.advance_all (reading.Goes (before t.parser) (state_of t.parser)) (tokens.last_tokens (pending_of t)))
    (tokens.end_at (pending_of t) t.place)

-- how many bytes a reading holds: those of the identifier or key word that is open
abbrev pub held_of : reading.Progress → ℕ
held_of (reading.Inside p (tokens.InWord q word) m s) = length word
held_of _ = 0

-- a reading has come to what is said of its bytes
abbrev pub Takes : reading.Progress → Text → Result (Unit {0}) Stop → Type 0
Takes progress t (Ok _) = progress ≡ inside t
Takes progress t (Err s) = OnRefusal (refused_by t.parser.names s) (λ r. progress ≡ reading.Refused r)

-- the first n bytes of a piece have been read
pub record TookSome (old : Text) (piece : List ℕ) (new : Text) (n : ℕ) : Type 0 where
  pub some : 1 ≤ n
  pub within : n ≤ length piece
  pub taken : reading.read_bytes (inside old) piece ≡ reading.read_bytes (inside new) (drop n piece)
  pub place : new.place ≡ old.place + n
  pub reading : IsReading new.parser
  pub keeps : Keeps old.parser.module.table new.parser.module.table

-- the first n bytes of a piece, if any, have been read
pub record Passed (old : Text) (piece : List ℕ) (new : Text) (n : ℕ) : Type 0 where
  pub within : n ≤ length piece
  pub taken : reading.read_bytes (inside old) piece ≡ reading.read_bytes (inside new) (drop n piece)
  pub place : new.place ≡ old.place + n
  pub reading : IsReading new.parser
  pub keeps : Keeps old.parser.module.table new.parser.module.table

-- some bytes of a piece have been read, or one of them shows a fault
abbrev pub TakesSome : Text → List ℕ → Text → Result ℕ Stop → Type 0
TakesSome old piece new (Ok n) = TookSome old piece new n
TakesSome old piece new (Err s) = OnRefusal (refused_by new.parser.names s) (λ r. reading.read_bytes (inside old) piece ≡ reading.Refused r)

-- how many bytes at the head pass a test
abbrev pub run : (ℕ → Bool) → List ℕ → ℕ
run test [] = 0
run test (b ∷ bytes) = if test b then suc (run test bytes) else 0

-- the first n bytes of a piece are a sign, which is this token: so they are read, wherever the piece begins
pub record Signs (piece : List ℕ) (n : ℕ) (token : Token) : Type 0 where
  pub some : 1 ≤ n
  pub within : n ≤ length piece
  pub known : IsTokenKnown [] token
  pub goes : (p : ℕ) (m m2 : List Declaration) (s s2 : reading.State) → reading.advance m s p (token_in [] token) ≡ reading.Goes m2 s2
      → reading.read_bytes (reading.Inside p tokens.Nothing m s) piece ≡ reading.read_bytes (reading.Inside (p + n) tokens.Nothing m2 s2) (drop n piece)
  pub stops : (p : ℕ) (m : List Declaration) (s : reading.State) (r : reading.Refusal) → reading.advance m s p (token_in [] token) ≡ reading.Stops r
      → reading.read_bytes (reading.Inside p tokens.Nothing m s) piece ≡ reading.Refused r

-- a refusal as it is answered: a place past what a number holds is the greatest
pub record Refuses (a : reading.Answer) (p : ℕ) (k : DkKind) : Type 0 where
  pub r : reading.Refusal
  pub is : a ≡ reading.refused r
  pub place : p ≡ min r.place 18446744073709551615
  pub fault : fault_of k ≡ r.fault

-- the module is what the text reads as, or the refusal is the text's
abbrev pub Ends : reading.Answer → Result Module DkFault → Type 0
Ends a (Ok m) = (a ≡ reading.reads (declarations_of m)) × IsHeld m × IsModule (declarations_of m)
Ends a (Err (fault.Refused p k)) = Refuses a p k
Ends a (Err fault.Memory) = Unit {0}

-- how many bytes two texts begin with alike
abbrev pub common : List ℕ → List ℕ → ℕ
common (a ∷ x) (b ∷ y) = if a == b then suc (common x y) else 0
common _ _ = 0

-- the tokens that the end of a text ends have been read, or the answer is this refusal
abbrev pub EndsTokens : reading.Answer → Text → Result (Unit {0}) Stop → Type 0
EndsTokens a t (Ok _) = a ≡ reading.answers (reading.Goes (before t.parser) (state_of t.parser)) (tokens.ended t.place)
EndsTokens a t (Err s) = OnRefusal (refused_by t.parser.names s) (λ r. a ≡ reading.refused r)

-- the text has ended and reads as the declarations so far, or the answer is this refusal
abbrev pub Closes : reading.Answer → Text → Result (Unit {0}) Stop → Type 0
Closes a t (Ok _) = a ≡ reading.reads (before t.parser)
Closes a t (Err s) = OnRefusal (refused_by t.parser.names s) (λ r. a ≡ reading.refused r)
