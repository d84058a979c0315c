-- What texts obey, as statements, proved in the crate dk_laws: every text has one answer and is refused for its least fault, the lines of the prelude say the types of
-- the signature, and what is written of a module reads as that module alone.
use Rattle.std.specs.Prelude.{◌≡◌, ℕ, ◌<◌, ◌≤◌, true, List, [], ◌∷◌, ◌++◌, length, codes, Option, None, Some, ◌⊎◌}
use Rattle.std.specs.List.{list_all}
use Rattle.lp_spec.specs.Trees.{Tree, Var, Pi, lift, depth}
use Rattle.lp_spec.specs.Modules.{Declaration, signature, symbol, types, arr_of, term_of}
use Rattle.lp_spec.specs.ModuleOrder.{IsModule}
use Rattle.lp_spec.specs.Text.{Line, SymbolLine, RewrittenLine, RuleLine, prelude_lines, prelude, binder_name, written}
use Rattle.lp_spec.specs.ShortNames.{AreLong}
use Rattle.lp_spec.specs.Tokens.{Name, is_letter, is_word_byte, word_token}
use Rattle.lp_spec.specs.Reading.{max_depth, Reads}
use Rattle.lp_spec.specs.ReadingFaults.{Refusal, reads, refused, answer, answer_within}
use Rattle.lp_spec.specs.Faults.{Shows, IsLeastFault, ShowsWithin, IsLeastWithin}

-- a text reads as one module and has no refusal
pub record ReadsOnce (bytes : List ℕ) : Type 0 where
  pub m : List Declaration
  pub read : Reads bytes m
  pub only : (other : List Declaration) → Reads bytes other → other ≡ m
  pub answered : answer bytes ≡ reads m

-- a text has one refusal and reads as no module
pub record IsRefused (bytes : List ℕ) : Type 0 where
  pub r : Refusal
  pub unread : (m : List Declaration) → Reads bytes m → ⊥
  pub answered : answer bytes ≡ refused r

-- The law of readings: every text has exactly one answer.
abbrev pub OneAnswer : Type 0
OneAnswer = (bytes : List ℕ) → ReadsOnce bytes ⊎ IsRefused bytes

-- The law of faults: a text is refused for a fault that it shows, the one at the least place, and for each such fault; a text that reads as
-- a module shows none, and one that shows none reads as a module.
pub record FaultsTold (bytes : List ℕ) : Type 0 where
  pub shown : (r : Refusal) → answer bytes ≡ refused r → Shows bytes r
  pub least : (r other : Refusal) → answer bytes ≡ refused r → Shows bytes other → (r.place < other.place) ⊎ (r ≡ other)
  pub none : (m : List Declaration) (r : Refusal) → Reads bytes m → Shows bytes r → ⊥
  pub told : (r : Refusal) → IsLeastFault bytes r → answer bytes ≡ refused r
  pub reading : ((r : Refusal) → Shows bytes r → ⊥) → (m : List Declaration) × Reads bytes m

abbrev pub EachFaultTold : Type 0
EachFaultTold = (bytes : List ℕ) → FaultsTold bytes

-- The law of limits: under a limit of its bytes a text is refused for a fault that it shows under it, the one at the least place, and for
-- each such fault; a text that reads as a module under it shows none.
pub record LimitsTold (limit : Option ℕ) (bytes : List ℕ) : Type 0 where
  pub shown : (r : Refusal) → answer_within limit bytes ≡ refused r → ShowsWithin limit bytes r
  pub least : (r other : Refusal) → answer_within limit bytes ≡ refused r → ShowsWithin limit bytes other → (r.place < other.place) ⊎ (r ≡ other)
  pub none : (m : List Declaration) (r : Refusal) → answer_within limit bytes ≡ reads m → ShowsWithin limit bytes r → ⊥
  pub told : (r : Refusal) → IsLeastWithin limit bytes r → answer_within limit bytes ≡ refused r

abbrev pub EachLimitTold : Type 0
EachLimitTold = (limit : Option ℕ) (bytes : List ℕ) → LimitsTold limit bytes

-- A line of the prelude declares this symbol of the signature: it has its name, and what stands behind the name reads, behind a name
-- that is not taken, as the declaration of a symbol of the same type.
pub record IsLineOf (name rest : List ℕ) (d : Declaration) : Type 0 where
  pub is : d ≡ symbol name d.ty
  pub says : Reads (prelude ++ codes "z" ++ rest) (symbol (codes "z") d.ty ∷ [])

-- The two sides of a rewriting rule, over the variables a and b, read as those of the conversion rule: `term (arr a b)` becomes
-- `term a -> term b`.
pub record IsConversionRule (left right : List ℕ) : Type 0 where
  pub from : Reads (prelude ++ codes "z : a : type -> b : type -> " ++ left ++ codes ".")
      (symbol (codes "z") (Pi types (Pi types (term_of (arr_of (Var 1) (Var 0))))) ∷ [])
  pub to : Reads (prelude ++ codes "z : a : type -> b : type -> " ++ right ++ codes ".")
      (symbol (codes "z") (Pi types (Pi types (Pi (term_of (Var 1)) (lift 1 (term_of (Var 0)))))) ∷ [])

-- these lines declare these symbols, one after another, and each rule among them is that of conversion
abbrev pub AreLinesOf : List Line → List Declaration → Type 0
AreLinesOf [] [] = Unit {0}
AreLinesOf (SymbolLine name rest ∷ lines) (d ∷ ds) = IsLineOf name rest d × AreLinesOf lines ds
AreLinesOf (RewrittenLine name rest ∷ lines) (d ∷ ds) = IsLineOf name rest d × AreLinesOf lines ds
AreLinesOf (RuleLine left right ∷ lines) ds = IsConversionRule left right × AreLinesOf lines ds
AreLinesOf _ _ = ⊥

-- The law of the prelude: its lines declare the symbols of the signature, each by its name and its type. A prelude with a line that
-- says another type, or with a line too few or too many, doesn't.
abbrev pub PreludeReads : Type 0
PreludeReads = AreLinesOf prelude_lines signature

-- a letter and word bytes after it
pub record IsWordText (word : List ℕ) : Type 0 where
  pub first : ℕ
  pub more : List ℕ
  pub is : word ≡ first ∷ more
  pub letter : is_letter first ≡ true
  pub bytes : list_all is_word_byte more ≡ true

-- an identifier that is no key word and no binder's name
pub record IsPlainName (name : List ℕ) : Type 0 where
  pub word : IsWordText name
  pub no_key : word_token name ≡ Name name
  pub no_binder : (d : ℕ) → name ≡ binder_name d → ⊥

-- every declared name can be written
abbrev pub ArePlain : List Declaration → Type 0
ArePlain [] = Unit {0}
ArePlain (d ∷ ds) = IsPlainName d.name × ArePlain ds

-- the body, if any, is not too deep
abbrev pub IsBodyShallow : Option Tree → Type 0
IsBodyShallow None = Unit {0}
IsBodyShallow (Some t) = depth t ≤ max_depth

-- every type and body can be written
abbrev pub AreShallow : List Declaration → Type 0
AreShallow [] = Unit {0}
AreShallow (d ∷ ds) = (depth d.ty ≤ max_depth) × IsBodyShallow d.body × AreShallow ds

-- the text of a module with a bound for each declaration reads as that module, and as no other
pub record ReadsBack (m : List Declaration) (bounds : List ℕ) : Type 0 where
  pub read : Reads (written m bounds) m
  pub only : (other : List Declaration) → Reads (written m bounds) other → other ≡ m

-- The law of short names: no tree that is read names a definition with a short name.
abbrev pub ReadsLong : Type 0
ReadsLong = (bytes : List ℕ) (m : List Declaration) → Reads bytes m → AreLong [] m

-- The law of texts: what is written of a module reads as that module alone, where no tree of it names a definition with a short name.
abbrev pub WrittenReads : Type 0
WrittenReads = (m : List Declaration) (bounds : List ℕ) → IsModule m → AreLong [] m → ArePlain m → AreShallow m → length bounds ≡ length m → ReadsBack m bounds
