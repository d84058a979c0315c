-- The faults of a text, each by its own rule, whatever else is wrong with the text. The grammar is taken bare here: an identifier may name
-- anything, and a name may be declared twice, so that one text can show many faults. Only how deep a tree is depends on what its short
-- names are short for, so that fault is told of what is read. A text is refused for the fault at the least place.
-- Source: the Dedukti user manual, "Syntax"; the faults are this reader's own.
use Rattle.std.specs.Prelude.{◌≡◌, ℕ, ◌<◌, ◌≤◌, ◌⊎◌, Bool, true, false, IsTrue, IsFalse, List, [], ◌∷◌, ◌++◌, map, length, take, Option, None, Some, bytes_eq}
use Rattle.std.specs.List.{list_any}
use Rattle.lp_spec.specs.declared.form.Form.{Form}
use Rattle.lp_spec.specs.declared.form.Form.TheVariants.{Symbol, Def, Thm}
use Rattle.lp_spec.specs.Modules.{Declaration, signature}
use Rattle.lp_spec.specs.Text.{prelude}
use Rattle.lp_spec.specs.Tokens.{Token, Name, TypeWord, DefWord, ThmWord, Colon, Assign, Arrow, FatArrow, Dot, LeftParen, RightParen, Placed, at, ended, stuck, Scanned, tokens_from}
use Rattle.lp_spec.specs.Trees.{Tree, depth}
use Rattle.lp_spec.specs.Reading.{Scope, variable_of, max_depth, Term, IsNew, IsWhole, Declares}
use Rattle.lp_spec.specs.ReadingFaults.{Refusal, refusal, NoPrelude, BadText, UnknownName, NameTwice, DkTooDeep, DkTooLong}

-- Between the first tokens and the second ones stands, by the bare grammar, an atom, arguments, an application, or a term.
mutual
  pub data BareAtom : List Placed → List Placed → Type 0 where
    identifier : {rest : List Placed} {p : ℕ} {name : List ℕ} → BareAtom (at p (Name name) ∷ rest) rest
    sort : {rest : List Placed} {p : ℕ} → BareAtom (at p TypeWord ∷ rest) rest
    enclosed : {tokens rest : List Placed} {p q : ℕ} → BareTerm tokens (at q RightParen ∷ rest) → BareAtom (at p LeftParen ∷ tokens) rest

  pub data BareArguments : List Placed → List Placed → Type 0 where
    none : {tokens : List Placed} → BareArguments tokens tokens
    argument : {tokens more rest : List Placed} → BareAtom tokens more → BareArguments more rest → BareArguments tokens rest

  pub data BareApplication : List Placed → List Placed → Type 0 where
    application : {tokens more rest : List Placed} → BareAtom tokens more → BareArguments more rest → BareApplication tokens rest

  pub data BareTerm : List Placed → List Placed → Type 0 where
    product : {tokens more rest : List Placed} {p q r : ℕ} {name : List ℕ} → BareApplication tokens (at r Arrow ∷ more) → BareTerm more rest
        → BareTerm (at p (Name name) ∷ at q Colon ∷ tokens) rest
    abstraction : {tokens more rest : List Placed} {p q r : ℕ} {name : List ℕ} → BareApplication tokens (at r FatArrow ∷ more) → BareTerm more rest
        → BareTerm (at p (Name name) ∷ at q Colon ∷ tokens) rest
    nameless : {tokens more rest : List Placed} {r : ℕ} → BareApplication tokens (at r Arrow ∷ more) → BareTerm more rest → BareTerm tokens rest
    plain : {tokens rest : List Placed} → BareApplication tokens rest → BareTerm tokens rest

-- a declaration of this form has a body
abbrev pub HasBody : Form → Type 0
HasBody Symbol = ⊥
HasBody Def = Unit {0}
HasBody Thm = Unit {0}

-- What may begin at which tokens of all tokens of a text, by what stands before them, with the names that are declared before:
-- a further declaration; the name of a declaration of this form; the type or the body of the declaration of this name, which that token ends.
mutual
  pub data DeclarationBegins (all : List Placed) : List (List ℕ) → List Placed → Type 0 where
    first : DeclarationBegins all [] all
    next : {names : List (List ℕ)} {name : List ℕ} {tokens rest : List Placed} {p : ℕ} → WholeBegins all names name Dot tokens
        → BareTerm tokens (at p Dot ∷ rest) → DeclarationBegins all (names ++ name ∷ []) rest

  pub data NameStands (all : List Placed) : List (List ℕ) → Form → List Placed → Type 0 where
    of_symbol : {names : List (List ℕ)} {tokens : List Placed} → DeclarationBegins all names tokens → NameStands all names Symbol tokens
    of_definition : {names : List (List ℕ)} {tokens : List Placed} {p : ℕ} → DeclarationBegins all names (at p DefWord ∷ tokens)
        → NameStands all names Def tokens
    of_theorem : {names : List (List ℕ)} {tokens : List Placed} {p : ℕ} → DeclarationBegins all names (at p ThmWord ∷ tokens) → NameStands all names Thm tokens

  pub data WholeBegins (all : List Placed) : List (List ℕ) → List ℕ → Token → List Placed → Type 0 where
    only_type : {names : List (List ℕ)} {name : List ℕ} {tokens : List Placed} {p q : ℕ} → NameStands all names Symbol (at p (Name name) ∷ at q Colon ∷ tokens)
        → WholeBegins all names name Dot tokens
    type_before_body : {names : List (List ℕ)} {name : List ℕ} {form : Form} {tokens : List Placed} {p q : ℕ} → HasBody form
        → NameStands all names form (at p (Name name) ∷ at q Colon ∷ tokens) → WholeBegins all names name Assign tokens
    body : {names : List (List ℕ)} {name : List ℕ} {tokens rest : List Placed} {p : ℕ} → WholeBegins all names name Assign tokens
        → BareTerm tokens (at p Assign ∷ rest) → WholeBegins all names name Dot rest

-- What has been read before these tokens: these declarations; the name of one more, of this form and with a new name; or all of its declaration
-- before the type or the body that that token ends.
pub data Declared (all : List Placed) : List Declaration → List Placed → Type 0 where
  none_yet : Declared all [] all
  one_more : {m : List Declaration} {tokens rest : List Placed} {d : Declaration} → Declared all m tokens → Declares m tokens rest d
      → Declared all (m ++ d ∷ []) rest

pub data NameReads (all : List Placed) (m : List Declaration) : Form → List ℕ → List Placed → Type 0 where
  symbol_name : {name : List ℕ} {tokens : List Placed} {p q : ℕ} → Declared all m (at p (Name name) ∷ at q Colon ∷ tokens) → IsNew m name
      → NameReads all m Symbol name tokens
  definition_name : {name : List ℕ} {tokens : List Placed} {o p q : ℕ} → Declared all m (at o DefWord ∷ at p (Name name) ∷ at q Colon ∷ tokens) → IsNew m name
      → NameReads all m Def name tokens
  theorem_name : {name : List ℕ} {tokens : List Placed} {o p q : ℕ} → Declared all m (at o ThmWord ∷ at p (Name name) ∷ at q Colon ∷ tokens) → IsNew m name
      → NameReads all m Thm name tokens

pub data WholeReads (all : List Placed) (m : List Declaration) : Token → List Placed → Type 0 where
  symbol_type : {name : List ℕ} {tokens : List Placed} → NameReads all m Symbol name tokens → WholeReads all m Dot tokens
  bodied_type : {name : List ℕ} {form : Form} {tokens : List Placed} → HasBody form → NameReads all m form name tokens → WholeReads all m Assign tokens
  body_after : {name : List ℕ} {form : Form} {tokens rest : List Placed} {p : ℕ} {t : Tree} → HasBody form → NameReads all m form name tokens
      → IsWhole m tokens (at p Assign ∷ rest) t → WholeReads all m Dot rest

-- And in this scope: a term; an application, or an atom, where a binder may or may not be introduced in its place.
mutual
  pub data TermBegins (all : List Placed) (names : List (List ℕ)) : Scope → List Placed → Type 0 where
    of_whole : {name : List ℕ} {end : Token} {tokens : List Placed} → WholeBegins all names name end tokens → TermBegins all names [] tokens
    after_product : {scope : Scope} {name : List ℕ} {tokens rest : List Placed} {p q r : ℕ}
        → TermBegins all names scope (at p (Name name) ∷ at q Colon ∷ tokens) → BareApplication tokens (at r Arrow ∷ rest)
        → TermBegins all names (name ∷ scope) rest
    after_abstraction : {scope : Scope} {name : List ℕ} {tokens rest : List Placed} {p q r : ℕ}
        → TermBegins all names scope (at p (Name name) ∷ at q Colon ∷ tokens) → BareApplication tokens (at r FatArrow ∷ rest)
        → TermBegins all names (name ∷ scope) rest
    after_nameless : {scope : Scope} {tokens rest : List Placed} {r : ℕ} → TermBegins all names scope tokens → BareApplication tokens (at r Arrow ∷ rest)
        → TermBegins all names ([] ∷ scope) rest
    enclosed_term : {scope : Scope} {binder : Bool} {tokens : List Placed} {p : ℕ} → AtomStands all names scope binder (at p LeftParen ∷ tokens)
        → TermBegins all names scope tokens

  pub data ApplicationBegins (all : List Placed) (names : List (List ℕ)) : Scope → Bool → List Placed → Type 0 where
    of_term : {scope : Scope} {tokens : List Placed} → TermBegins all names scope tokens → ApplicationBegins all names scope true tokens
    of_domain : {scope : Scope} {name : List ℕ} {tokens : List Placed} {p q : ℕ} → TermBegins all names scope (at p (Name name) ∷ at q Colon ∷ tokens)
        → ApplicationBegins all names scope false tokens

  pub data AtomStands (all : List Placed) (names : List (List ℕ)) : Scope → Bool → List Placed → Type 0 where
    of_application : {scope : Scope} {binder : Bool} {tokens : List Placed} → ApplicationBegins all names scope binder tokens
        → AtomStands all names scope binder tokens
    further : {scope : Scope} {binder : Bool} {tokens rest : List Placed} → ApplicationBegins all names scope binder tokens → BareApplication tokens rest
        → AtomStands all names scope false rest

-- tokens that are declarations to their end
abbrev pub IsText : List Placed → Type 0
IsText all = (names : List (List ℕ)) × DeclarationBegins all names []

-- the name is a symbol's, of the signature or of these
abbrev pub is_symbol : List (List ℕ) → List ℕ → Bool
is_symbol names name = list_any (λ other. bytes_eq other name) (map (λ d. d.name) signature ++ names)

-- no binder can be introduced there, or the next token isn't `:`
abbrev pub IsNoBinder : Bool → List Placed → Type 0
IsNoBinder true (at q Colon ∷ rest) = ⊥
IsNoBinder _ _ = Unit {0}

-- the first list doesn't begin the second, whose first byte that differs, or whose end, these are
abbrev pub Differs : List ℕ → List ℕ → Type 0
Differs [] bytes = ⊥
Differs (c ∷ wanted) [] = Unit {0}
Differs (c ∷ wanted) (b ∷ bytes) = b ≡ c → ⊥

-- the tokens of the text after the signature's own
abbrev pub tokens_after : List ℕ → Scanned
tokens_after text = tokens_from (length prelude) text

-- the tokens of a text show this fault
pub data TokensShow (all : List Placed) : Refusal → Type 0 where
  -- a token can't follow those before it: with it they begin no text
  bad_token : (front rest : List Placed) {p : ℕ} (token : Token) → all ≡ front ++ at p token ∷ rest
      → ((more : List Placed) → IsText (front ++ at p token ∷ more) → ⊥) → TokensShow all (refusal p BadText)
  -- an identifier at a place where an atom may stand names no binder in scope and no earlier symbol, and is no binder
  unknown_name : {names : List (List ℕ)} {scope : Scope} {binder : Bool} {name : List ℕ} {rest : List Placed} {p : ℕ}
      → AtomStands all names scope binder (at p (Name name) ∷ rest) → variable_of scope name ≡ None → IsFalse (is_symbol names name) → IsNoBinder binder rest
      → TokensShow all (refusal p (UnknownName name))
  -- the identifier in a declaration's name place is a symbol already
  name_twice : {names : List (List ℕ)} {form : Form} {name : List ℕ} {rest : List Placed} {p : ℕ} → NameStands all names form (at p (Name name) ∷ rest)
      → IsTrue (is_symbol names name) → TokensShow all (refusal p (NameTwice name))
  -- a type or a body is too deep, as it is read: at the token that ends it
  too_deep : {m : List Declaration} {end : Token} {tokens rest : List Placed} {p : ℕ} {t : Tree} → WholeReads all m end tokens
      → Term m [] tokens (at p end ∷ rest) t → max_depth < depth t → TokensShow all (refusal p DkTooDeep)

-- a text of any length shows this fault
pub data Shows (bytes : List ℕ) : Refusal → Type 0 where
  -- the signature's text doesn't begin it: at the first byte that differs, or at the text's length
  no_prelude : (front wanted rest : List ℕ) → prelude ≡ front ++ wanted → bytes ≡ front ++ rest → Differs wanted rest
      → Shows bytes (refusal (length front) NoPrelude)
  -- a fault of its tokens
  by_tokens : (text : List ℕ) {r : Refusal} → bytes ≡ prelude ++ text → TokensShow (tokens_after text).tokens r → Shows bytes r
  -- a byte begins no token, or a comment doesn't end: at that byte, or at the comment's `(;`
  no_token : (text : List ℕ) {p : ℕ} → bytes ≡ prelude ++ text → (tokens_after text).end ≡ stuck p → Shows bytes (refusal p BadText)
  -- a declaration doesn't end: at the text's length
  no_end : (text : List ℕ) {p : ℕ} → bytes ≡ prelude ++ text → (tokens_after text).end ≡ ended p → (IsText (tokens_after text).tokens → ⊥)
      → Shows bytes (refusal p BadText)

-- a fault that a text shows, before all others of it
pub record IsLeastFault (bytes : List ℕ) (r : Refusal) : Type 0 where
  pub shown : Shows bytes r
  pub least : (s : Refusal) → Shows bytes s → (r.place < s.place) ⊎ (r ≡ s)

-- no more bytes than the limit, if there is one
abbrev pub IsWithin : Option ℕ → List ℕ → Type 0
IsWithin None bytes = Unit {0}
IsWithin (Some n) bytes = length bytes ≤ n

-- Under a limit a longer text shows those faults that its bytes up to the limit show whatever bytes follow them, and that it is too long:
-- at the first byte past the limit.
pub data ShowsWithin : Option ℕ → List ℕ → Refusal → Type 0 where
  within : {limit : Option ℕ} {bytes : List ℕ} {r : Refusal} → IsWithin limit bytes → Shows bytes r → ShowsWithin limit bytes r
  early : {n : ℕ} {bytes : List ℕ} {r : Refusal} → n < length bytes → ((more : List ℕ) → Shows (take n bytes ++ more) r) → ShowsWithin (Some n) bytes r
  too_long : {n : ℕ} {bytes : List ℕ} → n < length bytes → ShowsWithin (Some n) bytes (refusal n DkTooLong)

-- a fault that a text shows under a limit, before all others of it
pub record IsLeastWithin (limit : Option ℕ) (bytes : List ℕ) (r : Refusal) : Type 0 where
  pub shown : ShowsWithin limit bytes r
  pub least : (s : Refusal) → ShowsWithin limit bytes s → (r.place < s.place) ⊎ (r ≡ s)
