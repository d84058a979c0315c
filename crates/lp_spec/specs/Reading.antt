-- The modules that a text reads as: the grammar of declarations and terms, over the tokens after the signature's own text.
-- Source: the Dedukti user manual, "Syntax": declarations, definitions and theorems without rules, and terms without placeholders.
use Rattle.std.specs.Prelude.{◌≡◌, ℕ, ◌≤◌, IsFalse, List, [], ◌∷◌, ◌++◌, length, Option, None, Some, position}
use Rattle.std.specs.Str.{bytes_eq}
use Rattle.lp_spec.specs.declared.form.Form.TheVariants.{Symbol, Def, Thm}
use Rattle.lp_spec.specs.Trees.{Tree, SortType, Var, App, Lam, Pi, depth}
use Rattle.lp_spec.specs.Modules.{Declaration, signature}
use Rattle.lp_spec.specs.ModuleOrder.{is_declared}
use Rattle.lp_spec.specs.ShortNames.{named_tree}
use Rattle.lp_spec.specs.Text.{prelude}
use Rattle.lp_spec.specs.Tokens.{Name, TypeWord, DefWord, ThmWord, Colon, Assign, Arrow, FatArrow, Dot, LeftParen, RightParen, Placed, at, ended, tokens_from}

-- the names of the binders round a place, the innermost first; a binder without a name has the empty one, which no identifier is
abbrev pub Scope : Type 0
Scope = List (List ℕ)

-- the place of the innermost binder of that name
abbrev pub variable_of : Scope → List ℕ → Option ℕ
variable_of scope name = position (λ b. bytes_eq b name) scope

-- the symbol of that name: the signature's are numbered from 0, these declarations after them
abbrev pub symbol_of : List Declaration → List ℕ → Option ℕ
symbol_of m name = position (λ d. bytes_eq d.name name) (signature ++ m)

-- a type or a body of a declaration has at most this depth
abbrev pub max_depth : ℕ
max_depth = 262144

-- Between the first tokens and the second ones stands this tree, where these declarations come before and the scope is this:
-- an atom, an atom and its arguments, or a term. A short name is read as the tree for which it is short.
mutual
  pub data Atom (m : List Declaration) : Scope → List Placed → List Placed → Tree → Type 0 where
    variable : {scope : Scope} {rest : List Placed} {p n : ℕ} {name : List ℕ} → variable_of scope name ≡ Some n
        → Atom m scope (at p (Name name) ∷ rest) rest (Var n)
    symbol : {scope : Scope} {rest : List Placed} {p s : ℕ} {name : List ℕ} → variable_of scope name ≡ None → symbol_of m name ≡ Some s
        → Atom m scope (at p (Name name) ∷ rest) rest (named_tree m s)
    sort : {scope : Scope} {rest : List Placed} {p : ℕ} → Atom m scope (at p TypeWord ∷ rest) rest SortType
    enclosed : {scope : Scope} {tokens rest : List Placed} {p q : ℕ} {t : Tree} → Term m scope tokens (at q RightParen ∷ rest) t
        → Atom m scope (at p LeftParen ∷ tokens) rest t

  -- the tree f and its arguments are this tree
  pub data Arguments (m : List Declaration) : Scope → Tree → List Placed → List Placed → Tree → Type 0 where
    none : {scope : Scope} {tokens : List Placed} {f : Tree} → Arguments m scope f tokens tokens f
    argument : {scope : Scope} {tokens more rest : List Placed} {f x t : Tree} → Atom m scope tokens more x → Arguments m scope (App f x) more rest t
        → Arguments m scope f tokens rest t

  pub data Application (m : List Declaration) : Scope → List Placed → List Placed → Tree → Type 0 where
    application : {scope : Scope} {tokens more rest : List Placed} {f t : Tree} → Atom m scope tokens more f → Arguments m scope f more rest t
        → Application m scope tokens rest t

  pub data Term (m : List Declaration) : Scope → List Placed → List Placed → Tree → Type 0 where
    product : {scope : Scope} {tokens more rest : List Placed} {p q r : ℕ} {name : List ℕ} {a b : Tree} → Application m scope tokens (at r Arrow ∷ more) a
        → Term m (name ∷ scope) more rest b → Term m scope (at p (Name name) ∷ at q Colon ∷ tokens) rest (Pi a b)
    abstraction : {scope : Scope} {tokens more rest : List Placed} {p q r : ℕ} {name : List ℕ} {a b : Tree}
        → Application m scope tokens (at r FatArrow ∷ more) a → Term m (name ∷ scope) more rest b
        → Term m scope (at p (Name name) ∷ at q Colon ∷ tokens) rest (Lam a b)
    nameless : {scope : Scope} {tokens more rest : List Placed} {r : ℕ} {a b : Tree} → Application m scope tokens (at r Arrow ∷ more) a
        → Term m ([] ∷ scope) more rest b → Term m scope tokens rest (Pi a b)
    plain : {scope : Scope} {tokens rest : List Placed} {t : Tree} → Application m scope tokens rest t → Term m scope tokens rest t

-- the name is no symbol's yet
abbrev pub IsNew : List Declaration → List ℕ → Type 0
IsNew m name = IsFalse (is_declared (signature ++ m) name)

-- between the tokens stands a closed term that isn't too deep
pub record IsWhole (m : List Declaration) (tokens rest : List Placed) (t : Tree) : Type 0 where
  pub term : Term m [] tokens rest t
  pub shallow : depth t ≤ max_depth

-- between the tokens stands this declaration
pub data Declares (m : List Declaration) : List Placed → List Placed → Declaration → Type 0 where
  symbol_declaration : {tokens rest : List Placed} {p q r : ℕ} {name : List ℕ} {ty : Tree} → IsNew m name → IsWhole m tokens (at r Dot ∷ rest) ty
      → Declares m (at p (Name name) ∷ at q Colon ∷ tokens) rest (record { name = name; form = Symbol; ty = ty; body = None })
  definition : {tokens more rest : List Placed} {o p q r s : ℕ} {name : List ℕ} {ty body : Tree} → IsNew m name → IsWhole m tokens (at r Assign ∷ more) ty
      → IsWhole m more (at s Dot ∷ rest) body → Declares m (at o DefWord ∷ at p (Name name) ∷ at q Colon ∷ tokens) rest
      (record { name = name; form = Def; ty = ty; body = Some body })
  theorem : {tokens more rest : List Placed} {o p q r s : ℕ} {name : List ℕ} {ty body : Tree} → IsNew m name → IsWhole m tokens (at r Assign ∷ more) ty
      → IsWhole m more (at s Dot ∷ rest) body → Declares m (at o ThmWord ∷ at p (Name name) ∷ at q Colon ∷ tokens) rest
      (record { name = name; form = Thm; ty = ty; body = Some body })

-- the tokens declare what comes after these declarations, and all together are these
pub data Completes : List Declaration → List Placed → List Declaration → Type 0 where
  complete : {m : List Declaration} → Completes m [] m
  next : {m all : List Declaration} {tokens rest : List Placed} {d : Declaration} → Declares m tokens rest d → Completes (m ++ d ∷ []) rest all
      → Completes m tokens all

-- the text reads as the module of these declarations
pub record Reads (bytes : List ℕ) (m : List Declaration) : Type 0 where
  pub text : List ℕ
  pub begins : bytes ≡ prelude ++ text
  pub place : ℕ
  pub whole : (tokens_from (length prelude) text).end ≡ ended place
  pub declares : Completes [] (tokens_from (length prelude) text).tokens m
