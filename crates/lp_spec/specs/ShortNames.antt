-- Short names: a definition called `X` and a number stands, in texts, for its body. Where its name is read, its body is meant; and where its
-- body is to be written, its name is. So no tree of a module names it.
-- Source: this project's own.
use Rattle.std.specs.Prelude.{◌≡◌, ℕ, ◌&&◌, Bool, false, List, [], ◌∷◌, ◌++◌, nat_eq, if◌then◌else◌, Option, Some, None, option_map, option_and_then, codes, position}
use Rattle.std.specs.List.{AllByRecursion}
use Rattle.std.specs.Option.{unwrap_or}
use Rattle.lp_spec.specs.Trees.{Tree, SortType, SortKind, Var, Sym, App, Lam, Pi, tree_eq}
use Rattle.lp_spec.specs.Modules.{Declaration, signature, symbol_declaration}
use Rattle.lp_spec.specs.Conversion.{definition_of}
use Rattle.lp_spec.specs.Numerals.{numeral, is_numeral}

-- a short name: `X` and a number
pub record IsShortName (name : List ℕ) : Type 0 where
  pub number : ℕ
  pub is : name ≡ codes "X" ++ numeral number

-- Whether a name is short; 88 is `X`. That it decides it is `is_short_name-Decides`.
abbrev pub is_short_name : List ℕ → Bool
is_short_name [] = false
is_short_name (b ∷ text) = nat_eq b 88 && is_numeral text

-- the tree for which the name of a declaration is short: its body, where it is a definition with a short name
abbrev pub short_body : Declaration → Option Tree
short_body d = if is_short_name d.name then definition_of d.form d.body else None

-- the tree for which the name of a symbol is short
abbrev pub short_for : List Declaration → ℕ → Option Tree
short_for m s = option_and_then short_body (symbol_declaration m s)

-- the tree that the name of a symbol means where it is read
abbrev pub named_tree : List Declaration → ℕ → Tree
named_tree m s = unwrap_or (short_for m s) (Sym s)

abbrev pub is_tree : Option Tree → Tree → Bool
is_tree None t = false
is_tree (Some u) t = tree_eq u t

-- the first symbol whose name is short for a tree
abbrev pub short : List Declaration → Tree → Option ℕ
short m t = position (λ d. is_tree (short_body d) t) (signature ++ m)

-- the symbol that is short for a tree, or its parts as they are written
abbrev pub by_name : Option ℕ → Tree → Tree
by_name (Some s) parts = Sym s
by_name None parts = parts

-- A tree as it is written: the largest of its parts for which names are short by these names.
abbrev pub shortened : List Declaration → Tree → Tree
shortened m SortType = by_name (short m SortType) SortType
shortened m SortKind = by_name (short m SortKind) SortKind
shortened m (Var n) = by_name (short m (Var n)) (Var n)
shortened m (Sym s) = by_name (short m (Sym s)) (Sym s)
shortened m (App f x) = by_name (short m (App f x)) (App (shortened m f) (shortened m x))
shortened m (Lam a b) = by_name (short m (Lam a b)) (Lam (shortened m a) (shortened m b))
shortened m (Pi a b) = by_name (short m (Pi a b)) (Pi (shortened m a) (shortened m b))

-- a declaration as it is written after these, and declarations, each after those before it
abbrev pub shortened_declaration : List Declaration → Declaration → Declaration
shortened_declaration before d = record { name = d.name; form = d.form; ty = shortened before d.ty; body = option_map (shortened before) d.body }

abbrev pub shortened_after : List Declaration → List Declaration → List Declaration
shortened_after before [] = []
shortened_after before (d ∷ ds) = shortened_declaration before d ∷ shortened_after (before ++ d ∷ []) ds

-- no symbol of the tree has a short name for a tree
abbrev pub IsLong : List Declaration → Tree → Type 0
IsLong m (Sym s) = short_for m s ≡ None
IsLong m (App f x) = IsLong m f × IsLong m x
IsLong m (Lam a b) = IsLong m a × IsLong m b
IsLong m (Pi a b) = IsLong m a × IsLong m b
IsLong m t = Unit {0}

abbrev pub IsBodyLong : List Declaration → Option Tree → Type 0
IsBodyLong m None = Unit {0}
IsBodyLong m (Some t) = IsLong m t

-- no tree of these declarations names a definition with a short name, among these before and those before it
abbrev pub AreLong : List Declaration → List Declaration → Type 0
AreLong before [] = Unit {0}
AreLong before (d ∷ ds) = IsLong before d.ty × IsBodyLong before d.body × AreLong (before ++ d ∷ []) ds

-- no declared name is short
abbrev pub NoneShort : List Declaration → Type 0
NoneShort ds = AllByRecursion (λ (d : Declaration). is_short_name d.name ≡ false) ds
