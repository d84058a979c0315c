-- What makes declarations a module: new names, and closed trees over what is declared before (Dedukti's signatures).
use Rattle.std.specs.Prelude.{◌≡◌, ℕ, suc, ◌≤◌, max, Bool, true, false, ◌||◌, IsFalse, List, [], ◌∷◌, ◌++◌, length, Option, Some, None, bytes_eq}
use Rattle.std.specs.List.{list_any}
use Rattle.lp_spec.specs.declared.form.Form.{Form}
use Rattle.lp_spec.specs.declared.form.Form.TheVariants.{Symbol, Def, Thm}
use Rattle.lp_spec.specs.Trees.{Tree, SortType, SortKind, Var, Sym, App, Lam, Pi, loose}
use Rattle.lp_spec.specs.Modules.{Declaration, signature}

-- the sort of kinds stands somewhere in the tree
abbrev pub has_kind : Tree → Bool
has_kind SortType = false
has_kind SortKind = true
has_kind (Var n) = false
has_kind (Sym s) = false
has_kind (App f x) = has_kind f || has_kind x
has_kind (Lam a b) = has_kind a || has_kind b
has_kind (Pi a b) = has_kind a || has_kind b

-- how many declarations there are at least where all symbols of the tree are declared
abbrev pub symbols : Tree → ℕ
symbols SortType = 0
symbols SortKind = 0
symbols (Var n) = 0
symbols (Sym s) = suc s
symbols (App f x) = max (symbols f) (symbols x)
symbols (Lam a b) = max (symbols a) (symbols b)
symbols (Pi a b) = max (symbols a) (symbols b)

-- a closed tree without the sort of kinds, over so many declarations
pub record IsOver (count : ℕ) (t : Tree) : Type 0 where
  pub closed : loose t ≡ 0
  pub kindless : IsFalse (has_kind t)
  pub known : symbols t ≤ count

-- a symbol has no body, and every other declaration has one over so many declarations
abbrev pub IsBodyOver : ℕ → Form → Option Tree → Type 0
IsBodyOver count Symbol body = body ≡ None
IsBodyOver count Def None = ⊥
IsBodyOver count Def (Some t) = IsOver count t
IsBodyOver count Thm None = ⊥
IsBodyOver count Thm (Some t) = IsOver count t

abbrev pub is_declared : List Declaration → List ℕ → Bool
is_declared ds name = list_any (λ d. bytes_eq d.name name) ds

-- the declaration can come after these
pub record MayFollow (before : List Declaration) (d : Declaration) : Type 0 where
  pub new_name : IsFalse (is_declared before d.name)
  pub ty : IsOver (length before) d.ty
  pub body : IsBodyOver (length before) d.form d.body

-- each of the declarations can come after these and those before it
abbrev pub AreDeclared : List Declaration → List Declaration → Type 0
AreDeclared before [] = Unit {0}
AreDeclared before (d ∷ ds) = MayFollow before d × AreDeclared (before ++ d ∷ []) ds

-- declarations after the signature that make a module
abbrev pub IsModule : List Declaration → Type 0
IsModule m = AreDeclared signature m
