-- How the tree of a generic type meets the tree of an instance of it.
use Rattle.std.specs.Prelude.{◌≡◌, ◌⊎◌, ℕ, ◌+◌, ◌<◌, List, [], ◌∷◌, length, map, replicate, Some}
use Rattle.hol_spec.specs.Names.{Name}
use Rattle.hol_spec.specs.Types.{HolType}
use Rattle.hol_spec.specs.Substitution.{Instance, type_arguments}
use Rattle.lp_spec.specs.Trees.{Tree, SortType, SortKind, Var, Sym, App, Lam, Pi, size}
use Rattle.lp_spec.specs.Substitution.{sub}
use Rattle.lp_spec.specs.Modules.{Declaration, products, symbol_type, term_of, types}
use Rattle.lp_term.specs.declared.LpId.{LpId}
use Rattle.lp_term.specs.Tables.{tree_at, trees_at, Holds}
use Rattle.holide_sig.specs.declared.module.Module.{Module}
use Rattle.holide_sig.specs.Modules.{declarations_of, IsHeld}
use Rattle.translate_spec.specs.Scopes.{SymbolMap, TypeScope, constant_tree, type_tree, generic_tree}
use Rattle.translate_term.specs.declared.generic.Binder.{Binder}
use Rattle.translate_term.specs.declared.generic.Meeting.{Meeting}
use Rattle.translate_term.specs.Tasks.{IsNoted, IsDone}
use Rattle.translate_term.specs.Told.{TellsConstant}

-- this number has the tree of a constant's type in a scope, and the module tells the constant's symbol
pub record IsTypeTree (symbols : SymbolMap) (scope : TypeScope) (t : HolType) (m : Module) (n : Name) (ty : LpId) : Type 0 where
  pub held : IsHeld m
  pub known : ty.0 < length m.table
  pub is : tree_at m.table ty.0 ≡ type_tree symbols scope t
  pub told : TellsConstant (declarations_of m) symbols n t

-- a symbol is declared at a generic type, and this number has the tree of an instance
pub record IsGeneric (declarations : List Declaration) (symbol : ℕ) (symbols : SymbolMap) (scope : TypeScope) (generic t : HolType)
    (trees : List Tree) (ty : LpId) : Type 0 where
  pub declared : symbol_type declarations symbol ≡ Some (generic_tree symbols generic)
  pub instance : Instance generic t
  pub known : ty.0 < length trees
  pub is : tree_at trees ty.0 ≡ type_tree symbols scope t

-- a variable stands in a tree of applications
abbrev pub Mentions : ℕ → Tree → Type 0
Mentions k (Var n) = n ≡ k
Mentions k (App f x) = Mentions k f ⊎ Mentions k x
Mentions k SortType = ⊥
Mentions k SortKind = ⊥
Mentions k (Sym s) = ⊥
Mentions k (Lam a b) = ⊥
Mentions k (Pi a b) = ⊥

-- a variable stands in what is still to be met
abbrev pub IsLeft : ℕ → List Tree → List Meeting → Type 0
IsLeft k trees [] = ⊥
IsLeft k trees (task ∷ tasks) = Mentions k (tree_at trees task.pattern.0) ⊎ IsLeft k trees tasks

-- each pattern becomes its instance where what is wanted stands for its variables
abbrev pub DoFit : (ℕ → Tree) → List Tree → List Meeting → Type 0
DoFit want trees [] = Unit {0}
DoFit want trees (task ∷ tasks) =
    (task.pattern.0 < length trees) × (task.instance.0 < length trees) × (tree_at trees task.instance.0 ≡ sub want (tree_at trees task.pattern.0))
    × DoFit want trees tasks

-- the variable with this number
abbrev pub binder : ℕ → Binder
binder k = record { 0 = k }

-- a matching that is to find what is wanted for the variables in a tree
pub record IsMatching (want : ℕ → Tree) (root : Tree) (trees : List Tree) (tasks : List Meeting) (found : List (Binder × LpId)) : Type 0 where
  pub fit : DoFit want trees tasks
  pub noted : (k : Binder) (id : LpId) → IsNoted found k id → (id.0 < length trees) × (tree_at trees id.0 ≡ want k.0)
  pub all : (k : ℕ) → Mentions k root → IsDone found (binder k) ⊎ IsLeft k trees tasks

-- how many turns the tasks take at most
abbrev pub work : List Tree → List Meeting → ℕ
work trees [] = 0
work trees (task ∷ tasks) = size (tree_at trees task.pattern.0) + work trees tasks

-- this number has the tree of the constant at the type
abbrev pub MakesInstance : Module → Name → LpId → Module → LpId → Type 0
MakesInstance m n ty now r =
    (symbols : SymbolMap) (scope : TypeScope) (t : HolType) → IsTypeTree symbols scope t m n ty → Holds now.table r.0 (constant_tree symbols scope n t)

-- a symbol of a module is declared at some generic type, and this number has the tree of an instance
abbrev pub IsInstance : Module → ℕ → LpId → Type 0
IsInstance m symbol ty =
    (symbols : SymbolMap) × (scope : TypeScope) × (generic : HolType) × (t : HolType) × IsGeneric (declarations_of m) symbol symbols scope generic t m.table ty

-- these have the trees of the types for the variables of the generic type
abbrev pub AreArguments : Module → ℕ → LpId → List LpId → Type 0
AreArguments m symbol ty args =
    (symbols : SymbolMap) (scope : TypeScope) (generic t : HolType) → IsGeneric (declarations_of m) symbol symbols scope generic t m.table ty
    → trees_at m.table args ≡ map (type_tree symbols scope) (type_arguments generic t)

-- if a symbol is declared at a product over types, then over so many, and this number has the tree of the type under them
abbrev pub IsGenericType : Module → ℕ → ℕ → LpId → Type 0
IsGenericType m symbol count id =
    (k : ℕ) (pattern : Tree) → symbol_type (declarations_of m) symbol ≡ Some (products (replicate k types) (term_of pattern))
    → (count ≡ k) × (tree_at m.table id.0 ≡ pattern)

-- a pattern becomes an instance where this is wanted for its variables
abbrev pub Fits : (ℕ → Tree) → List Tree → LpId → LpId → Type 0
Fits want trees pattern instance = tree_at trees instance.0 ≡ sub want (tree_at trees pattern.0)

-- this number has what is wanted then for a variable
abbrev pub IsWanted : List Tree → ℕ → LpId → LpId → LpId → Type 0
IsWanted trees k pattern instance id = (want : ℕ → Tree) → Fits want trees pattern instance → tree_at trees id.0 ≡ want k

-- a part of a pattern meets that part of the instance, where the whole meets the whole
pub record IsPart (trees : List Tree) (whole part : Meeting) : Type 0 where
  pub pattern : part.pattern.0 < length trees
  pub instance : part.instance.0 < length trees
  pub fits : (want : ℕ → Tree) → Fits want trees whole.pattern whole.instance → Fits want trees part.pattern part.instance

-- what was found is what is wanted then
abbrev pub FindsWanted : List Tree → LpId → LpId → List (Binder × LpId) → Type 0
FindsWanted trees pattern instance found =
    (want : ℕ → Tree) → Fits want trees pattern instance → (k : Binder) (id : LpId) → IsNoted found k id
    → (id.0 < length trees) × (tree_at trees id.0 ≡ want k.0)

-- each matching that is here goes on to there
abbrev pub MatchingGoesOn : List Tree → List Meeting → List (Binder × LpId) → List Meeting → List (Binder × LpId) → Type 0
MatchingGoesOn trees tasks found left now = (want : ℕ → Tree) (root : Tree) → IsMatching want root trees tasks found → IsMatching want root trees left now
