-- Walks over types and terms, which make their trees over a module.
use Rattle.std.specs.Prelude.{◌≡◌, ◌⊎◌, ℕ, ◌+◌, ◌<◌, ◌^◌, Bool, true, false, List, [], ◌∷◌, length}
use Rattle.hol_spec.specs.Names.{Name}
use Rattle.hol_spec.specs.Limits.{type_size, term_size}
use Rattle.hol_spec.specs.Types.{HolType, operator, types_of}
use Rattle.hol_spec.specs.Terms.{Term, free, bound, constant, app, lam, Variable}
use Rattle.hol_type.specs.declared.table.TypeId.{TypeId}
use Rattle.hol_type.specs.Tables.{tree_at, types_at}
use Rattle.hol_type.specs.Tables as type
use Rattle.hol_term.specs.declared.TermId.{TermId}
use Rattle.hol_term.specs.declared.Variable.{Variable as AVariable}
use Rattle.hol_term.specs.Tables.{Trees, term_at, type_at, Holds}
use Rattle.lp_spec.specs.Trees.{Tree, lift}
use Rattle.lp_spec.specs.Modules.{Declaration}
use Rattle.lp_term.specs.declared.LpId.{LpId}
use Rattle.lp_term.specs.Tables as lp
use Rattle.holide_sig.specs.declared.module.Module.{Module}
use Rattle.holide_sig.specs.Modules.{declarations_of, IsHeld}
use Rattle.translate_spec.specs.Scopes.{SymbolMap, type_tree, term_tree}
use Rattle.translate_laws.specs.DeepScopes.{deep}
use Rattle.translate_laws.specs.ListedScopes.{told_types, told}
use Rattle.translate_term.specs.declared.memo.Place.{Place}
use Rattle.translate_term.specs.declared.tasks.Task.{Task}
use Rattle.translate_term.specs.Tasks.{IsNoted, IsDone, Ends}
use Rattle.translate_term.specs.Told.{TellsType, TellsTerm, types_in, terms_in, AreTypesKnown, AreTermsKnown}

-- the table of a module grew, and its declarations are as before
pub record Grows (old new : Module) : Type 0 where
  pub table : lp.Keeps old.table new.table
  pub decls : new.decls ≡ old.decls

-- what a walk is given: the declarations of its module, the symbols that these tell, and what stands for type variables and free variables
pub record Given : Type 0 where
  pub declarations : List Declaration
  pub symbols : SymbolMap
  pub types : List (Name × Tree)
  pub terms : List (Variable × Tree)

-- the module and the pairs for type variables are those given
pub record IsGiven (given : Given) (m : Module) (names : List (Name × LpId)) : Type 0 where
  pub held : IsHeld m
  pub declared : declarations_of m ≡ given.declarations
  pub known : AreTypesKnown m.table names
  pub told : types_in m.table names ≡ given.types

-- and those for free variables
pub record AreGiven (given : Given) (m : Module) (types : List HolType) (variables : List (AVariable × LpId)) : Type 0 where
  pub known : AreTermsKnown types m.table variables
  pub told : terms_in types m.table variables ≡ given.terms

-- the tree that is wanted of a type, and of a term under so many binders
abbrev pub type_wanted : Given → HolType → Tree
type_wanted given t = type_tree given.symbols (told_types given.types) t

abbrev pub term_wanted : Given → ℕ → Term → Tree
term_wanted given depth t = term_tree given.symbols (deep depth (told given.symbols given.types given.terms)) t

-- the type is of the table, and its symbols are told
pub record IsTypeKnown (given : Given) (types : List HolType) (id : TypeId) : Type 0 where
  pub known : id.0 < length types
  pub told : TellsType given.declarations given.symbols (tree_at types id.0)

-- each type of the memo has the tree that is wanted
abbrev pub IsTypeMemo : Given → List HolType → List Tree → List (TypeId × LpId) → Type 0
IsTypeMemo given types trees made = (id : TypeId) (r : LpId) → IsNoted made id r → lp.Holds trees r.0 (type_wanted given (tree_at types id.0))

-- the size of the type with a number
abbrev pub size_at : List HolType → TypeId → ℕ
size_at types id = type_size (tree_at types id.0)

-- the memo has these for some types
abbrev pub AreNoted : List (TypeId × LpId) → List TypeId → List LpId → Type 0
AreNoted made [] [] = Unit {0}
AreNoted made (id ∷ ids) (r ∷ rs) = IsNoted made id r × AreNoted made ids rs
AreNoted made [] (r ∷ rs) = ⊥
AreNoted made (id ∷ ids) [] = ⊥

-- the type is an operator over these
pub record HasArguments (types : List HolType) (id : TypeId) (args : List TypeId) : Type 0 where
  pub name : Name
  pub known : type.AreKnown types args
  pub is : type.Holds types id.0 (operator name (types_of (types_at types args)))

-- a walk over the types of a table
pub record IsTypeWalk (given : Given) (root : TypeId) (m : Module) (types : List HolType) (names : List (Name × LpId))
    (tasks : List (Task TypeId)) (made : List (TypeId × LpId)) : Type 0 where
  pub reads : IsGiven given m names
  pub noted : IsTypeMemo given types m.table made
  pub ends : Ends (IsTypeKnown given types) (HasArguments types) root tasks (IsDone made)

-- what a walk from this type begins with
pub record IsTypeStart (given : Given) (root : TypeId) (m : Module) (types : List HolType)
    (names : List (Name × LpId)) (made : List (TypeId × LpId)) : Type 0 where
  pub reads : IsGiven given m names
  pub noted : IsTypeMemo given types m.table made
  pub known : IsTypeKnown given types root

-- the term of a place is of the table, the binders round its parts can be counted, and its symbols are told
pub record IsTermKnown (given : Given) (trees : Trees) (place : Place) : Type 0 where
  pub known : place.id.0 < length trees.terms
  pub countable : place.depth + place.id.0 < 2 ^ 64
  pub told : TellsTerm given.declarations given.symbols (term_at trees place.id.0)

-- the term at each place of the memo has the tree that is wanted
abbrev pub IsTermMemo : Given → Trees → List Tree → List (Place × LpId) → Type 0
IsTermMemo given trees lps made =
    (place : Place) (r : LpId) → IsNoted made place r → lp.Holds lps r.0 (term_wanted given place.depth (term_at trees place.id.0))

-- a tree was made of the term at a place, and noted in the memo
pub record IsMadeAt (place : Place) (old new : List (Place × LpId)) (trees : List Tree) (tree : Tree) : Type 0 where
  pub mark : LpId
  pub only : (i : Place) (r : LpId) → IsNoted new i r → IsNoted old i r ⊎ ((i ≡ place) × (r ≡ mark))
  pub noted : IsNoted new place mark
  pub kept : (i : Place) (r : LpId) → IsNoted old i r → (i ≡ place) ⊎ IsNoted new i r
  pub holds : lp.Holds trees mark.0 tree

-- a term without parts that stands for the same under any binders
abbrev pub is_leaf : Term → Bool
is_leaf (free n t) = true
is_leaf (bound k) = false
is_leaf (constant n t) = true
is_leaf (app f x) = false
is_leaf (lam t b) = false

pub record IsLeafAt (trees : Trees) (id : TermId) : Type 0 where
  pub term : Term
  pub is : Holds trees id.0 term
  pub leaf : is_leaf term ≡ true

-- what stands for the term at a place under no binder was lifted there, and noted for the place, and perhaps for others of the term
pub record IsLeafMade (place : Place) (old new : List (Place × LpId)) (trees : List Tree) (tree : Tree) : Type 0 where
  pub only : (i : Place) (r : LpId) → IsNoted new i r → IsNoted old i r ⊎ ((i.id ≡ place.id) × lp.Holds trees r.0 (lift i.depth tree))
  pub kept : (i : Place) → IsDone old i → IsDone new i
  pub done : IsDone new place

-- the parts of a term at a place, at theirs: a function and its argument, or the body of an abstraction
pub record IsApplication (trees : Trees) (place : Place) (parts : List Place) : Type 0 where
  pub function : TermId
  pub argument : TermId
  pub function_known : function.0 < length trees.terms
  pub argument_known : argument.0 < length trees.terms
  pub is : Holds trees place.id.0 (app (term_at trees function.0) (term_at trees argument.0))
  pub parts_are : parts ≡ record { id = function; depth = place.depth } ∷ record { id = argument; depth = place.depth } ∷ []

pub record IsAbstraction (trees : Trees) (place : Place) (parts : List Place) : Type 0 where
  pub ty : TypeId
  pub body : TermId
  pub body_known : body.0 < length trees.terms
  pub is : Holds trees place.id.0 (lam (type_at trees ty.0) (term_at trees body.0))
  pub parts_are : parts ≡ record { id = body; depth = place.depth + 1 } ∷ []

abbrev pub HasParts : Trees → Place → List Place → Type 0
HasParts trees place parts = IsApplication trees place parts ⊎ IsAbstraction trees place parts

-- the size of the term at a place
abbrev pub place_size : Trees → Place → ℕ
place_size trees place = term_size (term_at trees place.id.0)

-- what a walk from this term begins with
pub record IsTermStart (given : Given) (root : Place) (m : Module) (trees : Trees)
    (names : List (Name × LpId)) (variables : List (AVariable × LpId)) : Type 0 where
  pub reads : IsGiven given m names
  pub variables_told : AreGiven given m trees.types variables
  pub known : IsTermKnown given trees root

-- a walk over the terms of a table
pub record IsTermWalk (given : Given) (root : Place) (m : Module) (trees : Trees)
    (names : List (Name × LpId)) (variables : List (AVariable × LpId)) (tasks : List (Task Place))
    (made : List (Place × LpId)) (types : List (TypeId × LpId)) : Type 0 where
  pub reads : IsGiven given m names
  pub variables_told : AreGiven given m trees.types variables
  pub types_noted : IsTypeMemo given trees.types m.table types
  pub noted : IsTermMemo given trees m.table made
  pub ends : Ends (IsTermKnown given trees) (HasParts trees) root tasks (IsDone made)
