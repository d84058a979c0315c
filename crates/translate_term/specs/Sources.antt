-- What a walk over the types or the terms of a source is given, and what it makes.
use Rattle.std.specs.Prelude.{◌≡◌, ℕ, List, [], ◌∷◌, Some}
use Rattle.hol_spec.specs.Names.{Name}
use Rattle.hol_spec.specs.Types.{HolType}
use Rattle.hol_spec.specs.Terms.{free, constant}
use Rattle.hol_type.specs.declared.table.TypeId.{TypeId}
use Rattle.hol_type.specs.Tables as type
use Rattle.hol_term.specs.declared.TermId.{TermId}
use Rattle.hol_term.specs.Tables.{term_at, type_at}
use Rattle.lp_spec.specs.Trees.{Tree, Sym, lift}
use Rattle.lp_spec.specs.Modules.{applied, term_of}
use Rattle.lp_term.specs.declared.LpId.{LpId}
use Rattle.lp_term.specs.Tables as lp
use Rattle.holide_sig.specs.declared.module.Module.{Module}
use Rattle.holide_sig.specs.Modules.{declarations_of}
use Rattle.translate_spec.specs.Scopes.{filler}
use Rattle.translate_term.specs.declared.memo.Place.{Place}
use Rattle.translate_term.specs.declared.sources.Source.{Source}
use Rattle.translate_term.specs.declared.sources.TypeSource.{TypeSource}
use Rattle.translate_term.specs.declared.tasks.Task.{Task}
use Rattle.translate_term.specs.declared.tasks.Task.TheVariants.{Join}
use Rattle.translate_term.specs.declared.terms.Walk.{Walk}
use Rattle.translate_term.specs.Told.{TellsConstant, told_operator}
use Rattle.translate_term.specs.Tasks.{work}
use Rattle.translate_term.specs.Walks.{Given, place_size, IsTypeMemo, IsTypeStart, IsTypeWalk, IsTermStart, IsTermWalk, AreGiven, type_wanted, term_wanted}

-- a walk may begin with this type of a table, where these stand for type variables
abbrev pub MayBegin : List HolType → List (Name × LpId) → TypeId → Module → List (TypeId × LpId) → Type 0
MayBegin types names id m made = (given : Given) × IsTypeStart given id m types names made

-- this number has its tree then
abbrev pub MakesType : List HolType → List (Name × LpId) → TypeId → Module → List (TypeId × LpId) → Module → LpId → Type 0
MakesType types names id m made n r =
    (given : Given) → IsTypeStart given id m types names made → lp.Holds n.table r.0 (type_wanted given (type.tree_at types id.0))

-- and each type of this memo the tree that is wanted
abbrev pub NotesTypes : List HolType → List (Name × LpId) → TypeId → Module → List (TypeId × LpId) → Module → List (TypeId × LpId) → Type 0
NotesTypes types names id m made n now = (given : Given) → IsTypeStart given id m types names made → IsTypeMemo given types n.table now

-- a walk is on its way over the types of a source
abbrev pub IsOnTypes : TypeSource → Module → List (Task TypeId) → List (TypeId × LpId) → Type 0
IsOnTypes s m tasks made = (given : Given) × (root : TypeId) × IsTypeWalk given root m s.table.now s.scope.now tasks made

-- and goes on to here
abbrev pub TypesGoOn : TypeSource → Module → List (Task TypeId) → List (TypeId × LpId) → Module → List (Task TypeId) → List (TypeId × LpId) → Type 0
TypesGoOn s m tasks made n left now =
    (given : Given) (root : TypeId) → IsTypeWalk given root m s.table.now s.scope.now tasks made → IsTypeWalk given root n s.table.now s.scope.now left now

-- it has ended, where it began with this type
abbrev pub TypesEnd : TypeSource → TypeId → Module → List (TypeId × LpId) → Module → List (TypeId × LpId) → Type 0
TypesEnd s root m made n now =
    (given : Given) → IsTypeStart given root m s.table.now s.scope.now made → IsTypeWalk given root n s.table.now s.scope.now [] now

-- it comes back to a type
abbrev pub IsAtJoin : TypeSource → Module → TypeId → List (TypeId × LpId) → Type 0
IsAtJoin s m id made = (given : Given) × (root : TypeId) × (rest : List (Task TypeId)) × IsTypeWalk given root m s.table.now s.scope.now (Join id ∷ rest) made

-- and goes on to the tasks after that
abbrev pub GoesOnFromJoin : TypeSource → Module → TypeId → List (TypeId × LpId) → Module → List (TypeId × LpId) → Type 0
GoesOnFromJoin s m id made n now =
    (given : Given) (root : TypeId) (rest : List (Task TypeId)) → IsTypeWalk given root m s.table.now s.scope.now (Join id ∷ rest) made
    → IsTypeWalk given root n s.table.now s.scope.now rest now

-- the symbol of an operator that the module tells is applied to these
abbrev pub AppliesTold : Module → Name → ℕ → List LpId → Module → LpId → Type 0
AppliesTold m name arity trees n r =
    (symbol : ℕ) → told_operator (declarations_of m) name arity ≡ Some symbol → lp.Holds n.table r.0 (applied (Sym symbol) (lp.trees_at m.table trees))

-- a walk is given a term of a source under no binder
abbrev pub at_root : TermId → Place
at_root id = record { id = id; depth = 0 }

abbrev pub IsStart : Given → TermId → Source → Module → Type 0
IsStart given id s m = IsTermStart given (at_root id) m s.table.now s.scope.now.types s.scope.now.terms

-- a walk is on its way over the terms of a source
abbrev pub IsOver : Given → Place → Source → Module → Walk → Type 0
IsOver given root s m w = IsTermWalk given root m s.table.now s.scope.now.types s.scope.now.terms w.tasks w.made w.types

-- with a task before its own
abbrev pub with_task : Task Place → Walk → Walk
with_task task w = record w { tasks = task ∷ w.tasks }

-- some walk is so, and each that is goes on to here
abbrev pub IsOnTerms : Source → Module → Walk → Type 0
IsOnTerms s m w = (given : Given) × (root : Place) × IsOver given root s m w

abbrev pub TermsGoOn : Source → Module → Walk → Module → Walk → Type 0
TermsGoOn s m w n v = (given : Given) (root : Place) → IsOver given root s m w → IsOver given root s n v

-- a part of an application, under the binders round it
abbrev pub part_at : Place → TermId → Place
part_at place id = record { id = id; depth = place.depth }

-- how many turns it takes at most
abbrev pub works_left : Source → Walk → ℕ
works_left s w = work (place_size s.table.now) w.tasks

-- this number has the tree of the term at a place
abbrev pub HoldsTerm : Given → Place → Source → Module → LpId → Type 0
HoldsTerm given place s m r = lp.Holds m.table r.0 (term_wanted given place.depth (term_at s.table.now place.id.0))

-- a walk is given a type of a source of terms
abbrev pub Begins : Given → TypeId → Source → Module → List (TypeId × LpId) → Type 0
Begins given ty s m made = IsTypeStart given ty m s.table.now.types s.scope.now.types made

-- the symbols of a constant at this type are told
abbrev pub IsConstantTold : Given → Name → TypeId → Source → Type 0
IsConstantTold given name ty s = TellsConstant given.declarations given.symbols name (type_at s.table.now ty.0)

-- the tree that is wanted of a type of a source of terms
abbrev pub wanted_at : Given → TypeId → Source → Tree
wanted_at given ty s = type_wanted given (type_at s.table.now ty.0)

-- this number has the tree of some term of the type, of the terms of the type under so many binders, and of a free variable or a constant of the type
abbrev pub MakesFiller : Source → TypeId → Module → List (TypeId × LpId) → Module → LpId → Type 0
MakesFiller s ty m made n r = (given : Given) → Begins given ty s m made → lp.Holds n.table r.0 (filler (wanted_at given ty s))

abbrev pub MakesDomain : ℕ → Source → TypeId → Module → List (TypeId × LpId) → Module → LpId → Type 0
MakesDomain depth s ty m made n r = (given : Given) → Begins given ty s m made → lp.Holds n.table r.0 (term_of (lift depth (wanted_at given ty s)))

abbrev pub MakesFree : Name → Source → TypeId → Module → List (TypeId × LpId) → Module → LpId → Type 0
MakesFree name s ty m made n r =
    (given : Given) → Begins given ty s m made → AreGiven given m s.table.now.types s.scope.now.terms
    → lp.Holds n.table r.0 (term_wanted given 0 (free name (type_at s.table.now ty.0)))

abbrev pub MakesConstant : Name → Source → TypeId → Module → List (TypeId × LpId) → Module → LpId → Type 0
MakesConstant name s ty m made n r =
    (given : Given) → Begins given ty s m made → IsConstantTold given name ty s
    → lp.Holds n.table r.0 (term_wanted given 0 (constant name (type_at s.table.now ty.0)))

-- this number has the tree of the term at the place from which a walk begins
abbrev pub MakesTerm : Place → Source → Module → Walk → Module → LpId → Type 0
MakesTerm root s m w n r = (given : Given) → IsOver given root s m w → HoldsTerm given root s n r
