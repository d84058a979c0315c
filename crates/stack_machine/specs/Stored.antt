-- What the machine keeps, and which objects its numbers stand for.
use Rattle.std.specs.Prelude.{◌≡◌, ℕ, ◌<◌, ◌≤◌, ◌+◌, List, [], ◌∷◌, ◌++◌, length, map, slice_get, unwrap_or, refl}
use Rattle.std.specs.Coded.{Coded, code_by, coded×, coded_list}
use Rattle.std.specs.List.{AllByRecursion}
use Rattle.hol_spec.specs.Names.{Name}
use Rattle.hol_laws.specs.TypeLaws.{coded_name}
use Rattle.hol_spec.specs.Symbols.{Symbol}
use Rattle.hol_spec.specs.Proofs.{sequent_at, symbols_of}
use Rattle.hol_term.specs.Tables.{Trees, coded_trees, term_at, type_at, IsTermAt}
use Rattle.hol_term.specs.Tables as table
use Rattle.article_spec.specs.State as state
use Rattle.article_laws.specs.StateLaws.{objects_code, objects_inj}
use Rattle.sequent.specs.Sequents as numbers
use Rattle.compose.specs.declared.pool.Said.{Said}
use Rattle.compose.specs.Pools.{steps_in}
use Rattle.hol_rules.specs.Kept.{Kept}
use Rattle.stack_machine.specs.Making.{Run, coded_run, step_count, run_view, IsRunKnown}
use Rattle.stack_machine.specs.declared.object.List.{List as AList}
use Rattle.stack_machine.specs.declared.object.List.TheVariants.{Empty, Cell as CellOf}
use Rattle.stack_machine.specs.declared.object.Object.{Object}
use Rattle.stack_machine.specs.declared.object.Object.TheVariants as object
use Rattle.stack_machine.specs.declared.object.Cell.{Cell}

-- the types and terms, the names and the lists by number, and what the run made
pub record Stored : Type 0 where
  pub trees : Trees
  pub names : List Name
  pub lists : List state.Objects
  pub run : Run

abbrev coded_objects : Coded state.Objects
coded_objects = record { code = objects_code; inj = objects_inj }

abbrev pub coded_stored : Coded Stored
coded_stored = code_by ((Trees × List Name) × (List state.Objects × Run))
    (coded× (coded× coded_trees (coded_list coded_name)) (coded× (coded_list coded_objects) coded_run))
    (λ m. ((m.trees, m.names), (m.lists, m.run))) (λ p. record { trees = p.0.0; names = p.0.1; lists = p.1.0; run = p.1.1 }) (λ _. refl)

-- the symbols that are taken
abbrev pub taken_symbols : Stored → List Symbol
taken_symbols m = symbols_of m.run.made

-- the number's name
abbrev pub name_at : Stored → ℕ → Name
name_at m id = unwrap_or (slice_get m.names id) []

-- the number's list
abbrev pub list_at : Stored → ℕ → state.Objects
list_at m id = unwrap_or (slice_get m.lists id) state.Objects.none

abbrev pub list_view : Stored → AList → state.Objects
list_view m Empty = state.Objects.none
list_view m (CellOf c) = list_at m c.0

-- the object that the numbers stand for
abbrev pub object_view : Stored → Object → state.Object
object_view m (object.Number z) = state.Object.number z
object_view m (object.Name n) = state.Object.name (name_at m n.0)
object_view m (object.List xs) = state.Object.list (list_view m xs)
object_view m (object.TypeOperator n) = state.Object.type_operator (name_at m n.0)
object_view m (object.Type t) = state.Object.type (type_at m.trees t.0)
object_view m (object.Constant n) = state.Object.constant (name_at m n.0)
object_view m (object.Variable n t) = state.Object.variable (name_at m n.0, type_at m.trees t.0)
object_view m (object.Term t) = state.Object.term (term_at m.trees t.0)
object_view m (object.Theorem i) = state.Object.theorem i

-- the objects of a stack, from the top
abbrev pub objects_view : Stored → List Object → List state.Object
objects_view m xs = map (object_view m) xs

abbrev pub cell_view : Stored → Cell → state.Objects
cell_view m c = state.Objects.more (object_view m c.head) (list_view m c.tail)

-- the lists, and those of the cells after them
abbrev pub lists_from : Stored → List Cell → List state.Objects
lists_from m [] = m.lists
lists_from m (c ∷ cs) = lists_from (record m { lists = m.lists ++ cell_view m c ∷ [] }) cs

-- what is kept, where the lists are those of these cells
abbrev pub without_lists : Trees → List Name → Run → Stored
without_lists trees names run = record { trees = trees; names = names; lists = []; run = run }

abbrev pub stored : Trees → List Name → Run → List Cell → Stored
stored trees names run cells = record { trees = trees; names = names; lists = lists_from (without_lists trees names run) cells; run = run }

-- the numbers are of what is kept, and terms are well typed
abbrev pub IsListKnown : Stored → AList → Type 0
IsListKnown m Empty = Unit {0}
IsListKnown m (CellOf c) = c.0 < length m.lists

-- how many cells a list can have
abbrev pub rank : AList → ℕ
rank Empty = 0
rank (CellOf c) = c.0 + 1

abbrev pub IsName : Stored → ℕ → Type 0
IsName m n = n < length m.names

abbrev pub IsType : Stored → ℕ → Type 0
IsType m t = t < length m.trees.types

pub record IsTerm (m : Stored) (t : ℕ) : Type 0 where
  pub known : t < length m.trees.terms
  pub typed : IsTermAt m.trees t

-- a step of the run
abbrev pub IsStep : Stored → ℕ → Type 0
IsStep m i = i < step_count m.run

abbrev pub IsKnown : Stored → Object → Type 0
IsKnown m (object.Number z) = Unit {0}
IsKnown m (object.Name n) = IsName m n.0
IsKnown m (object.List xs) = IsListKnown m xs
IsKnown m (object.TypeOperator n) = IsName m n.0
IsKnown m (object.Type t) = IsType m t.0
IsKnown m (object.Constant n) = IsName m n.0
IsKnown m (object.Variable n t) = IsName m n.0 × IsType m t.0
IsKnown m (object.Term t) = IsTerm m t.0
IsKnown m (object.Theorem i) = IsStep m i

abbrev pub AreKnown : Stored → List Object → Type 0
AreKnown m xs = AllByRecursion (IsKnown m) xs

-- the cells' parts come before them
abbrev pub AreCells : Stored → List Cell → Type 0
AreCells m [] = Unit {0}
AreCells m (c ∷ cs) = IsKnown m c.head × IsListKnown m c.tail × AreCells (record m { lists = m.lists ++ cell_view m c ∷ [] }) cs

-- the run, with the steps that say the assumptions and the exports
abbrev pub run_of : Kept → List Said → List Said → ℕ → Run
run_of proof assumptions exports pool = run_view proof.made (steps_in assumptions) (steps_in exports) pool

-- what is kept over a proof, with its assumptions and its exports
abbrev pub store_view : Kept → List Name → List Cell → List Said → List Said → ℕ → Stored
store_view proof names cells assumptions exports pool = stored proof.trees names (run_of proof assumptions exports pool) cells

-- the numbers are of the table, and the step says the sequent
pub record IsSaid (proof : Kept) (s : Said) : Type 0 where
  pub known : numbers.IsKnown proof.trees s.sequent
  pub says : sequent_at proof.made s.step ≡ numbers.sequent_at proof.trees s.sequent

abbrev pub AreSaid : Kept → List Said → Type 0
AreSaid proof pool = AllByRecursion (IsSaid proof) pool

pub record IsStore (proof : Kept) (names : List Name) (cells : List Cell) (assumptions exports : List Said) (pool : ℕ) : Type 0 where
  pub cells_known : AreCells (without_lists proof.trees names (run_of proof assumptions exports pool)) cells
  pub run_known : IsRunKnown proof.made (steps_in assumptions) (steps_in exports) pool
  pub assumed : AreSaid proof assumptions
  pub exported : AreSaid proof exports

-- one list is a front of another
pub record IsFront {A : Type 0} (xs ys : List A) : Type 0 where
  pub more : List A
  pub is : ys ≡ xs ++ more

-- what had a number keeps it
pub record Grows (a b : Stored) : Type 0 where
  pub trees : table.Keeps a.trees b.trees
  pub names : IsFront a.names b.names
  pub lists : IsFront a.lists b.lists
  pub steps : step_count a.run ≤ step_count b.run
