-- A walk over what items need: the items that were marked, the types and terms that were come to, and what is still to be visited.
use Rattle.std.specs.Prelude.{◌≡◌, ◌⊎◌, ℕ, ◌+◌, ◌<◌, List, [], ◌∷◌, ◌++◌, length, map, Bool, true, ◌||◌, Option, None, Some, slice_set}
use Rattle.std.specs.List.{AllByRecursion, flat_map}
use Rattle.hol_spec.specs.Lists.{IsIn}
use Rattle.hol_spec.specs.Limits.{type_size, term_size}
use Rattle.hol_type.specs.declared.table.TypeId.{TypeId}
use Rattle.hol_type.specs.Tables.{tree_at}
use Rattle.hol_term.specs.declared.TermId.{TermId}
use Rattle.hol_term.specs.Tables.{Trees, term_at}
use Rattle.translate_spec.specs.Items.{Item}
use Rattle.translate_spec.specs.Reach.{Key, is_wanted, type_keys, term_keys}
use Rattle.translate_reach.specs.declared.walk.Task.{Task}
use Rattle.translate_reach.specs.declared.walk.Task.TheVariants as task
use Rattle.translate_reach.specs.declared.walk.Walk.{Walk}
use Rattle.translate_reach.specs.Reached.{flag}

-- the keys of what is to be visited
abbrev pub task_keys : Trees → Task → List Key
task_keys trees (task.Type id) = type_keys (tree_at trees.types id.0)
task_keys trees (task.Term id) = term_keys (term_at trees id.0)

abbrev pub keys_in : Trees → List Task → List Key
keys_in trees tasks = flat_map (task_keys trees) tasks

-- it is of the table
abbrev pub IsTaskKnown : Trees → Task → Type 0
IsTaskKnown trees (task.Type id) = id.0 < length trees.types
IsTaskKnown trees (task.Term id) = id.0 < length trees.terms

-- how large it is
abbrev pub task_size : Trees → Task → ℕ
task_size trees (task.Type id) = type_size (tree_at trees.types id.0)
task_size trees (task.Term id) = term_size (term_at trees id.0)

-- how many turns the tasks take at most
abbrev pub work : Trees → List Task → ℕ
work trees [] = 0
work trees (t ∷ ts) = task_size trees t + work trees ts

-- types come before terms, and parts before what they are parts of
abbrev pub rank : Trees → Task → ℕ
rank trees (task.Type id) = id.0
rank trees (task.Term id) = length trees.types + id.0

-- the walk came to it
abbrev pub is_seen : Walk → Task → Bool
is_seen w (task.Type id) = flag w.types.items id.0
is_seen w (task.Term id) = flag w.terms.items id.0

-- an item is marked, or one of the tasks needs it
abbrev pub is_reached : Trees → Walk → Item → Bool
is_reached trees w x = flag w.marks.items x.symbol || is_wanted (keys_in trees w.tasks) x

-- something that the walk came to: what it names itself is marked, and the walk came to each of its parts, or is to visit it
pub record IsOpened (trees : Trees) (items : List Item) (w : Walk) (t : Task) : Type 0 where
  pub own : List Key
  pub parts : List Task
  pub keys : task_keys trees t ≡ own ++ keys_in trees parts
  pub marked : (x : Item) → IsIn items x → is_wanted own x ≡ true → flag w.marks.items x.symbol ≡ true
  pub lower : AllByRecursion (λ u. rank trees u < rank trees t) parts
  pub come : (u : Task) → IsIn parts u → (is_seen w u ≡ true) ⊎ IsIn w.tasks u

pub record IsWalk (trees : Trees) (items : List Item) (w : Walk) : Type 0 where
  pub marks : length w.marks.items ≡ length items
  pub types : length w.types.items ≡ length trees.types
  pub terms : length w.terms.items ≡ length trees.terms
  pub tasks : AllByRecursion (IsTaskKnown trees) w.tasks
  pub opened : (t : Task) → is_seen w t ≡ true → IsOpened trees items w t

-- the walk reaches what it reached, and what gives these keys
abbrev pub Wants : Trees → List Item → List Key → Walk → Walk → Type 0
Wants trees items ks old new = (x : Item) → IsIn items x → is_reached trees new x ≡ (is_reached trees old x || is_wanted ks x)

-- the walk with one more task
abbrev pub with_task : Task → Walk → Walk
with_task t w = record w { tasks = t ∷ w.tasks }

-- flags with one more, if there is one
abbrev pub marked : List Bool → Option ℕ → List Bool
marked flags None = flags
marked flags (Some i) = slice_set flags i true

-- tasks on these
abbrev pub with_types : List TypeId → List Task → List Task
with_types ids tasks = map task.Type ids ++ tasks

abbrev pub with_terms : List TermId → List Task → List Task
with_terms ids tasks = map task.Term ids ++ tasks

-- after a turn the walk reaches what it reached, and has less to do
pub record Turned (trees : Trees) (items : List Item) (t : Task) (w v : Walk) : Type 0 where
  pub walk : IsWalk trees items v
  pub wants : Wants trees items [] (with_task t w) v
  pub less : work trees v.tasks < work trees (t ∷ w.tasks)
