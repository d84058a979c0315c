-- A walk over what steps need: what was marked, the types and terms that were come to, and what is still to be visited.
use Rattle.std.specs.Prelude.{◌≡◌, ◌⊎◌, ℕ, ◌+◌, ◌<◌, List, [], ◌∷◌, ◌++◌, length, map, Bool, true, ◌||◌}
use Rattle.std.specs.List.{AllByRecursion, flat_map}
use Rattle.hol_spec.specs.Lists.{IsIn, is_in}
use Rattle.hol_spec.specs.NameEquality.{name_eq}
use Rattle.hol_spec.specs.Limits.{type_size, term_size}
use Rattle.hol_type.specs.declared.table.TypeId.{TypeId}
use Rattle.hol_type.specs.Tables.{tree_at}
use Rattle.hol_term.specs.declared.TermId.{TermId}
use Rattle.hol_term.specs.Tables.{Trees, term_at}
use Rattle.article_write_spec.specs.Mentions.{Need}
use Rattle.article_lines.specs.Flagged.{flag}
use Rattle.article_reach.specs.declared.walk.Task.{Task}
use Rattle.article_reach.specs.declared.walk.Task.TheVariants as task
use Rattle.article_reach.specs.declared.walk.Walk.{Walk}
use Rattle.article_reach.specs.Found.{Found, Asked, is_found, IsAsked, type_found, term_found}
use Rattle.article_reach.specs.Least.{is_among}

-- what is found where something is visited
abbrev pub task_found : Trees → Task → List Found
task_found trees (task.Type id) = type_found (tree_at trees.types id.0)
task_found trees (task.Term id) = term_found (term_at trees id.0)

abbrev pub found_in : Trees → List Task → List Found
found_in trees tasks = flat_map (task_found trees) tasks

-- it is of the table
abbrev pub IsTaskKnown : Trees → Task → Type 0
IsTaskKnown trees (task.Type id) = id.0 < length trees.types
IsTaskKnown trees (task.Term id) = id.0 < length trees.terms

-- how large it is
abbrev pub task_size : Trees → Task → ℕ
task_size trees (task.Type id) = type_size (tree_at trees.types id.0)
task_size trees (task.Term id) = term_size (term_at trees id.0)

-- how many turns the tasks take at most
abbrev pub work : Trees → List Task → ℕ
work trees [] = 0
work trees (t ∷ ts) = task_size trees t + work trees ts

-- types come before terms, and parts before what they are parts of
abbrev pub rank : Trees → Task → ℕ
rank trees (task.Type id) = id.0
rank trees (task.Term id) = length trees.types + id.0

-- the walk came to it
abbrev pub is_seen : Walk → Task → Bool
is_seen w (task.Type id) = flag w.types.items id.0
is_seen w (task.Term id) = flag w.terms.items id.0

-- what is asked is marked
abbrev pub is_marked : Walk → Asked → Bool
is_marked w (Asked.need (Need.operator n)) = is_in name_eq n w.operators
is_marked w (Asked.need (Need.constant n)) = is_in name_eq n w.constants
is_marked w (Asked.need (Need.step i)) = flag w.steps.items i
is_marked w (Asked.number q) = is_among w.numbers.items q

-- it is marked, or to be found where something is still to be visited
abbrev pub is_reached : Trees → Walk → Asked → Bool
is_reached trees w x = is_marked w x || is_found (found_in trees w.tasks) x

-- something that the walk came to: what it names itself is marked, and the walk came to each of its parts, or is to visit it
pub record IsOpened (trees : Trees) (w : Walk) (t : Task) : Type 0 where
  pub own : List Found
  pub parts : List Task
  pub found : task_found trees t ≡ own ++ found_in trees parts
  pub marked : (x : Asked) → IsAsked x → is_found own x ≡ true → is_marked w x ≡ true
  pub lower : AllByRecursion (λ u. rank trees u < rank trees t) parts
  pub come : (u : Task) → IsIn parts u → (is_seen w u ≡ true) ⊎ IsIn w.tasks u

pub record IsWalk (trees : Trees) (count : ℕ) (w : Walk) : Type 0 where
  pub steps : length w.steps.items ≡ count
  pub types : length w.types.items ≡ length trees.types
  pub terms : length w.terms.items ≡ length trees.terms
  pub tasks : AllByRecursion (IsTaskKnown trees) w.tasks
  pub opened : (t : Task) → is_seen w t ≡ true → IsOpened trees w t

-- the walk reaches what it reached, and what is found here
abbrev pub Wants : Trees → List Found → Walk → Walk → Type 0
Wants trees fs old new = (x : Asked) → IsAsked x → is_reached trees new x ≡ (is_reached trees old x || is_found fs x)

-- the walk with one more task
abbrev pub with_task : Task → Walk → Walk
with_task t w = record w { tasks = t ∷ w.tasks }

-- tasks on these
abbrev pub with_types : List TypeId → List Task → List Task
with_types ids tasks = map task.Type ids ++ tasks

abbrev pub with_terms : List TermId → List Task → List Task
with_terms ids tasks = map task.Term ids ++ tasks

-- after a turn the walk reaches what it reached, and has less to do
pub record Turned (trees : Trees) (count : ℕ) (t : Task) (w v : Walk) : Type 0 where
  pub walk : IsWalk trees count v
  pub wants : Wants trees [] (with_task t w) v
  pub less : work trees v.tasks < work trees (t ∷ w.tasks)
