-- The state of the stack machine, by what is kept and by the stack.
use Rattle.std.specs.Prelude.{ℤ, List, [], map}
use Rattle.std.specs.List.{AllByRecursion}
use Rattle.std.specs.Ordering.{int_cmp}
use Rattle.std.specs.FinMap.{FinMap, from_entries}
use Rattle.article_spec.specs.State.{State}
use Rattle.article_spec.specs.State as state
use Rattle.stack_machine.specs.declared.object.Object.{Object}
use Rattle.stack_machine.specs.declared.machine.Progress.{Progress}
use Rattle.stack_machine.specs.declared.machine.Progress.TheVariants.{Begun, Numbered, Running}
use Rattle.stack_machine.specs.Making.{Run}
use Rattle.stack_machine.specs.Stored.{Stored, IsKnown, object_view, objects_view}

-- the state with this stack and this run
abbrev pub in_state : State → List state.Object → Run → State
in_state s stack run = record s { stack = stack; made = run.made; assumptions = run.assumptions; exports = run.exports; pool = run.pool }

-- the state with these objects on the stack
abbrev pub shown : Stored → List Object → State → State
shown m objects s = in_state s (objects_view m objects) m.run

-- the dictionary's entries
abbrev pub dictionary_view : Stored → List (ℤ × Object) → FinMap int_cmp state.Object
dictionary_view m entries = from_entries (map (λ e. (e.0, object_view m e.1)) entries)

abbrev pub AreEntriesKnown : Stored → List (ℤ × Object) → Type 0
AreEntriesKnown m entries = AllByRecursion (λ e. IsKnown m e.1) entries

abbrev pub place_view : Progress → state.Stage
place_view (Begun before) = state.Stage.start before
place_view Numbered = state.Stage.version
place_view (Running version) = state.Stage.body version

-- the state without its stack and its run
abbrev pub article_state : Stored → List (ℤ × Object) → Progress → State
article_state m entries p = record
    { stack = []; dictionary = dictionary_view m entries; place = place_view p; made = []; assumptions = []; exports = []; pool = [] }
