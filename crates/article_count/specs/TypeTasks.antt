-- What is left to do while a type is counted.
use Rattle.std.specs.Prelude.{◌≡◌, ℕ, ◌+◌, ◌*◌, ◌<◌, List, [], ◌∷◌, ◌++◌, map, length, None}
use Rattle.hol_spec.specs.Types.{HolType, count}
use Rattle.hol_spec.specs.Limits.{type_size}
use Rattle.hol_type.specs.declared.table.TypeId.{TypeId}
use Rattle.hol_term.specs.Tables.{Trees, type_at}
use Rattle.article_spec.specs.declared.commands.Word.TheVariants as word
use Rattle.article_write_spec.specs.Drafts.{Kept}
use Rattle.article_write_spec.specs.Lengths.{word_length, Tally, key_in, add, note}
use Rattle.article_write_spec.specs.TermLengths.{count_type}
use Rattle.article_count.specs.declared.tally.Count.{Count}
use Rattle.article_count.specs.declared.types.TypeTask.{TypeTask}
use Rattle.article_count.specs.declared.types.TypeTask.TheVariants as task
use Rattle.article_count.specs.Counts.{IsTally}

-- the arguments of an operator are counted
abbrev pub type_made : HolType → Tally → Tally
type_made (HolType.variable n) m = m
type_made (HolType.operator n ts) m = note (Kept.type (HolType.operator n ts))
    (add (word_length word.Nil + count ts * word_length word.Cons + word_length word.OpType) m)

abbrev pub type_task : Trees → TypeTask → Tally → Tally
type_task trees (task.Visit id) m = count_type (type_at trees id.0) m
type_task trees (task.Made id) m = type_made (type_at trees id.0) m

abbrev pub type_tasks : Trees → List TypeTask → Tally → Tally
type_tasks trees [] m = m
type_tasks trees (t ∷ ts) m = type_tasks trees ts (type_task trees t m)

-- the types are of the table, and one that is made then has no key
abbrev pub AreTypesReady : Trees → List TypeTask → Tally → Type 0
AreTypesReady trees [] m = Unit {0}
AreTypesReady trees (task.Visit id ∷ ts) m = (id.0 < length trees.types) × AreTypesReady trees ts (count_type (type_at trees id.0) m)
AreTypesReady trees (task.Made id ∷ ts) m = (id.0 < length trees.types) × (key_in m.kept (Kept.type (type_at trees id.0)) ≡ None) × AreTypesReady trees ts
    (type_made (type_at trees id.0) m)

-- what is counted, with what is left to do, comes to this tally
pub record IsTypeWalk (trees : Trees) (steps : ℕ) (tasks : List TypeTask) (c : Count) (final : Tally) : Type 0 where
  pub now : Tally
  pub tally : IsTally trees steps c now
  pub ready : AreTypesReady trees tasks now
  pub ends : type_tasks trees tasks now ≡ final

abbrev pub CanWalkTypes : Trees → List TypeTask → Count → Type 0
CanWalkTypes trees tasks c = (steps : ℕ) × (final : Tally) × IsTypeWalk trees steps tasks c final

-- what is left comes to the same
abbrev pub WalksTypes : Trees → List TypeTask → Count → List TypeTask → Count → Type 0
WalksTypes trees tasks c rest d = (steps : ℕ) (final : Tally) → IsTypeWalk trees steps tasks c final → IsTypeWalk trees steps rest d final

-- how many turns it takes at most
abbrev pub type_turns : Trees → TypeTask → ℕ
type_turns trees (task.Visit id) = 2 * type_size (type_at trees id.0)
type_turns trees (task.Made id) = 1

abbrev pub types_work : Trees → List TypeTask → ℕ
types_work trees [] = 0
types_work trees (t ∷ ts) = type_turns trees t + types_work trees ts

abbrev pub with_visits : List TypeId → List TypeTask → List TypeTask
with_visits ids tasks = map task.Visit ids ++ tasks
