-- What a room is to contracts.
use Rattle.std.specs.Prelude.{ℕ, List}
use Rattle.hol_type.specs.declared.table.TypeId.{TypeId}
use Rattle.article_steps.specs.declared.room.Job.{Job}

-- how many jobs and how many binders there is room for; the jobs, the next first, and the types of the binders round the next, the innermost first
pub record Agenda : Type 0 where
  pub room : ℕ
  pub jobs : List Job
  pub binders : List TypeId
