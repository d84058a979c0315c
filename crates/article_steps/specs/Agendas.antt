-- What the jobs of an agenda write.
use Rattle.std.specs.Prelude.{◌≡◌, ℕ, ◌+◌, ◌*◌, ◌<◌, ◌≤◌, List, [], ◌∷◌, length, map, drop, None, IsSome, slice_index_or}
use Rattle.hol_spec.specs.Types.{HolType, HolTypes, count}
use Rattle.hol_spec.specs.Terms.{Term, Variable, type_under}
use Rattle.hol_spec.specs.Primitives.{bool}
use Rattle.hol_spec.specs.Limits.{type_depth, term_depth}
use Rattle.hol_type.specs.declared.table.TypeId.{TypeId}
use Rattle.hol_type.specs.Tables as type
use Rattle.hol_term.specs.declared.TermId.{TermId}
use Rattle.hol_term.specs.Tables.{Trees, term_at, type_at}
use Rattle.article_write_spec.specs.Drafts.{Kept, Draft, say_word, keep, conses, write_each}
use Rattle.article_write_spec.specs.Lengths.{key_in}
use Rattle.article_write_spec.specs.WrittenTypes.{write_type}
use Rattle.article_write_spec.specs.WrittenTerms.{next_binder, write_under}
use Rattle.article_lines.specs.declared.keys.Thing.{Thing}
use Rattle.article_steps.specs.declared.room.Job.{Job}
use Rattle.article_steps.specs.declared.room.Job.TheVariants as job
use Rattle.article_steps.specs.Agenda.{Agenda}
use Rattle.article_lines.specs.KeptThings.{kept_at, IsThing}
use Rattle.article_steps.specs.Parts.{build_type, arguments, build_under}

-- Agendas
abbrev pub pushed : Job → Agenda → Agenda
pushed j a = record a { jobs = j ∷ a.jobs }

abbrev pub pushed_all : List Job → Agenda → Agenda
pushed_all [] a = a
pushed_all (j ∷ js) a = pushed_all js (pushed j a)

abbrev pub bound_by : TypeId → Agenda → Agenda
bound_by ty a = record a { binders = ty ∷ a.binders }

abbrev pub unbound : Agenda → Agenda
unbound a = record a { binders = drop 1 a.binders }

abbrev pub cleared : Agenda → Agenda
cleared a = record a { jobs = []; binders = [] }

abbrev pub begun : List Job → Agenda → Agenda
begun js a = pushed_all js (cleared a)

-- How many jobs come of it, at most
abbrev mutual
  pub parts_work : HolType → ℕ
  parts_work (HolType.variable n) = 2
  parts_work (HolType.operator n ts) = 6 + count ts + types_work ts

  pub types_work : HolTypes → ℕ
  types_work HolTypes.none = 0
  types_work (HolTypes.more t ts) = 3 + parts_work t + types_work ts

abbrev pub type_work : HolType → ℕ
type_work t = 2 + parts_work t

abbrev pub works : List HolType → ℕ
works [] = 0
works (t ∷ ts) = 3 + parts_work t + works ts

-- under binders of these types
abbrev pub term_parts_work : List HolType → Term → ℕ
term_parts_work types (Term.free n a) = 3 + type_work a
term_parts_work types (Term.bound k) = 3 + type_work (slice_index_or types k bool)
term_parts_work types (Term.constant n a) = 3 + type_work a
term_parts_work types (Term.app f x) = 6 + term_parts_work types f + term_parts_work types x
term_parts_work types (Term.lam a b) = 6 + type_work a + term_parts_work (a ∷ types) b

abbrev pub term_work : List HolType → Term → ℕ
term_work types t = 2 + term_parts_work types t

-- the types of these binders
abbrev pub types_of_binders : Trees → List TypeId → List HolType
types_of_binders trees binders = map (λ a. type_at trees a.0) binders

module _ (trees : Trees) (q : ℕ) where
  -- the variables of binders of these types, the innermost first
  abbrev pub variables : List TypeId → List Variable
  variables [] = []
  variables (a ∷ binders) = next_binder q (variables binders) (type_at trees a.0) ∷ variables binders

  abbrev pub do_job : List TypeId → Job → Draft → Draft
  do_job binders (job.Type id) d = write_type (type_at trees id.0) d
  do_job binders (job.TypeParts id) d = build_type (type_at trees id.0) d
  do_job binders (job.Arguments id i) d = write_each write_type (drop i (arguments (type_at trees id.0))) d
  do_job binders (job.Term id) d = write_under q (variables binders) (term_at trees id.0) d
  do_job binders (job.TermParts id) d = build_under q (variables binders) (term_at trees id.0) d
  do_job binders (job.Word w) d = say_word w d
  do_job binders (job.Conses k) d = conses k d
  do_job binders (job.Keep x) d = keep (kept_at trees x) d
  do_job binders job.Unbind d = d

  -- the binders round what follows
  abbrev pub after : List TypeId → Job → List TypeId
  after binders job.Unbind = drop 1 binders
  after binders j = binders

  -- what is left to write
  abbrev pub do_jobs : List TypeId → List Job → Draft → Draft
  do_jobs binders [] d = d
  do_jobs binders (j ∷ js) d = do_jobs (after binders j) js (do_job binders j d)

  abbrev pub job_work : List TypeId → Job → ℕ
  job_work binders (job.Type id) = type_work (type_at trees id.0)
  job_work binders (job.TypeParts id) = parts_work (type_at trees id.0)
  job_work binders (job.Arguments id i) = 1 + works (drop i (arguments (type_at trees id.0)))
  job_work binders (job.Term id) = term_work (types_of_binders trees binders) (term_at trees id.0)
  job_work binders (job.TermParts id) = term_parts_work (types_of_binders trees binders) (term_at trees id.0)
  job_work binders (job.Word w) = 1
  job_work binders (job.Conses k) = 1 + k
  job_work binders (job.Keep x) = 1
  job_work binders job.Unbind = 1

  abbrev pub work : List TypeId → List Job → ℕ
  work binders [] = 0
  work binders (j ∷ js) = job_work binders j + work (after binders j) js

-- What there is room for

-- a type of the table, with room for what comes of it behind so many jobs
pub record IsTypeJob (trees : Trees) (room height : ℕ) (id : TypeId) : Type 0 where
  pub known : id.0 < length trees.types
  pub fits : height + 6 * type_depth (type_at trees id.0) ≤ room

-- a term of the table that is well typed under the binders, whose types are of the table, with room for what comes of it behind so many jobs, and for
-- its binders
pub record IsTermJob (trees : Trees) (room more height : ℕ) (binders : List TypeId) (id : TermId) : Type 0 where
  pub known : id.0 < length trees.terms
  pub typed : IsSome (type_under (types_of_binders trees binders) (term_at trees id.0))
  pub fits : 2 * height + 12 * term_depth (term_at trees id.0) ≤ room + more
  pub bound : type.AreKnown trees.types binders
  pub binds : length binders + term_depth (term_at trees id.0) ≤ room

-- a type or a term of the table that has no key yet
pub record IsKeepJob (trees : Trees) (kept : List Kept) (x : Thing) : Type 0 where
  pub known : IsThing trees 0 x
  pub new : key_in kept (kept_at trees x) ≡ None

-- room for the deepest type and for the deepest term, and for some jobs more
pub record IsRoomy (trees : Trees) (room : ℕ) : Type 0 where
  pub types : (i : ℕ) → i < length trees.types → 12 * type_depth (type_at trees i) + 12 ≤ room
  pub terms : (i : ℕ) → i < length trees.terms → 12 * term_depth (term_at trees i) + 12 ≤ room
  pub least : 12 ≤ room

module _ (trees : Trees) (q : ℕ) (room : ℕ) where
  abbrev pub IsJob : ℕ → List TypeId → List Kept → Job → Type 0
  IsJob height binders kept (job.Type id) = IsTypeJob trees room height id
  IsJob height binders kept (job.TypeParts id) = IsTypeJob trees (room + 1) height id
  IsJob height binders kept (job.Arguments id i) = IsTypeJob trees (room + 4) height id
  IsJob height binders kept (job.Term id) = IsTermJob trees room 0 height binders id
  IsJob height binders kept (job.TermParts id) = IsTermJob trees room 2 height binders id
  IsJob height binders kept (job.Word w) = height < room
  IsJob height binders kept (job.Conses k) = height < room
  IsJob height binders kept (job.Keep x) = IsKeepJob trees kept x
  IsJob height binders kept job.Unbind = height < room

  -- each is in order once those before it are done
  abbrev pub AreJobs : List TypeId → List Job → Draft → Type 0
  AreJobs binders [] d = Unit {0}
  AreJobs binders (j ∷ js) d = IsJob (length js) binders d.kept j × AreJobs (after trees q binders j) js (do_job trees q binders j d)
