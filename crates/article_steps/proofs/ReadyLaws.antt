-- Agendas of a few jobs are in order.
use Rattle.std.proofs.Common.{ℕ, ◌<◌, ◌≤◌, [], length, arith}
use Rattle.hol_type.specs.declared.table.TypeId.{TypeId}
use Rattle.hol_term.specs.declared.TermId.{TermId}
use Rattle.hol_term.specs.Tables.{Trees, IsTermAt}
use Rattle.article_spec.specs.declared.commands.Word.TheVariants as word
use Rattle.article_steps.specs.declared.room.Job.TheVariants as job
use Rattle.article_steps.specs.Agenda.{Agenda}
use Rattle.article_lines.specs.Things.{Keyed}
use Rattle.article_steps.specs.Agendas.{pushed, cleared, IsTypeJob, IsTermJob}
use Rattle.article_steps.specs.Left.{IsReady, IsOpen}

module _ (trees : Trees) (q : ℕ) (a : Agenda) (keys : Keyed) (o : IsOpen trees keys a.room) where
  type-behind : (height : ℕ) (ty : TypeId) → height ≤ 12 → ty.0 < length trees.types → IsTypeJob trees a.room height ty
  type-behind height ty low known = let roomy = o.roomy.types ty.0 known in record { known = known; fits = omega (arith, roomy, low) }

  term-behind : (height : ℕ) (id : TermId) → height ≤ 6 → id.0 < length trees.terms → IsTermAt trees id.0 → IsTermJob trees a.room 0 height [] id
  term-behind height id low known closed =
      let roomy = o.roomy.terms id.0 known in record
      { known = known; typed = closed; fits = omega (arith, roomy, low); bound = tt; binds = omega (arith, roomy) }

  pub room-least : 12 ≤ a.room
  room-least = o.roomy.least

  pub ready-term : (id : TermId) → id.0 < length trees.terms → IsTermAt trees id.0 → IsReady trees q (pushed (job.Term id) (cleared a)) keys
  ready-term id known closed = record { jobs = (term-behind 0 id (omega arith) known closed, tt); known = o.known; roomy = o.roomy }

  pub ready-variable : (ty : TypeId) → ty.0 < length trees.types → IsReady trees q (pushed (job.Type ty) (pushed (job.Word word.Var) (cleared a))) keys
  ready-variable ty known = let least = room-least in record
      { jobs = (type-behind 1 ty (omega arith) known, (omega (arith, least), tt)); known = o.known; roomy = o.roomy }

  pub ready-list : (k : ℕ) → IsReady trees q (pushed (job.Word word.Nil) (pushed (job.Conses k) (cleared a))) keys
  ready-list k = let least = room-least in record { jobs = (omega (arith, least), (omega (arith, least), tt)); known = o.known; roomy = o.roomy }

  pub ready-type_pair : (ty : TypeId) → ty.0 < length trees.types
      → IsReady trees q (pushed (job.Type ty) (pushed (job.Word word.Nil) (pushed (job.Conses 2) (cleared a)))) keys
  ready-type_pair ty known = let least = room-least in record
      { jobs = (type-behind 2 ty (omega arith) known, (omega (arith, least), (omega (arith, least), tt))); known = o.known; roomy = o.roomy }

  pub ready-term_pair : (ty : TypeId) (id : TermId) → ty.0 < length trees.types → id.0 < length trees.terms → IsTermAt trees id.0
      → IsReady trees q
      (pushed (job.Type ty) (pushed (job.Word word.Var) (pushed (job.Term id) (pushed (job.Word word.Nil) (pushed (job.Conses 2) (cleared a)))))) keys
  ready-term_pair ty id known term closed = let least = room-least in
      record {
        jobs = (
          type-behind 4 ty (omega arith) known,
          (omega (arith, least), (term-behind 2 id (omega arith) term closed, (omega (arith, least), (omega (arith, least), tt)))),
        );
        known = o.known;
        roomy =
            o.roomy;
      }
