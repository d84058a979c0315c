use Rattle.std.proofs.Common.{◌≡◌, ℕ, zero, suc, ◌+◌, ◌≤◌, List, [], ◌∷◌, ◌++◌, length, take, refl, sym, ap, ◌∙◌, arith}
use Rattle.std.specs.Prelude.{slice_index_or}
use Rattle.std.proofs.Math.Seq.{take-suc}
use Rattle.article_steps.specs.declared.room.Job.{Job}
use Rattle.article_steps.specs.declared.room.Job.TheVariants as job
use Rattle.article_steps.specs.Agenda.{Agenda}
use Rattle.article_steps.specs.Agendas.{pushed, pushed_all}
use Rattle.article_steps.proofs.room.Room.push_all.Goals as goal

pushed_all-last : (js : List Job) (j : Job) (a : Agenda) → pushed_all (js ++ j ∷ []) a ≡ pushed j (pushed_all js a)
pushed_all-last [] j a = refl
pushed_all-last (i ∷ js) j a = pushed_all-last js j (pushed i a)

pushed_all-room : (js : List Job) (a : Agenda) → (pushed_all js a).room ≡ a.room
pushed_all-room [] a = refl
pushed_all-room (j ∷ js) a = pushed_all-room js (pushed j a)

-- the first jobs are as many as they are
pushed_all-length : (js : List Job) (i : ℕ) (a : Agenda) → i ≤ length js → length (pushed_all (take i js) a).jobs ≡ i + length a.jobs
pushed_all-length js zero a h = omega arith
pushed_all-length [] (suc i) a h = absurd (omega (arith, h))
pushed_all-length (j ∷ js) (suc i) a h = pushed_all-length js i (pushed j a) (omega (arith, h))
    ∙ (let e : i + suc (length a.jobs) ≡ suc i + length a.jobs = omega arith in e)

pub loop-job-preserved : goal.loop-job-preserved
loop-job-preserved c =
    let js = c.args.jobs.now in
    let i = c.loop-job.job-index in
    let next : i + 1 ≡ suc i = omega arith in
    let d : Job = job.Type (record { 0 = 0 }) in
    c.push.ensures ∙ ap (pushed (slice_index_or js i d)) c.loop-job.invariant
    ∙ sym (ap (λ k. pushed_all (take k js) c.args.self.now) next ∙ ap (λ l. pushed_all l c.args.self.now) (take-suc js i d c.loop-job-test.true)
    ∙ pushed_all-last (take i js) (slice_index_or js i d) c.args.self.now)

pub push-requires : goal.push-requires
push-requires c =
    let js = c.args.jobs.now in
    let i = c.loop-job.job-index in
    let room = ap (λ (a : Agenda). a.room) c.loop-job.invariant ∙ pushed_all-room (take i js) c.args.self.now in
    let count = ap (λ (a : Agenda). length a.jobs) c.loop-job.invariant ∙ pushed_all-length js i c.args.self.now (omega (arith, c.loop-job-test.true)) in
    omega (arith, room, count, c.requires, c.loop-job-test.true)
