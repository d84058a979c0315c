-- Agendas: what their jobs write and what is in order depend on what has keys alone, and the variables of binders.
use Rattle.std.proofs.Common.{◌≡◌, ℕ, zero, suc, ◌-◌, List, [], ◌∷◌, ◌++◌, length, map, drop, Option, Some, Result, Ok, Err, refl, sym, ap, subst, ◌∙◌, arith}
use Rattle.std.specs.Prelude.{slice_get}
use Rattle.bridge_base.specs.Outside.{GainsFront}
use Rattle.bridge_base.specs.Gaining.{gains_none, front_of_first}
use Rattle.hol_spec.specs.Terms.{Variable}
use Rattle.hol_type.specs.declared.table.TypeId.{TypeId}
use Rattle.hol_term.specs.Tables.{Trees, term_at, type_at}
use Rattle.article_spec.specs.declared.commands.Item.{Item}
use Rattle.article_spec.specs.declared.commands.Item.TheVariants as item
use Rattle.article_write_spec.specs.ItemTexts.{text_of}
use Rattle.article_write_spec.specs.BinderNames.{binder_name}
use Rattle.article_write_spec.specs.Drafts.{Draft}
use Rattle.article_write_spec.specs.WrittenTypes.{write_type}
use Rattle.article_write_spec.specs.WrittenTerms.{binder_at}
use Rattle.article_steps.specs.declared.room.Job.{Job}
use Rattle.article_steps.specs.declared.room.Job.TheVariants as job
use Rattle.article_steps.specs.Agenda.{Agenda}
use Rattle.article_lines.specs.Writing.{Writes}
use Rattle.article_lines.specs.Things.{Keyed}
use Rattle.article_lines.specs.KeptThings.{kept_at}
use Rattle.article_steps.specs.Said.{fresh, said, kept_by, IsAppending}
use Rattle.article_steps.specs.Parts.{arguments}
use Rattle.article_steps.specs.Agendas.{pushed, variables, types_of_binders, do_job, do_jobs, after, IsRoomy, IsJob, AreJobs}
use Rattle.article_steps.specs.Left.{kept_of, IsReady, left_text, Steps, Goes}
use Rattle.article_steps.proofs.SaidLaws.{appends-none, appends-then, appends-say, appends-keep, appends-conses, appends-each, appends-type, appends-build_type, appends-under, appends-build_under, kept-same, said-behind}

module _ (trees : Trees) (q : ℕ) where
  -- Binders
  pub length-variables : (binders : List TypeId) → length (variables trees q binders) ≡ length binders
  length-variables [] = refl
  length-variables (a ∷ binders) = ap suc (length-variables binders)

  pub types-variables : (binders : List TypeId) → map (λ (v : Variable). v.1) (variables trees q binders) ≡ types_of_binders trees binders
  types-variables [] = refl
  types-variables (a ∷ binders) = ap (λ l. type_at trees a.0 ∷ l) (types-variables binders)

  pub binder_at-variables : (binders : List TypeId) (k : ℕ) (a : TypeId) → slice_get binders k ≡ Some a → binder_at (variables trees q binders) k
      ≡ (binder_name q (length binders - suc k), type_at trees a.0)
  binder_at-variables [] k a e = absurd (cc)
  binder_at-variables (b ∷ binders) zero a e =
      let same : length (variables trees q binders) ≡ length (b ∷ binders) - suc zero = omega (arith, length-variables binders) in
      let one : b ≡ a = cc in
      ap (λ n. (binder_name q n, type_at trees b.0)) same ∙ ap (λ (c : TypeId). (binder_name q (length (b ∷ binders) - suc zero), type_at trees c.0)) one
  binder_at-variables (b ∷ binders) (suc k) a e =
      let same : length binders - suc k ≡ length (b ∷ binders) - suc (suc k) = omega arith in
      binder_at-variables binders k a e ∙ ap (λ n. (binder_name q n, type_at trees a.0)) same

  -- Jobs append
  pub appends-job : (binders : List TypeId) (j : Job) → IsAppending (do_job trees q binders j)
  appends-job binders (job.Type id) = appends-type (type_at trees id.0)
  appends-job binders (job.TypeParts id) = appends-build_type (type_at trees id.0)
  appends-job binders (job.Arguments id i) = appends-each write_type appends-type (drop i (arguments (type_at trees id.0)))
  appends-job binders (job.Term id) = appends-under q (variables trees q binders) (term_at trees id.0)
  appends-job binders (job.TermParts id) = appends-build_under q (term_at trees id.0) (variables trees q binders)
  appends-job binders (job.Word w) = appends-say (item.Word w)
  appends-job binders (job.Conses k) = appends-conses k
  appends-job binders (job.Keep x) = appends-keep (kept_at trees x)
  appends-job binders job.Unbind = appends-none

  pub appends-jobs : (binders : List TypeId) (js : List Job) → IsAppending (do_jobs trees q binders js)
  appends-jobs binders [] = appends-none
  appends-jobs binders (j ∷ js) = appends-then (do_job trees q binders j) (do_jobs trees q (after trees q binders j) js) (appends-job binders j)
      (appends-jobs (after trees q binders j) js)

  -- what is in order depends on what has keys alone
  pub AreJobs-same : (room : ℕ) (binders : List TypeId) (js : List Job) (d e : Draft) → d.kept ≡ e.kept → AreJobs trees q room binders js d
      → AreJobs trees q room binders js e
  AreJobs-same room binders [] d e same h = tt
  AreJobs-same room binders (j ∷ js) d e same h = (
    subst (λ l. IsJob trees q room (length js) binders l j) same h.0,
    AreJobs-same room (after trees q binders j) js (do_job trees q binders j d) (do_job trees q binders j e)
        (kept-same (do_job trees q binders j) d e (appends-job binders j) same) h.1,
  )

  -- What a job does
  -- with these commands written, an agenda is gone over into another
  pub goes : {T E : Type 0} (old : Agenda) (keys : Keyed) (items : List Item) (new : Agenda) (keys_now : Keyed) (got got_now : Option (List ℕ))
      (faults faults_now : ℕ) (r : Result T E)
      → IsReady trees q old keys → Steps trees q old keys items new keys_now → Writes got faults (text_of items) got_now faults_now r
      → Goes trees q old keys got faults new keys_now got_now faults_now r
  unfolding left_text said kept_by
  goes old keys items new keys_now got got_now faults faults_now (Ok v) ready s w =
      let whole : left_text trees q old keys ≡ text_of items ++ left_text trees q new keys_now =
      ap (λ (d : Draft). text_of d.commands) s.rest
      ∙ said-behind (do_jobs trees q new.binders new.jobs) items (kept_of trees keys_now) (appends-jobs new.binders new.jobs) in
      record {
        ok = record { done = text_of items; gains = w.ok; rest = whole };
        keeps = kept-same (do_jobs trees q new.binders new.jobs) (fresh (kept_of trees keys_now)) (record { commands = items; kept = kept_of trees keys_now })
            (appends-jobs new.binders new.jobs) refl ∙ sym (ap (λ (d : Draft). d.kept) s.rest);
        ready = record {
          jobs =
              AreJobs-same new.room new.binders new.jobs (record { commands = items; kept = kept_of trees keys_now }) (fresh (kept_of trees keys_now)) refl
              s.jobs;
          known = s.known;
          roomy = subst (IsRoomy trees) (sym s.room) ready.roomy;
        };
        count = s.count;
        less = s.less;
        room = s.room;
        err = tt;
        cause = w.cause;
      }
  goes old keys items new keys_now got got_now faults faults_now (Err x) ready s w =
      let whole : left_text trees q old keys ≡ text_of items ++ left_text trees q new keys_now =
      ap (λ (d : Draft). text_of d.commands) s.rest
      ∙ said-behind (do_jobs trees q new.binders new.jobs) items (kept_of trees keys_now) (appends-jobs new.binders new.jobs) in
      record {
        ok = tt;
        keeps = tt;
        ready = tt;
        count = tt;
        less = tt;
        room = s.room;
        err = subst (λ l. GainsFront got l got_now) (sym whole) (front_of_first got got_now (text_of items) (left_text trees q new keys_now) w.err);
        cause = w.cause;
      }

  -- the same, where the agenda is told by an equation
  pub goes-on : {T E : Type 0} (old : Agenda) (keys : Keyed) (items : List Item) (new is : Agenda) (keys_now : Keyed) (got got_now : Option (List ℕ))
      (faults faults_now : ℕ) (r : Result T E)
      → new ≡ is → IsReady trees q old keys → Steps trees q old keys items is keys_now → Writes got faults (text_of items) got_now faults_now r
      → Goes trees q old keys got faults new keys_now got_now faults_now r
  goes-on old keys items new is keys_now got got_now faults faults_now r e ready s w =
      subst (λ a. Goes trees q old keys got faults a keys_now got_now faults_now r) (sym e)
      (goes old keys items is keys_now got got_now faults faults_now r ready s w)

  -- the same, where the keys are told by an equation
  pub goes-keys : {T E : Type 0} (old : Agenda) (keys : Keyed) (new : Agenda) (keys_now keys_is : Keyed) (got got_now : Option (List ℕ)) (faults faults_now : ℕ)
      (r : Result T E)
      → keys_now ≡ keys_is → Goes trees q old keys got faults new keys_is got_now faults_now r
      → Goes trees q old keys got faults new keys_now got_now faults_now r
  goes-keys old keys new keys_now keys_is got got_now faults faults_now r e h =
      subst (λ k. Goes trees q old keys got faults new k got_now faults_now r) (sym e) h

  -- the same job, told by an equation
  pub goes-job : {T E : Type 0} (o : Agenda) (j i : Job) (keys : Keyed) (new : Agenda) (keys_now : Keyed) (got got_now : Option (List ℕ))
      (faults faults_now : ℕ) (r : Result T E)
      → j ≡ i → Goes trees q (pushed i o) keys got faults new keys_now got_now faults_now r
      → Goes trees q (pushed j o) keys got faults new keys_now got_now faults_now r
  goes-job o j i keys new keys_now got got_now faults faults_now r e h =
      subst (λ k. Goes trees q (pushed k o) keys got faults new keys_now got_now faults_now r) (sym e) h

  pub ready-job : (o : Agenda) (j i : Job) (keys : Keyed) → j ≡ i → IsReady trees q (pushed j o) keys → IsReady trees q (pushed i o) keys
  ready-job o j i keys e h = subst (λ k. IsReady trees q (pushed k o) keys) e h

  -- and nothing is written
  pub goes-quiet : {T E : Type 0} (old : Agenda) (keys : Keyed) (new is : Agenda) (keys_now : Keyed) (got : Option (List ℕ)) (faults : ℕ) (r : Result T E)
      (v : T)
      → r ≡ Ok v → new ≡ is → IsReady trees q old keys → Steps trees q old keys [] is keys_now → Goes trees q old keys got faults new keys_now got faults r
  goes-quiet old keys new is keys_now got faults (Ok w) v f e ready s =
      goes-on old keys [] new is keys_now got got faults faults (Ok w) e ready s
      (record { ok = gains_none got; err = tt; cause = record { later = omega arith; failed = tt } })
  goes-quiet old keys new is keys_now got faults (Err x) v f e ready s = absurd (cc)
