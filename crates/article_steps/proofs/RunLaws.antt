-- How far the loop over an agenda has come.
use Rattle.std.proofs.Common.{◌≡◌, ℕ, ◌≤◌, List, [], ◌++◌, Option, Result, Ok, Err, IsErr, refl, sym, ap, subst, ◌∙◌, arith, append_assoc}
use Rattle.std.proofs.lemmas.List.{append-nil}
use Rattle.bridge_base.specs.Outside.{Gains, GainsFront}
use Rattle.bridge_base.specs.Gaining.{gains_none, gains_both, front_of_second, rose_after}
use Rattle.hol_type.specs.declared.table.TypeId.{TypeId}
use Rattle.hol_term.specs.Tables.{Trees}
use Rattle.article_write_spec.specs.Drafts.{Kept}
use Rattle.article_steps.specs.declared.room.Job.{Job}
use Rattle.article_steps.specs.Agenda.{Agenda}
use Rattle.article_lines.specs.Things.{Keyed}
use Rattle.article_steps.specs.Said.{said, kept_by}
use Rattle.article_steps.specs.Agendas.{pushed, do_jobs, IsRoomy}
use Rattle.article_steps.specs.Left.{Gained, kept_of, IsReady, left_text, Goes, Adds}

-- what was gone over, and what is left
pub record Running (trees : Trees) (q : ℕ) (first : Agenda) (keys_first : Keyed) (got_first : Option (List ℕ)) (faults_first : ℕ) (a : Agenda) (keys : Keyed)
    (got : Option (List ℕ)) (faults : ℕ) : Type 0 where
  pub text : Gained got_first (left_text trees q first keys_first) (left_text trees q a keys) got
  pub keeps : kept_by (do_jobs trees q a.binders a.jobs) (kept_of trees keys) ≡ kept_by (do_jobs trees q first.binders first.jobs) (kept_of trees keys_first)
  pub ready : IsReady trees q a keys
  pub count : keys.theorems ≡ keys_first.theorems
  pub later : faults_first ≤ faults

gained-none : (a : Option (List ℕ)) (whole : List ℕ) → Gained a whole whole a
gained-none a whole = record { done = []; gains = gains_none a; rest = refl }

gained-both : (a b c : Option (List ℕ)) (whole left rest : List ℕ) → Gained a whole left b → Gained b left rest c → Gained a whole rest c
gained-both a b c whole left rest g h = record {
  done = g.done ++ h.done;
  gains = gains_both a b c g.done h.done g.gains h.gains;
  rest = g.rest ∙ ap (λ l. g.done ++ l) h.rest ∙ sym (append_assoc g.done h.done rest);
}

gained-all : (a b : Option (List ℕ)) (whole left : List ℕ) → left ≡ [] → Gained a whole left b → Gains a whole b
gained-all a b whole left e g = subst (λ l. Gains a l b) (sym (g.rest ∙ ap (λ l. g.done ++ l) e ∙ append-nil g.done)) g.gains

gained-front : (a b c : Option (List ℕ)) (whole left : List ℕ) → Gained a whole left b → GainsFront b left c → GainsFront a whole c
gained-front a b c whole left g h = subst (λ l. GainsFront a l c) (sym g.rest) (front_of_second a b c g.done left g.gains h)

module _ (trees : Trees) (q : ℕ) where
  said-nothing : (binders : List TypeId) (js : List Job) (kept : List Kept) → js ≡ [] → said (do_jobs trees q binders js) kept ≡ []
  unfolding said
  said-nothing binders js kept e = ap (λ l. said (do_jobs trees q binders l) kept) e

  kept-nothing : (binders : List TypeId) (js : List Job) (kept : List Kept) → js ≡ [] → kept_by (do_jobs trees q binders js) kept ≡ kept
  unfolding kept_by
  kept-nothing binders js kept e = ap (λ l. kept_by (do_jobs trees q binders l) kept) e

  module _ (first : Agenda) (keys_first : Keyed) (got_first : Option (List ℕ)) (faults_first : ℕ) where
    pub running-first : IsReady trees q first keys_first → Running trees q first keys_first got_first faults_first first keys_first got_first faults_first
    running-first r = record { text = gained-none got_first (left_text trees q first keys_first); keeps = refl; ready = r; count = refl; later = omega arith }

    -- the next job is taken off
    pub running-popped : (a b : Agenda) (j : Job) (keys : Keyed) (got : Option (List ℕ)) (faults : ℕ) → a ≡ pushed j b
        → Running trees q first keys_first got_first faults_first a keys got faults
        → Running trees q first keys_first got_first faults_first (pushed j b) keys got faults
    running-popped a b j keys got faults e h = subst (λ x. Running trees q first keys_first got_first faults_first x keys got faults) e h

    pub running-on : {T E : Type 0} (a n : Agenda) (keys keys_now : Keyed) (got got_now : Option (List ℕ)) (faults faults_now : ℕ) (r : Result T E) (v : T) → r
        ≡ Ok v
        → Running trees q first keys_first got_first faults_first a keys got faults → Goes trees q a keys got faults n keys_now got_now faults_now r
        → Running trees q first keys_first got_first faults_first n keys_now got_now faults_now
    running-on a n keys keys_now got got_now faults faults_now (Ok w) v e h g = record {
      text = gained-both got_first got got_now _ _ _ h.text g.ok;
      keeps = g.keeps ∙ h.keeps;
      ready = g.ready;
      count = g.count ∙ h.count;
      later = (let l = h.later in let k = g.cause.later in omega (arith, l, k));
    }
    running-on a n keys keys_now got got_now faults faults_now (Err x) v e h g = absurd (cc)

    pub running-end : {T E : Type 0} (a n : Agenda) (keys : Keyed) (got : Option (List ℕ)) (faults : ℕ) (r : Result T E) (v : T) → r ≡ Ok v → n ≡ a → a.jobs
        ≡ []
        → Running trees q first keys_first got_first faults_first a keys got faults
        → Adds trees (do_jobs trees q first.binders first.jobs) keys_first got_first faults_first keys n.room got faults r
    unfolding left_text
    running-end a n keys got faults (Ok w) v e same none h = record {
      tells = record {
        writes = record {
          ok = gained-all got_first got _ _ (said-nothing a.binders a.jobs (kept_of trees keys) none) h.text;
          err = tt;
          cause = record { later = h.later; failed = tt };
        };
        keeps = sym (kept-nothing a.binders a.jobs (kept_of trees keys) none) ∙ h.keeps;
      };
      ready = record { known = h.ready.known; roomy = subst (λ (x : Agenda). IsRoomy trees x.room) (sym same) h.ready.roomy };
      count = h.count;
    }
    running-end a n keys got faults (Err x) v e same none h = absurd (cc)

    pub running-failed : {T E U F : Type 0} (a n : Agenda) (keys keys_now : Keyed) (got got_now : Option (List ℕ)) (faults faults_now : ℕ) (r : Result T E)
        (s : Result U F) (x : E) → r ≡ Err x → IsErr s
        → Running trees q first keys_first got_first faults_first a keys got faults → Goes trees q a keys got faults n keys_now got_now faults_now r
        → Adds trees (do_jobs trees q first.binders first.jobs) keys_first got_first faults_first keys_now n.room got_now faults_now s
    unfolding left_text
    running-failed a n keys keys_now got got_now faults faults_now (Err y) (Err z) x e u h g = record {
      tells = record {
        writes = record {
          ok = tt;
          err = gained-front got_first got got_now _ _ h.text g.err;
          cause = (let l = h.later in let k = g.cause.later in record
              { later = omega (arith, l, k); failed = rose_after faults_first faults faults_now l g.cause.failed });
        };
        keeps = tt;
      };
      ready = tt;
      count = tt;
    }
    running-failed a n keys keys_now got got_now faults faults_now (Err y) (Ok z) x e u h g = absurd (cc)
    running-failed a n keys keys_now got got_now faults faults_now (Ok y) s x e u h g = absurd (cc)
