-- The run of the article on the shelf: it is that of the generated article, and nothing stops it.
use Rattle.std.proofs.Common.{◌≡◌, ◌<◌, ◌≤◌, ℕ, List, [], ◌∷◌, Some, length, refl, sym, ap, subst, ◌∙◌, arith}
use Rattle.bridge_base.specs.Outside.{Files, Rose}
use Rattle.common.specs.declared.faults.Kind.{Kind}
use Rattle.hol_spec.specs.Proofs.{Accepted}
use Rattle.article_spec.specs.Run.{machine, accepted, refused_at, Run}
use Rattle.article_laws.specs.RunLaws.{one_outcome}
use Rattle.article_spec.specs.Trial.{trial_text}
use Rattle.article_trial_laws.specs.TrialArticles.{trials_are_accepted}
use Rattle.bridge_spec.specs.Answers.{AreRead, IsRunOf, IsRunOfTrial, RunsTo}
use Rattle.bridge_spec.specs.Forms.{greatest_trial}
use Rattle.bridge_answer.specs.declared.answer.Answer.TheVariants as answer
use Rattle.bridge_reading.specs.Stops.{Stops, answer_of_stop}
use Rattle.bridge_reading.specs.declared.articles.Stop.{Stop}
use Rattle.bridge_reading.specs.declared.articles.Stop.TheVariants as stop
use Rattle.bridge_trial.specs.Articles.{article_name, article_files}

-- what is read of the shelf is the article
read-article : (n : ℕ) (texts : List (List ℕ)) → AreRead (Some (article_files n)) (article_name ∷ []) texts → texts ≡ trial_text n ∷ []
read-article n texts h = h

-- the article is not refused
not-refused : (n article line : ℕ) (kind : Kind) → 0 < n → n ≤ greatest_trial
    → RunsTo (Some (article_files n)) (article_name ∷ []) (refused_at article line kind) → ⊥
not-refused n article line kind some within h =
    let one = one_outcome machine (trial_text n ∷ []) in
    let a = trials_are_accepted n some within in
    let same : refused_at article line kind ≡ accepted a.0 =
    one.only (refused_at article line kind) (subst (λ texts. Run texts (refused_at article line kind)) (read-article n h.texts h.read) h.runs)
    ∙ sym (one.only (accepted a.0) a.1.run) in
    absurd (cc)

module _ (n : ℕ) (files : Files) (names : List (List ℕ)) (shelf : files ≡ article_files n) (name : names ≡ article_name ∷ []) where
  -- one article is read
  pub length-names : length names ≡ 1
  length-names = ap length name

  -- an accepted run of what is read is one of the generated article
  pub run-IsRunOfTrial : (run : Accepted) → IsRunOf (Some files) names run → IsRunOfTrial n run
  run-IsRunOfTrial run r =
      let read = subst (λ fs. AreRead (Some fs) (article_name ∷ []) r.texts) shelf (subst (λ ns. AreRead (Some files) ns r.texts) name r.read) in
      subst (λ texts. Run texts (accepted run)) (read-article n r.texts read) r.runs

  -- only want of memory stops the run, where no read fails
  pub stop-Memory : 0 < n → n ≤ greatest_trial → (s : Stop) → Stops s (Some files) names → (s ≡ stop.ReadFault → Rose 0 0) → answer_of_stop s ≡ answer.Memory
  stop-Memory some within (stop.Refused article line kind) h failed =
      absurd (not-refused n article line kind some within
      (subst (λ fs. RunsTo (Some fs) (article_name ∷ []) (refused_at article line kind)) shelf
      (subst (λ ns. RunsTo (Some files) ns (refused_at article line kind)) name h)))
  stop-Memory some within stop.ReadFault h failed = let rose = failed refl in absurd (omega (arith, rose))
  stop-Memory some within stop.Memory h failed = refl
