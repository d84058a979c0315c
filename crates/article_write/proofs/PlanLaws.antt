-- What is planned of a proof is the plan of its run.
use Rattle.std.proofs.Common.{◌≡◌, ℕ, zero, suc, ◌<◌, List, [], ◌∷◌, length, Some, slice_get, refl, sym, ap, ap₂, ◌∙◌, arith}
use Rattle.std.specs.Prelude.{slice_index_or}
use Rattle.std.specs.List.{list_all}
use Rattle.std.proofs.lemmas.Option.{slice_get_within}
use Rattle.hol_spec.specs.declared.Version.{Version}
use Rattle.hol_spec.specs.Proofs.{Step, Accepted, steps_of}
use Rattle.hol_rules.specs.Kept.{Kept, step_count}
use Rattle.hol_rules.specs.Views.{step_at}
use Rattle.article_write_spec.specs.Article.{fits, version_draft, version_items, draft, article}
use Rattle.article_write_spec.specs.ArticleLength.{count_step, tally}
use Rattle.article_write_spec.specs.Drafts.{Draft, write_each}
use Rattle.article_write_spec.specs.Lengths.{count_each, items_length}
use Rattle.article_write_spec.specs.ReachedSteps.{Numbered}
use Rattle.article_write_spec.specs.WrittenSteps.{write_step}
use Rattle.article_write_laws.specs.Flags.{selected}
use Rattle.article_lines.specs.Flagged.{flag, ArePairs}
use Rattle.article_reach.specs.Reached.{Told, IsReach}
use Rattle.article_write.specs.Fitting.{fits_step}
use Rattle.article_write.specs.Pairs.{IsFollowed}
use Rattle.article_write.specs.Plans.{Planned, IsPlanOf}
use Rattle.article_write_spec.specs.ItemTexts.{text_of}

-- A place in a list
at-index : (xs : List Step) (i : ℕ) (x d : Step) → slice_get xs i ≡ Some x → slice_index_or xs i d ≡ x
at-index [] i x d e = absurd (cc)
at-index (y ∷ xs) zero x d e = cc
at-index (y ∷ xs) (suc i) x d e = at-index xs i x d e

index-at : (xs : List Step) (i : ℕ) (d : Step) → i < length xs → slice_get xs i ≡ Some (slice_index_or xs i d)
index-at [] i d l = absurd (omega (arith, l))
index-at (y ∷ xs) zero d l = refl
index-at (y ∷ xs) (suc i) d l = index-at xs i d (omega (arith, l))

pub followed-ArePairs : (p : Kept) → ((i : ℕ) → i < step_count p → IsFollowed p i) → ArePairs (steps_of p.made)
followed-ArePairs p h i x at first =
    let low = slice_get_within (steps_of p.made) i x at in
    let r = h i low (ap (λ (y : Step). y.kind) (at-index (steps_of p.made) i x _ at) ∙ first) in
    (step_at p.made (suc i), index-at (steps_of p.made) (suc i) _ r.0, r.1)

-- The run of a proof, by what is reached of it
module _ (version : Version) (run : Accepted) (r : Told) (h : IsReach run.made run.exports r) where
  abbrev steps : List Numbered
  steps = selected (flag r.told) 0 (steps_of run.made)

  pub reach-fits : list_all (fits_step version run.exports) steps ≡ fits version run
  reach-fits = ap (list_all (fits_step version run.exports)) (h.reached run refl refl)

  pub reach-tally : count_each (count_step r.number run.exports) steps (record { kept = []; length = items_length (version_items version) }) ≡ tally version run
  reach-tally = ap₂ (λ (q : ℕ) (ys : List Numbered). count_each (count_step q run.exports) ys
      (record { kept = []; length = items_length (version_items version) })) (h.number run refl refl) (h.reached run refl refl)

  pub reach-draft : write_each (write_step r.number run.exports) steps (version_draft version) ≡ draft version run
  reach-draft = ap₂ (λ (q : ℕ) (ys : List Numbered). write_each (write_step q run.exports) ys (version_draft version)) (h.number run refl refl)
      (h.reached run refl refl)

-- what is written of a plan is the article of its run
pub plan-text : (p : Kept) (version : Version) (run : Accepted) (plan : Planned) → IsPlanOf p version run plan
    → text_of (write_each (write_step plan.reach.number run.exports) (selected (flag plan.reach.told) 0 (steps_of p.made))
    (version_draft plan.version)).commands ≡ article version run
plan-text p version run plan h =
    ap₂ (λ v made. text_of
    (write_each (write_step plan.reach.number run.exports) (selected (flag plan.reach.told) 0 (steps_of made)) (version_draft v)).commands) h.of_version
    (sym h.made)
    ∙ ap (λ (d : Draft). text_of d.commands) (reach-draft version run plan.reach h.reach)
