-- The article of a run: it is accepted, its steps are the reached ones, its assumptions and exports those of the run that are reached, in order; and its article is the same text.
use Rattle.std.proofs.Common.{◌≡◌, ℕ, ◌≤◌, ◌==◌, Bool, true, [], ◌∷◌, map, length, refl, sym, ap, ap₂, subst, ◌∙◌}
use Rattle.std.specs.List.{AllByRecursion, list_any}
use Rattle.hol_laws.specs.Members.{All-weaker}
use Rattle.hol_spec.specs.declared.Version.{Version}
use Rattle.hol_spec.specs.Proofs.{Accepted, steps_of}
use Rattle.article_spec.specs.Lines.{max_article}
use Rattle.article_spec.specs.Run.{accepted, Run}
use Rattle.article_write_spec.specs.ItemTexts.{text_of}
use Rattle.article_write_spec.specs.Mentions.{Need}
use Rattle.article_write_spec.specs.ReachedSteps.{reached_steps, reached_from}
use Rattle.article_write_spec.specs.BinderNames.{binder_number}
use Rattle.article_write_spec.specs.Drafts.{Draft, write_each}
use Rattle.article_write_spec.specs.WrittenSteps.{write_step}
use Rattle.article_write_spec.specs.Versions.{IsLastVersion}
use Rattle.article_write_spec.specs.Retold.{RetellsBy}
use Rattle.article_write_spec.specs.Article.{version_draft, draft, article_items, article}
use Rattle.article_write_laws.specs.ItemLaws.{IsWritable}
use Rattle.article_write_laws.specs.Flags.{count, selected, renumbered}
use Rattle.article_write_laws.specs.ReachLaws.{is_flagged, reached-selected}
use Rattle.article_write_laws.specs.Tales.{Tale}
use Rattle.article_write_laws.specs.Retelling.{told}
use Rattle.article_write_laws.specs.RetoldRuns.{retold}
use Rattle.article_write_laws.specs.RetoldArticles.{retelling}
use Rattle.article_write_laws.specs.FixedPoint.{new_numbered, same-steps, same-binder_number, other-premise, again}
use Rattle.article_write_laws.specs.ClosedTales.{closed}

-- whether the exports of a run reach a step, and whether it is an export
abbrev pub is_told : Accepted → ℕ → Bool
is_told run = is_flagged (map Need.step run.exports) 0 (steps_of run.made)

abbrev pub is_export : Accepted → ℕ → Bool
is_export run i = list_any (λ e. i == e) run.exports

-- the number that a reached step has among the reached ones
abbrev pub new_number : Accepted → ℕ → ℕ
new_number run = count (is_told run)

-- a run whose reached steps can be told by one article
abbrev pub IsTellable : Version → Accepted → Type 0
IsTellable version run = Tale (binder_number (reached_steps run)) version (is_told run) (is_export run) run.made run.assumptions run.exports

module _ (version : Version) (run : Accepted) where
  q : ℕ
  q = binder_number (reached_steps run)

  reached-is : reached_steps run ≡ selected (is_told run) 0 (steps_of run.made)
  reached-is = reached-selected (map Need.step run.exports) 0 (steps_of run.made)

  draft-is : draft version run ≡ told (binder_number (reached_steps run)) version (is_told run) (is_export run) run.made
  draft-is = ap (λ l. write_each (write_step (binder_number (reached_steps run)) run.exports) l (version_draft version)) reached-is

  -- The article
  pub retells : IsTellable version run → AllByRecursion IsWritable (article_items version run) → length (article version run) ≤ max_article
      → (a : Accepted) × RetellsBy (is_told run) version run a
  retells tale writable small =
      let flag = is_told run in
      let number = binder_number (reached_steps run) in
      let items = ap (λ (d : Draft). d.commands) draft-is in
      let r = retelling number version flag (is_export run) tale (subst (AllByRecursion IsWritable) items writable)
      (subst (λ l. length (text_of l) ≤ max_article) items small) in
      let a = r.0 in
      let chosen = selected flag 0 (steps_of run.made) in
      let exported : AllByRecursion (λ j. flag j ≡ true) run.exports =
      All-weaker _ (λ j. flag j ≡ true) (λ j k. k.1) run.exports (retold number version flag (is_export run) tale).exports in
      let all_closed = closed number version flag (is_export run) tale in
      let back = again flag (map Need.step run.exports) (map Need.step (map (count flag) run.exports)) (other-premise flag run.exports) 0 (steps_of run.made)
      (λ k low. refl) all_closed in
      let reached_again : reached_steps a ≡ map (new_numbered flag) chosen =
      ap₂ (λ e l. (reached_from (map Need.step e) 0 l).steps) r.1.exports r.1.steps ∙ back.steps in
      let same_number : binder_number (reached_steps a) ≡ number =
      ap binder_number reached_again ∙ same-binder_number flag chosen ∙ ap binder_number (sym reached-is) in
      let drafts = same-steps flag number run.exports exported chosen all_closed (version_draft version) (version_draft version)
      (record { commands = refl; kept = refl; flagged = tt {0} }) in
      let again_items : article_items version a ≡ article_items version run =
      ap₂ (λ k e. (write_each (write_step k e) (reached_steps a) (version_draft version)).commands) same_number r.1.exports
      ∙ ap (λ l. (write_each (write_step number (map (count flag) run.exports)) l (version_draft version)).commands) reached_again
      ∙ drafts.commands ∙ sym items in (
        a,
        record {
          accepts = subst (λ l. Run (text_of l ∷ []) (accepted a)) (sym items) r.1.run;
          of_version = subst (λ l. IsLastVersion (text_of l ∷ []) version) (sym items) r.1.of_version;
          steps = r.1.steps ∙ ap (map (λ y. renumbered (count flag) y.step)) (sym reached-is);
          definitions = r.1.definitions;
          assumptions = r.1.assumptions;
          exports = r.1.exports;
          again = ap text_of again_items;
        },
      )
