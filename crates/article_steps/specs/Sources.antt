-- What is written of the steps of a source: of one by its number, and of those that are told.
use Rattle.std.specs.Prelude.{ℕ, List}
use Rattle.hol_spec.specs.declared.Version.{Version}
use Rattle.hol_spec.specs.Proofs.{Step, steps_of}
use Rattle.hol_rules.specs.Views.{step_at}
use Rattle.article_write_spec.specs.Article.{version_draft}
use Rattle.article_write_spec.specs.ItemTexts.{text_of}
use Rattle.article_write_spec.specs.Drafts.{Draft, write_each}
use Rattle.article_write_spec.specs.ReachedSteps.{Numbered}
use Rattle.article_write_spec.specs.WrittenSteps.{write_given, write_export, write_assumption, write_inferred, write_step}
use Rattle.article_write_laws.specs.Flags.{selected}
use Rattle.article_lines.specs.Flagged.{flag, AreExports}
use Rattle.article_steps.specs.declared.sources.Source.{Source}
use Rattle.article_steps.specs.SelectedSteps.{flagged_writer, told_writer}

module _ (source : Source) where
  abbrev pub step_in : ℕ → Step
  step_in i = step_at source.proof.now.made i

  abbrev pub numbered_in : ℕ → Numbered
  numbered_in i = record { number = i; step = step_in i }

  abbrev pub given_of : ℕ → Draft → Draft
  given_of i = write_given source.number (step_in i).parameters

  abbrev pub export_of : ℕ → Draft → Draft
  export_of i = write_export source.number (step_in i)

  abbrev pub assumption_of : ℕ → Draft → Draft
  assumption_of i = write_assumption source.number i (step_in i)

  abbrev pub inferred_of : ℕ → Draft → Draft
  inferred_of i = write_inferred source.number i (step_in i)

  -- a step, by its flags
  abbrev pub step_of : ℕ → Draft → Draft
  step_of i = flagged_writer source.number (flag source.is_export.now) (numbered_in i)

  abbrev pub told_of : ℕ → Draft → Draft
  told_of i = told_writer (flag source.told.now) (flagged_writer source.number (flag source.is_export.now)) (numbered_in i)

  -- the flags tell the exports
  abbrev pub AreExportsOf : List ℕ → Type 0
  AreExportsOf exports = AreExports source.is_export.now exports

  -- what is written of those that are told, and the text of an article of them with these exports
  abbrev pub all_told : Draft → Draft
  all_told = write_each (flagged_writer source.number (flag source.is_export.now)) (selected (flag source.told.now) 0 (steps_of source.proof.now.made))

  abbrev pub told_text : Version → List ℕ → List ℕ
  told_text version exports =
      text_of (write_each (write_step source.number exports) (selected (flag source.told.now) 0 (steps_of source.proof.now.made))
      (version_draft version)).commands
