use Rattle.std.proofs.Common.{false, subst, ◌∙◌}
use Rattle.bridge_spec.specs.Calls.{names_in}
use Rattle.bridge_translate.specs.Translations.{IsTranslationOf}
use Rattle.bridge_trial.proofs.TrialRuns.{length-names, run-IsRunOfTrial, stop-Memory}
use Rattle.bridge_trial.proofs.verification.translated_from.Goals as goal

pub returns-in-Ok-clause-translated : goal.returns-in-Ok-clause-translated
returns-in-Ok-clause-translated c =
    let t = c.in-Ok.ensures.translated in
    let n = c.args.n in
    let files = c.args.shelf.now.files in
    let names = names_in c.args.words.now in (
      t.0,
      run-IsRunOfTrial n files names c.requires.files c.requires.name t.0 t.1,
      subst (λ articles. IsTranslationOf false articles t.0 c.in-Ok.translation) (length-names n files names c.requires.files c.requires.name) t.2,
    )

pub returns-in-Err-clause-memory : goal.returns-in-Err-clause-memory
returns-in-Err-clause-memory c =
    c.into_answer.ensures
    ∙ stop-Memory c.args.n c.args.shelf.now.files (names_in c.args.words.now) c.requires.files c.requires.name c.requires.some c.requires.within c.in-Err.stop
    c.in-Err.ensures.refused c.in-Err.ensures.read_fault
