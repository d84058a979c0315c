-- What is answered of an accepted run, in the words of the form, and the files that were begun.
use Rattle.std.proofs.Common.{◌≡◌, ℕ, List, Option, refl}
use Rattle.bridge_base.specs.Outside.{Begins, BeginsFront}
use Rattle.hol_spec.specs.Proofs.{Accepted}
use Rattle.hol_spec.specs.declared.Version.{Version}
use Rattle.hol_rules.specs.Kept.{Kept}
use Rattle.article_spec.specs.State.{State}
use Rattle.article_spec.specs.Run.{accepted_state}
use Rattle.article_write.specs.Plans.{run_of}
use Rattle.bridge_spec.specs.Answers.{IsRunOfVersion, AnswersArticle}
use Rattle.bridge_spec.specs.Begun.{BeginsFiles}
use Rattle.bridge_spec.specs.Calls.{Shelved}
use Rattle.bridge_spec.specs.declared.status.Status.{Status}
use Rattle.bridge_spec.specs.declared.status.Status.TheVariants.{Done, Refused, Usage, ReadFault, WriteFault, Memory, DkRefused, IllTyped, OverBudget, NotSequent, Unwritable}
use Rattle.bridge_article.specs.Runs.{AnswersOfRun}

-- the run of a proof is that of the state that has it
pub run_of-state : (p : Kept) (assumptions exports : List ℕ) (s : State) → p.made ≡ s.made → assumptions ≡ s.assumptions → exports ≡ s.exports
    → run_of p assumptions exports ≡ accepted_state s
run_of-state p assumptions exports s made assumed exported = rw made (rw assumed (rw exported refl))

module _ (version : Version) (run : Accepted) where
  -- an answer of a run of these files is one of the form
  pub of-run-AnswersArticle : (names : List (List ℕ)) (shelf : Shelved) → IsRunOfVersion shelf.told_before names version run
      → (status : Status) (out note : List ℕ) → AnswersOfRun version run status out note → AnswersArticle names shelf status out note
  of-run-AnswersArticle names shelf r Done out note h = (version, run, r, h.0, h.1, h.2)
  of-run-AnswersArticle names shelf r Memory out note h = h
  of-run-AnswersArticle names shelf r Unwritable out note h = (version, run, r, h.0, h.1)
  of-run-AnswersArticle names shelf r (Refused article line kind) out note h = absurd h
  of-run-AnswersArticle names shelf r Usage out note h = absurd h
  of-run-AnswersArticle names shelf r ReadFault out note h = absurd h
  of-run-AnswersArticle names shelf r WriteFault out note h = absurd h
  of-run-AnswersArticle names shelf r (DkRefused place kind) out note h = absurd h
  of-run-AnswersArticle names shelf r (IllTyped i) out note h = absurd h
  of-run-AnswersArticle names shelf r (OverBudget i) out note h = absurd h
  of-run-AnswersArticle names shelf r (NotSequent i) out note h = absurd h

  -- where all files were begun, they are those that belong to the answer
  pub of-run-BeginsFiles : (before now : Option (List (List ℕ))) (names : List (List ℕ)) → Begins before names now → BeginsFront before names now
      → (status : Status) (out note : List ℕ) → AnswersOfRun version run status out note → BeginsFiles status before names now
  of-run-BeginsFiles before now names all front Done out note h = all
  of-run-BeginsFiles before now names all front Memory out note h = front
  of-run-BeginsFiles before now names all front Unwritable out note h = all
  of-run-BeginsFiles before now names all front (Refused article line kind) out note h = absurd h
  of-run-BeginsFiles before now names all front Usage out note h = all
  of-run-BeginsFiles before now names all front ReadFault out note h = front
  of-run-BeginsFiles before now names all front WriteFault out note h = all
  of-run-BeginsFiles before now names all front (DkRefused place kind) out note h = all
  of-run-BeginsFiles before now names all front (IllTyped i) out note h = all
  of-run-BeginsFiles before now names all front (OverBudget i) out note h = all
  of-run-BeginsFiles before now names all front (NotSequent i) out note h = all
