-- What is answered for a stop comes by its cause, in each form that runs articles, and the files were begun that belong to it.
use Rattle.std.proofs.Common.{◌≡◌, ℕ, Bool, List, Option, refl}
use Rattle.bridge_base.specs.Outside.{BeginsFront}
use Rattle.bridge_spec.specs.Answers.{AnswersVerify, AnswersTranslate, AnswersShow, AnswersArticle, ReadFailed}
use Rattle.bridge_spec.specs.Begun.{BeginsFiles}
use Rattle.bridge_spec.specs.Calls.{Shelved}
use Rattle.bridge_answer.specs.AnswerTexts.{status_of, text_of, note_of}
use Rattle.bridge_reading.specs.Stops.{Stops, StopsBegun, answer_of_stop}
use Rattle.bridge_reading.specs.declared.articles.Stop.{Stop}
use Rattle.bridge_reading.specs.declared.articles.Stop.TheVariants as stop

module _ (names : List (List ℕ)) (shelf : Shelved) where
  pub stop-AnswersVerify : (share : Bool) (s : Stop) → Stops s shelf.told_before names → (s ≡ stop.ReadFault → ReadFailed shelf)
      → AnswersVerify share names shelf (status_of (answer_of_stop s)) (text_of (answer_of_stop s)) (note_of (answer_of_stop s))
  stop-AnswersVerify share (stop.Refused article line kind) h f = (h, (refl, refl))
  stop-AnswersVerify share stop.ReadFault h f = (f refl, (refl, refl))
  stop-AnswersVerify share stop.Memory h f = (refl, refl)

  pub stop-AnswersTranslate : (share : Bool) (s : Stop) → Stops s shelf.told_before names → (s ≡ stop.ReadFault → ReadFailed shelf)
      → AnswersTranslate share names shelf (status_of (answer_of_stop s)) (text_of (answer_of_stop s)) (note_of (answer_of_stop s))
  stop-AnswersTranslate share (stop.Refused article line kind) h f = (h, (refl, refl))
  stop-AnswersTranslate share stop.ReadFault h f = (f refl, (refl, refl))
  stop-AnswersTranslate share stop.Memory h f = (refl, refl)

  pub stop-AnswersShow : (s : Stop) → Stops s shelf.told_before names → (s ≡ stop.ReadFault → ReadFailed shelf)
      → AnswersShow names shelf (status_of (answer_of_stop s)) (text_of (answer_of_stop s)) (note_of (answer_of_stop s))
  stop-AnswersShow (stop.Refused article line kind) h f = (h, (refl, refl))
  stop-AnswersShow stop.ReadFault h f = (f refl, (refl, refl))
  stop-AnswersShow stop.Memory h f = (refl, refl)

  pub stop-AnswersArticle : (s : Stop) → Stops s shelf.told_before names → (s ≡ stop.ReadFault → ReadFailed shelf)
      → AnswersArticle names shelf (status_of (answer_of_stop s)) (text_of (answer_of_stop s)) (note_of (answer_of_stop s))
  stop-AnswersArticle (stop.Refused article line kind) h f = (h, (refl, refl))
  stop-AnswersArticle stop.ReadFault h f = (f refl, (refl, refl))
  stop-AnswersArticle stop.Memory h f = (refl, refl)

-- the files that were begun are those of the answer
pub stop-BeginsFiles : (s : Stop) (before now : Option (List (List ℕ))) (names : List (List ℕ)) → StopsBegun s before names now → BeginsFront before names now
    → BeginsFiles (status_of (answer_of_stop s)) before names now
stop-BeginsFiles (stop.Refused article line kind) before now names first front = first
stop-BeginsFiles stop.ReadFault before now names first front = front
stop-BeginsFiles stop.Memory before now names first front = front
