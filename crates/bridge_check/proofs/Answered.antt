-- The answer for a module is an answer for the file that reads as it.
use Rattle.std.proofs.Common.{◌≡◌, ℕ, Bool, List, refl}
use Rattle.lp_spec.specs.Modules.{Declaration}
use Rattle.bridge_spec.specs.Answers.{AnswersCheck}
use Rattle.bridge_spec.specs.Calls.{Shelved}
use Rattle.bridge_spec.specs.FileChecks.{ReadsAs}
use Rattle.bridge_answer.specs.AnswerTexts.{status_of, text_of, note_of}
use Rattle.bridge_answer.specs.declared.answer.Answer.{Answer}
use Rattle.bridge_answer.specs.declared.answer.Answer.TheVariants as answer
use Rattle.bridge_check.specs.Verdicts.{IsAnswer}

pub IsAnswer-AnswersCheck : (rechecks : Bool) (shelf : Shelved) (name : List ℕ) (m : List Declaration) (budget : ℕ) (a : Answer)
    → ReadsAs shelf.told_before name m → IsAnswer rechecks m budget a
    → AnswersCheck rechecks name budget shelf (status_of a) (text_of a) (note_of a)
IsAnswer-AnswersCheck rechecks shelf name m budget (answer.Told text) reads h = (m, record { file = reads; pass = h.0.pass; typed = h.0.typed }, h.1, refl)
IsAnswer-AnswersCheck rechecks shelf name m budget (answer.Refused article line kind) reads h = absurd h
IsAnswer-AnswersCheck rechecks shelf name m budget answer.Usage reads h = absurd h
IsAnswer-AnswersCheck rechecks shelf name m budget answer.ReadFault reads h = absurd h
IsAnswer-AnswersCheck rechecks shelf name m budget answer.Memory reads h = (refl, refl)
IsAnswer-AnswersCheck rechecks shelf name m budget (answer.DkRefused place kind) reads h = absurd h
IsAnswer-AnswersCheck rechecks shelf name m budget (answer.IllTyped i) reads h =
    (record { m = m; file = reads; before = h.before; price = h.price; no = h.no }, (refl, refl))
IsAnswer-AnswersCheck rechecks shelf name m budget (answer.OverBudget i) reads h =
    (record { m = m; file = reads; is = h.is; before = h.before; over = h.over }, (refl, refl))
IsAnswer-AnswersCheck rechecks shelf name m budget (answer.NotSequent i) reads h = absurd h
IsAnswer-AnswersCheck rechecks shelf name m budget answer.Unwritable reads h = absurd h
