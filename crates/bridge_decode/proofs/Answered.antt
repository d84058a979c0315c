-- The answer for a module is an answer for the file that reads as it.
use Rattle.std.proofs.Common.{ℕ, List, refl}
use Rattle.lp_spec.specs.Modules.{Declaration}
use Rattle.bridge_spec.specs.Answers.{AnswersDecode}
use Rattle.bridge_spec.specs.Calls.{Shelved}
use Rattle.bridge_spec.specs.FileChecks.{ReadsAs}
use Rattle.bridge_answer.specs.AnswerTexts.{status_of, text_of, note_of}
use Rattle.bridge_answer.specs.declared.answer.Answer.{Answer}
use Rattle.bridge_answer.specs.declared.answer.Answer.TheVariants as answer
use Rattle.bridge_decode.specs.Saying.{IsAnswer}

pub IsAnswer-AnswersDecode : (shelf : Shelved) (name : List ℕ) (m : List Declaration) (a : Answer) → ReadsAs shelf.told_before name m → IsAnswer m a
    → AnswersDecode name shelf (status_of a) (text_of a) (note_of a)
IsAnswer-AnswersDecode shelf name m (answer.Told text) reads h = (m, h.said, record { file = reads; decoded = h.decoded }, h.is, refl)
IsAnswer-AnswersDecode shelf name m (answer.Refused article line kind) reads h = absurd h
IsAnswer-AnswersDecode shelf name m answer.Usage reads h = absurd h
IsAnswer-AnswersDecode shelf name m answer.ReadFault reads h = absurd h
IsAnswer-AnswersDecode shelf name m answer.Memory reads h = (refl, refl)
IsAnswer-AnswersDecode shelf name m (answer.DkRefused place kind) reads h = absurd h
IsAnswer-AnswersDecode shelf name m (answer.IllTyped i) reads h = absurd h
IsAnswer-AnswersDecode shelf name m (answer.OverBudget i) reads h = absurd h
IsAnswer-AnswersDecode shelf name m (answer.NotSequent i) reads h = (record { m = m; file = reads; nothing = h.nothing; before = h.before }, (refl, refl))
IsAnswer-AnswersDecode shelf name m answer.Unwritable reads h = absurd h
