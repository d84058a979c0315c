use Rattle.std.proofs.Common.{refl, sym, subst}
use Rattle.article_spec.specs.Run.{accepted_state}
use Rattle.bridge_spec.specs.Answers.{AnswersShow}
use Rattle.bridge_spec.specs.Calls.{names_in, shelved}
use Rattle.bridge_answer.specs.AnswerTexts.{status_of, text_of, note_of}
use Rattle.bridge_reading.specs.StopAnswers.{stop-AnswersShow}
use Rattle.bridge_show.proofs.showing.shown.Goals as goal

pub returns-in-Ok-lines-clause-answers : goal.returns-in-Ok-lines-clause-answers
returns-in-Ok-lines-clause-answers g c = (accepted_state c.in-Ok.machine, c.in-Ok.ensures.accepted, c.in-Ok-lines.ensures, refl)
