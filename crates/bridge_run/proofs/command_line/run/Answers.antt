use Rattle.std.proofs.lemmas.Result.{IfErr-weaker}
use Rattle.std.specs.IoError.{error_kind}
use Rattle.bridge_answer.specs.AnswerTexts.{status_of}
use Rattle.bridge_run.specs.CommandLine.{without_words}
use Rattle.bridge_run.proofs.Unread.{status_number-IsNumberOf}
use Rattle.bridge_run.proofs.command_line.run.Goals as goal

pub returns-clause-ends : goal.returns-clause-ends
returns-clause-ends g c = record { status = c.answered.result; promise = c.answered.ensures.promise; is = c.number.ensures }

pub returns-clause-without_words : goal.returns-clause-without_words
returns-clause-without_words g c =
    IfErr-weaker c.args.words _ _
    (λ error is. status_number-IsNumberOf (status_of (without_words (error_kind error))) c.answered.result c.number.result is c.number.ensures)
    c.answered.ensures.without_words
