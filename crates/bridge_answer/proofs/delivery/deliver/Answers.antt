use Rattle.std.proofs.Common.{◌∙◌, sym}
use Rattle.bridge_spec.specs.Calls.{sunk}
use Rattle.bridge_answer.specs.AnswerTexts.{status_of, text_of, note_of}
use Rattle.bridge_answer.specs.Delivered.{of_err, of_ok, told_of_fault, output_stopped, note_stopped, both_written}
use Rattle.bridge_answer.proofs.delivery.deliver.Goals as goal

pub returns-then-is_err-clause-delivered : goal.returns-then-is_err-clause-delivered
returns-then-is_err-clause-delivered g c =
    output_stopped (status_of c.args.answer) (text_of c.args.answer) (note_of c.args.answer) _ _
    (of_err _ (sym c.is_err.ensures.value ∙ c.if-is_err.true) c.write_lines.ensures.cause.failed)
    (of_err _ (sym c.is_err.ensures.value ∙ c.if-is_err.true) (rw c.text.ensures at c.write_lines.ensures.err))
    (told_of_fault _ (sunk g.N.Sink.got g.N.Sink.faults c.args.note.now c.write_all.new.sink) c.write_all.ensures.ok c.write_all.ensures.err
    c.write_all.ensures.cause.failed)

pub returns-then-is_err-2-clause-delivered : goal.returns-then-is_err-2-clause-delivered
returns-then-is_err-2-clause-delivered g c =
    note_stopped (status_of c.args.answer) (text_of c.args.answer) (note_of c.args.answer) _ _
    (of_err _ (sym c.is_err-2.ensures.value ∙ c.if-is_err-2.true) c.write_note.ensures.cause.failed)
    (of_ok _ (sym c.is_err.ensures.value ∙ c.if-is_err.false) (rw c.text.ensures at c.write_lines.ensures.ok))
    (of_err _ (sym c.is_err-2.ensures.value ∙ c.if-is_err-2.true) c.write_note.ensures.err)

pub returns-clause-delivered : goal.returns-clause-delivered
returns-clause-delivered g c =
    both_written (status_of c.args.answer) (text_of c.args.answer) (note_of c.args.answer) _ _ _ c.into_status.ensures
    (of_ok _ (sym c.is_err.ensures.value ∙ c.if-is_err.false) (rw c.text.ensures at c.write_lines.ensures.ok))
    (of_ok _ (sym c.is_err-2.ensures.value ∙ c.if-is_err-2.false) c.write_note.ensures.ok)
