use Rattle.std.proofs.Common.{◌∙◌, [], sym, refl}
use Rattle.bridge_base.specs.Gaining.{gains_none}
use Rattle.bridge_spec.specs.Calls.{sunk}
use Rattle.bridge_spec.specs.Texts.{six_lines}
use Rattle.bridge_spec.specs.declared.status.Status.TheVariants.{Done}
use Rattle.bridge_answer.specs.Delivered.{of_err, of_ok, told_of_fault, output_stopped, both_written}
use Rattle.bridge_translate.specs.Translations.{counts_in}
use Rattle.bridge_trial.proofs.delivery.deliver_counts.Goals as goal

pub returns-then-is_err-clause-delivered : goal.returns-then-is_err-clause-delivered
returns-then-is_err-clause-delivered g c =
    output_stopped Done (six_lines (counts_in c.args.counts.now)) [] _ _
    (of_err _ (sym c.is_err.ensures.value ∙ c.if-is_err.true) c.write_counts.ensures.cause.failed)
    (of_err _ (sym c.is_err.ensures.value ∙ c.if-is_err.true) c.write_counts.ensures.err)
    (told_of_fault _ (sunk g.N.Sink.got g.N.Sink.faults c.args.note.now c.write_all.new.sink) c.write_all.ensures.ok c.write_all.ensures.err
    c.write_all.ensures.cause.failed)

pub returns-clause-delivered : goal.returns-clause-delivered
returns-clause-delivered g c =
    both_written Done (six_lines (counts_in c.args.counts.now)) [] _ _ _ refl
    (of_ok _ (sym c.is_err.ensures.value ∙ c.if-is_err.false) c.write_counts.ensures.ok)
    (gains_none (g.N.Sink.got c.args.note.now))
