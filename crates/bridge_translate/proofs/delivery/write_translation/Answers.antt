use Rattle.std.proofs.Common.{◌∙◌, ◌++◌, sym, refl}
use Rattle.lp_spec.specs.Text.{written}
use Rattle.holide_sig.specs.Modules.{declarations_of}
use Rattle.bridge_spec.specs.Calls.{sunk}
use Rattle.bridge_spec.specs.Texts.{five_lines}
use Rattle.bridge_spec.specs.declared.status.Status.TheVariants.{Done}
use Rattle.bridge_answer.specs.Delivered.{of_err, of_ok, told_of_fault, output_stopped, note_stopped, both_written}
use Rattle.bridge_translate.specs.Translations.{counts_in}
use Rattle.bridge_translate.proofs.delivery.write_translation.Goals as goal

pub returns-then-is_err-clause-delivered : goal.returns-then-is_err-clause-delivered
returns-then-is_err-clause-delivered g c =
    let t = c.args.translation.now in
    output_stopped Done (written (declarations_of t.module) t.bounds.items) (five_lines (counts_in t.counts) ++ c.args.last.now) _ _
    (of_err _ (sym c.is_err.ensures.value ∙ c.if-is_err.true) c.write.ensures.cause.failed)
    (of_err _ (sym c.is_err.ensures.value ∙ c.if-is_err.true) (rw c.deref.ensures.value at c.write.ensures.err))
    (told_of_fault _ (sunk g.N.Sink.got g.N.Sink.faults c.args.note.now c.write_all.new.sink) c.write_all.ensures.ok c.write_all.ensures.err
    c.write_all.ensures.cause.failed)

pub returns-then-is_err-2-clause-delivered : goal.returns-then-is_err-2-clause-delivered
returns-then-is_err-2-clause-delivered g c =
    let t = c.args.translation.now in
    note_stopped Done (written (declarations_of t.module) t.bounds.items) (five_lines (counts_in t.counts) ++ c.args.last.now) _ _
    (of_err _ (sym c.is_err-2.ensures.value ∙ c.if-is_err-2.true) c.write_counts.ensures.cause.failed)
    (of_ok _ (sym c.is_err.ensures.value ∙ c.if-is_err.false) (rw c.deref.ensures.value at c.write.ensures.ok))
    (of_err _ (sym c.is_err-2.ensures.value ∙ c.if-is_err-2.true) c.write_counts.ensures.err)

pub returns-clause-delivered : goal.returns-clause-delivered
returns-clause-delivered g c =
    let t = c.args.translation.now in
    both_written Done (written (declarations_of t.module) t.bounds.items) (five_lines (counts_in t.counts) ++ c.args.last.now) _ _ _ refl
    (of_ok _ (sym c.is_err.ensures.value ∙ c.if-is_err.false) (rw c.deref.ensures.value at c.write.ensures.ok))
    (of_ok _ (sym c.is_err-2.ensures.value ∙ c.if-is_err-2.false) c.write_counts.ensures.ok)
