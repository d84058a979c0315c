use Rattle.std.proofs.Common.{[], Some, sym, ap, subst, refl, arith}
use Rattle.bridge_base.specs.Gaining.{begins_none}
use Rattle.bridge_spec.specs.Answers.{AnswersTrial}
use Rattle.bridge_spec.specs.Begun.{BeginsFiles}
use Rattle.bridge_spec.specs.Forms.{trial}
use Rattle.bridge_spec.specs.Calls.{call, untouched, sunk}
use Rattle.bridge_spec.specs.Texts.{six_lines}
use Rattle.bridge_spec.specs.declared.status.Status.TheVariants.{Done}
use Rattle.bridge_answer.specs.AnswerTexts.{status_of, text_of, note_of}
use Rattle.bridge_answer.specs.Beginning.{begins_front_of_same}
use Rattle.bridge_answer.specs.Performed.{outputs-Performs}
use Rattle.bridge_translate.specs.Translations.{counts_in}
use Rattle.bridge_trial.proofs.program.trial.Goals as goal

pub returns-in-Ok : goal.returns-in-Ok
returns-in-Ok g c told faults begun =
    let run = c.in-Ok.ensures.counts in
    outputs-Performs
    (call (Some (trial c.args.n)) (untouched told faults begun) (sunk g.O.Sink.got g.O.Sink.faults c.args.out.now c.deliver_counts.new.out)
    (sunk g.N.Sink.got g.N.Sink.faults c.args.note.now c.deliver_counts.new.note))
    c.deliver_counts.result
    (record {
      answer = Done;
      out_text = six_lines (counts_in c.in-Ok.counts);
      note_text = [];
      answers = (run.0, run.1, ap six_lines run.2, refl);
      begins = begins_none begun;
      delivered = c.deliver_counts.ensures.delivered;
    })
    refl (omega arith) c.deliver_counts.ensures.out_count c.deliver_counts.ensures.note_count

pub returns-in-Err : goal.returns-in-Err
returns-in-Err g c told faults begun =
    let answer = c.in-Err.answer in
    outputs-Performs
    (call (Some (trial c.args.n)) (untouched told faults begun) (sunk g.O.Sink.got g.O.Sink.faults c.args.out.now c.deliver.new.out)
    (sunk g.N.Sink.got g.N.Sink.faults c.args.note.now c.deliver.new.note))
    c.deliver.result
    (record {
      answer = status_of answer;
      out_text = text_of answer;
      note_text = note_of answer;
      answers = subst (λ answer. AnswersTrial c.args.n (status_of answer) (text_of answer) (note_of answer)) (sym c.in-Err.ensures.memory) (refl, refl);
      begins = subst (λ answer. BeginsFiles (status_of answer) begun [] begun) (sym c.in-Err.ensures.memory) (begins_front_of_same begun begun [] refl);
      delivered = c.deliver.ensures.delivered;
    })
    refl (omega arith) c.deliver.ensures.out_count c.deliver.ensures.note_count
