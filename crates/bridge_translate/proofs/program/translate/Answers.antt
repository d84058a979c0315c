use Rattle.std.proofs.Common.{◌∙◌, ◌++◌, [], length, Some, refl, sym, ap, subst, ⊎_elim}
use Rattle.std.proofs.lemmas.List.{append-nil}
use Rattle.lp_spec.specs.Text.{written}
use Rattle.holide_sig.specs.Modules.{declarations_of}
use Rattle.bridge_spec.specs.Answers.{AnswersTranslate}
use Rattle.bridge_spec.specs.Begun.{BeginsFiles}
use Rattle.bridge_spec.specs.Forms.{translate}
use Rattle.bridge_spec.specs.Calls.{call, shelved, sunk, names_in}
use Rattle.bridge_spec.specs.Texts.{five_lines}
use Rattle.bridge_spec.specs.declared.status.Status.TheVariants.{Done}
use Rattle.bridge_spec.specs.Outputs.{Outputs}
use Rattle.bridge_answer.specs.declared.answer.Answer.TheVariants.{Memory}
use Rattle.bridge_answer.specs.AnswerTexts.{status_of, text_of, note_of}
use Rattle.bridge_answer.specs.Performed.{outputs-Performs}
use Rattle.bridge_reading.specs.StopAnswers.{stop-AnswersTranslate, stop-BeginsFiles}
use Rattle.bridge_translate.specs.TranslationLaws.{written-module_text, length-bounds}
use Rattle.bridge_translate.specs.Translations.{counts_in}
use Rattle.bridge_translate.proofs.program.translate.Goals as goal

pub deliver_translation-status-requires-clause-bounds : goal.deliver_translation-status-requires-clause-bounds
deliver_translation-status-requires-clause-bounds g c =
    let t = c.in-Ok.ensures.translated in
    length-bounds c.args.share (length (names_in c.args.files.now)) t.0 c.in-Ok.translation t.2

pub returns-in-Ok : goal.returns-in-Ok
returns-in-Ok g c =
    let t = c.in-Ok.ensures.translated in
    let names = names_in c.args.files.now in
    let made = c.in-Ok.translation in
    let own = call (Some (translate c.args.share names)) (shelved g.H.Shelf.told g.H.Shelf.faults g.H.Shelf.begun c.args.shelf.now c.translation_of.new.shelf)
    (sunk g.O.Sink.got g.O.Sink.faults c.args.out.now c.deliver_translation-status.new.out)
    (sunk g.N.Sink.got g.N.Sink.faults c.args.note.now c.deliver_translation-status.new.note) in
    let outputs : Outputs own c.deliver_translation-status.result = ⊎_elim
    (λ done. record {
      answer = Done;
      out_text = written (declarations_of made.module) made.bounds.items;
      note_text = five_lines (counts_in made.counts) ++ [];
      answers = (
        t.0,
        t.1,
        written-module_text c.args.share (length names) t.0 made t.2,
        append-nil (five_lines (counts_in made.counts))
            ∙ ap five_lines t.2.counts,
      );
      begins = c.in-Ok.ensures.all_begun;
      delivered = done;
    })
    (λ wanting. record {
      answer = status_of Memory;
      out_text = text_of Memory;
      note_text = note_of Memory;
      answers = (refl, refl);
      begins = c.translation_of.ensures.front_begun;
      delivered = wanting;
    })
    c.deliver_translation-status.ensures.delivered in
    outputs-Performs own c.deliver_translation-status.result outputs c.in-Ok.ensures.told_kept c.in-Ok.ensures.count
    c.deliver_translation-status.ensures.out_count c.deliver_translation-status.ensures.note_count

pub returns-in-Err : goal.returns-in-Err
returns-in-Err g c =
    let names = names_in c.args.files.now in
    let shelf = shelved g.H.Shelf.told g.H.Shelf.faults g.H.Shelf.begun c.args.shelf.now c.translation_of.new.shelf in
    let answer = c.into_answer.result in
    outputs-Performs
    (call (Some (translate c.args.share names)) shelf (sunk g.O.Sink.got g.O.Sink.faults c.args.out.now c.deliver.new.out)
    (sunk g.N.Sink.got g.N.Sink.faults c.args.note.now c.deliver.new.note))
    c.deliver.result
    (record {
      answer = status_of answer;
      out_text = text_of answer;
      note_text = note_of answer;
      answers = subst (λ answer. AnswersTranslate c.args.share names shelf (status_of answer) (text_of answer) (note_of answer)) (sym c.into_answer.ensures)
          (stop-AnswersTranslate names shelf c.args.share c.in-Err.stop c.in-Err.ensures.refused c.in-Err.ensures.read_fault);
      begins = subst (λ answer. BeginsFiles (status_of answer) shelf.begun_before names shelf.begun) (sym c.into_answer.ensures)
          (stop-BeginsFiles c.in-Err.stop shelf.begun_before shelf.begun names c.in-Err.ensures.refused_begun c.translation_of.ensures.front_begun);
      delivered = c.deliver.ensures.delivered;
    })
    c.in-Err.ensures.told_kept c.in-Err.ensures.count c.deliver.ensures.out_count c.deliver.ensures.note_count
