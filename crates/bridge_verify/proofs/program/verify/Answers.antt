use Rattle.std.specs.Prelude.{not}
use Rattle.std.proofs.Common.{◌++◌, codes, length, Some, sym, ap, subst, refl, ⊎_elim}
use Rattle.lp_spec.specs.Text.{written}
use Rattle.holide_sig.specs.Modules.{declarations_of}
use Rattle.bridge_laws.specs.Headlines.{each_run_carries}
use Rattle.bridge_spec.specs.Answers.{AnswersVerify}
use Rattle.bridge_spec.specs.Begun.{BeginsFiles}
use Rattle.bridge_spec.specs.Forms.{verify}
use Rattle.bridge_spec.specs.Calls.{call, shelved, sunk, names_in}
use Rattle.bridge_spec.specs.Texts.{five_lines}
use Rattle.bridge_spec.specs.declared.status.Status.TheVariants.{Done}
use Rattle.bridge_spec.specs.Outputs.{Outputs}
use Rattle.bridge_answer.specs.declared.answer.Answer.TheVariants.{Memory}
use Rattle.bridge_answer.specs.AnswerTexts.{status_of, text_of, note_of}
use Rattle.bridge_answer.specs.Performed.{outputs-Performs}
use Rattle.bridge_reading.specs.StopAnswers.{stop-AnswersVerify, stop-BeginsFiles}
use Rattle.bridge_translate.specs.TranslationLaws.{written-module_text, length-bounds}
use Rattle.bridge_translate.specs.Translations.{counts_in}
use Rattle.bridge_verify.proofs.program.verify.Goals as goal

pub check_back-requires : goal.check_back-requires
check_back-requires g c =
    let t = c.in-Ok.ensures.translated in
    (c.args.share, length (names_in c.args.files.now), t.0, t.2, each_run_carries c.args.share t.1.texts t.0 t.1.bytes t.1.runs)

pub deliver_verified-requires-clause-accepted : goal.deliver_verified-requires-clause-accepted
deliver_verified-requires-clause-accepted g c = (not c.args.fast, c.in-Ok-check_back.ensures.accepted)

pub deliver_verified-requires-clause-held : goal.deliver_verified-requires-clause-held
deliver_verified-requires-clause-held g c =
    let t = c.in-Ok.ensures.translated in
    (c.in-Ok-check_back.ensures.translated c.args.share (length (names_in c.args.files.now)) t.0 t.2).held

pub deliver_verified-requires-clause-bounds : goal.deliver_verified-requires-clause-bounds
deliver_verified-requires-clause-bounds g c =
    let t = c.in-Ok.ensures.translated in
    let articles = length (names_in c.args.files.now) in
    length-bounds c.args.share articles t.0 c.check_back.new.translation (c.in-Ok-check_back.ensures.translated c.args.share articles t.0 t.2)

pub returns-in-Ok-check_back : goal.returns-in-Ok-check_back
returns-in-Ok-check_back g c =
    let t = c.in-Ok.ensures.translated in
    let names = names_in c.args.files.now in
    let made = c.check_back.new.translation in
    let still = c.in-Ok-check_back.ensures.translated c.args.share (length names) t.0 t.2 in
    let own = call (Some (verify c.args.share c.args.fast names))
    (shelved g.H.Shelf.told g.H.Shelf.faults g.H.Shelf.begun c.args.shelf.now c.translation_of.new.shelf)
    (sunk g.O.Sink.got g.O.Sink.faults c.args.out.now c.deliver_verified.new.out)
    (sunk g.N.Sink.got g.N.Sink.faults c.args.note.now c.deliver_verified.new.note) in
    let outputs : Outputs own c.deliver_verified.result = ⊎_elim
    (λ done. record {
      answer = Done;
      out_text = written (declarations_of made.module) made.bounds.items;
      note_text = five_lines (counts_in made.counts) ++ codes "verified\n";
      answers = (t.0, t.1, written-module_text c.args.share (length names) t.0 made still, ap (λ counts. five_lines counts ++ codes "verified\n") still.counts);
      begins = c.in-Ok.ensures.all_begun;
      delivered = done;
    })
    (λ wanting. record {
      answer = status_of Memory;
      out_text = text_of Memory;
      note_text = note_of Memory;
      answers = (refl, refl);
      begins = c.translation_of.ensures.front_begun;
      delivered = wanting;
    })
    c.deliver_verified.ensures.delivered in
    outputs-Performs own c.deliver_verified.result outputs c.in-Ok.ensures.told_kept c.in-Ok.ensures.count c.deliver_verified.ensures.out_count
    c.deliver_verified.ensures.note_count

pub returns-in-Ok : goal.returns-in-Ok
returns-in-Ok g c =
    let names = names_in c.args.files.now in
    let shelf = shelved g.H.Shelf.told g.H.Shelf.faults g.H.Shelf.begun c.args.shelf.now c.translation_of.new.shelf in
    let answer = c.in-Err-check_back.answer in
    outputs-Performs
    (call (Some (verify c.args.share c.args.fast names)) shelf (sunk g.O.Sink.got g.O.Sink.faults c.args.out.now c.deliver.new.out)
    (sunk g.N.Sink.got g.N.Sink.faults c.args.note.now c.deliver.new.note))
    c.deliver.result
    (record {
      answer = status_of answer;
      out_text = text_of answer;
      note_text = note_of answer;
      answers = subst (λ answer. AnswersVerify c.args.share names shelf (status_of answer) (text_of answer) (note_of answer))
          (sym c.in-Err-check_back.ensures.memory) (refl, refl);
      begins = subst (λ answer. BeginsFiles (status_of answer) shelf.begun_before names shelf.begun) (sym c.in-Err-check_back.ensures.memory)
          c.translation_of.ensures.front_begun;
      delivered = c.deliver.ensures.delivered;
    })
    c.in-Ok.ensures.told_kept c.in-Ok.ensures.count c.deliver.ensures.out_count c.deliver.ensures.note_count

pub returns : goal.returns
returns g c =
    let names = names_in c.args.files.now in
    let shelf = shelved g.H.Shelf.told g.H.Shelf.faults g.H.Shelf.begun c.args.shelf.now c.translation_of.new.shelf in
    let answer = c.into_answer.result in
    outputs-Performs
    (call (Some (verify c.args.share c.args.fast names)) shelf (sunk g.O.Sink.got g.O.Sink.faults c.args.out.now c.deliver-in-Err.new.out)
    (sunk g.N.Sink.got g.N.Sink.faults c.args.note.now c.deliver-in-Err.new.note))
    c.deliver-in-Err.result
    (record {
      answer = status_of answer;
      out_text = text_of answer;
      note_text = note_of answer;
      answers = subst (λ answer. AnswersVerify c.args.share names shelf (status_of answer) (text_of answer) (note_of answer)) (sym c.into_answer.ensures)
          (stop-AnswersVerify names shelf c.args.share c.in-Err.stop c.in-Err.ensures.refused c.in-Err.ensures.read_fault);
      begins = subst (λ answer. BeginsFiles (status_of answer) shelf.begun_before names shelf.begun) (sym c.into_answer.ensures)
          (stop-BeginsFiles c.in-Err.stop shelf.begun_before shelf.begun names c.in-Err.ensures.refused_begun c.translation_of.ensures.front_begun);
      delivered = c.deliver-in-Err.ensures.delivered;
    })
    c.in-Err.ensures.told_kept c.in-Err.ensures.count c.deliver-in-Err.ensures.out_count c.deliver-in-Err.ensures.note_count
