use Rattle.std.proofs.Common.{Some, sym, subst}
use Rattle.article_spec.specs.Run.{accepted_state}
use Rattle.article_spec.specs.State.{last_version}
use Rattle.bridge_spec.specs.Answers.{AnswersArticle}
use Rattle.bridge_spec.specs.Begun.{BeginsFiles}
use Rattle.bridge_spec.specs.Forms.{Form}
use Rattle.bridge_spec.specs.Calls.{call, shelved, sunk, names_in}
use Rattle.bridge_answer.specs.AnswerTexts.{status_of, text_of, note_of}
use Rattle.bridge_answer.specs.Performed.{outputs-Performs}
use Rattle.bridge_reading.specs.StopAnswers.{stop-AnswersArticle, stop-BeginsFiles}
use Rattle.bridge_article.proofs.RunAnswers.{of-run-AnswersArticle, of-run-BeginsFiles}
use Rattle.bridge_article.proofs.program.article.Goals as goal

pub returns-in-Ok : goal.returns-in-Ok
returns-in-Ok g c =
    let names = names_in c.args.files.now in
    let shelf = shelved g.H.Shelf.told g.H.Shelf.faults g.H.Shelf.begun c.args.shelf.now c.read_articles.new.shelf in
    let version = last_version c.in-Ok.machine.place in
    let run = accepted_state c.in-Ok.machine in
    let d = c.deliver_run-status.ensures.delivered in
    outputs-Performs
    (call (Some (Form.article names)) shelf (sunk g.O.Sink.got g.O.Sink.faults c.args.out.now c.deliver_run-status.new.out)
    (sunk g.N.Sink.got g.N.Sink.faults c.args.note.now c.deliver_run-status.new.note))
    c.deliver_run-status.result
    (record {
      answer = d.answer;
      out_text = d.out_text;
      note_text = d.note_text;
      answers = of-run-AnswersArticle version run names shelf c.in-Ok.ensures.version d.answer d.out_text d.note_text d.answers;
      begins = of-run-BeginsFiles version run shelf.begun_before shelf.begun names c.in-Ok.ensures.all_begun c.read_articles.ensures.front_begun d.answer
          d.out_text d.note_text d.answers;
      delivered = d.delivered;
    })
    c.in-Ok.ensures.told_kept c.in-Ok.ensures.count c.deliver_run-status.ensures.out_count c.deliver_run-status.ensures.note_count

pub returns-in-Err : goal.returns-in-Err
returns-in-Err g c =
    let names = names_in c.args.files.now in
    let shelf = shelved g.H.Shelf.told g.H.Shelf.faults g.H.Shelf.begun c.args.shelf.now c.read_articles.new.shelf in
    let answer = c.into_answer.result in
    outputs-Performs
    (call (Some (Form.article names)) shelf (sunk g.O.Sink.got g.O.Sink.faults c.args.out.now c.deliver.new.out)
    (sunk g.N.Sink.got g.N.Sink.faults c.args.note.now c.deliver.new.note))
    c.deliver.result
    (record {
      answer = status_of answer;
      out_text = text_of answer;
      note_text = note_of answer;
      answers = subst (λ answer. AnswersArticle names shelf (status_of answer) (text_of answer) (note_of answer)) (sym c.into_answer.ensures)
          (stop-AnswersArticle names shelf c.in-Err.stop c.in-Err.ensures.refused c.in-Err.ensures.read_fault);
      begins = subst (λ answer. BeginsFiles (status_of answer) shelf.begun_before names shelf.begun) (sym c.into_answer.ensures)
          (stop-BeginsFiles c.in-Err.stop shelf.begun_before shelf.begun names c.in-Err.ensures.refused_begun c.read_articles.ensures.front_begun);
      delivered = c.deliver.ensures.delivered;
    })
    c.in-Err.ensures.told_kept c.in-Err.ensures.count c.deliver.ensures.out_count c.deliver.ensures.note_count
