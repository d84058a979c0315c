use Rattle.std.proofs.Common.{Option, Some}
use Rattle.bridge_spec.specs.Forms.{Form, show}
use Rattle.bridge_spec.specs.Calls.{call, shelved, sunk, names_in}
use Rattle.bridge_answer.specs.AnswerTexts.{status_of, text_of, note_of}
use Rattle.bridge_answer.specs.Performed.{outputs-Performs}
use Rattle.bridge_show.proofs.program.show.Goals as goal

pub returns : goal.returns
returns g c =
    let form : Option Form = Some (show (names_in c.args.files.now)) in
    outputs-Performs
    (call form (shelved g.H.Shelf.told g.H.Shelf.faults g.H.Shelf.begun c.args.shelf.now c.shown-answer.new.shelf)
    (sunk g.O.Sink.got g.O.Sink.faults c.args.out.now c.deliver.new.out) (sunk g.N.Sink.got g.N.Sink.faults c.args.note.now c.deliver.new.note))
    c.deliver.result
    (record {
      answer = status_of c.shown-answer.result;
      out_text = text_of c.shown-answer.result;
      note_text = note_of c.shown-answer.result;
      answers = c.shown-answer.ensures.answers;
      begins = c.shown-answer.ensures.begun;
      delivered = c.deliver.ensures.delivered;
    })
    c.shown-answer.ensures.told_kept c.shown-answer.ensures.count c.deliver.ensures.out_count c.deliver.ensures.note_count
