use Rattle.std.proofs.Common.{[], ◌∷◌, Some}
use Rattle.bridge_spec.specs.Forms.{decode}
use Rattle.bridge_spec.specs.Calls.{call, shelved, sunk}
use Rattle.bridge_spec.specs.Answers.{AnswersDecode}
use Rattle.bridge_module.specs.Begun.{whole-BeginsFiles}
use Rattle.bridge_answer.specs.AnswerTexts.{status_of, text_of, note_of}
use Rattle.bridge_answer.specs.Performed.{outputs-Performs}
use Rattle.bridge_decode.proofs.program.decode.Goals as goal

pub returns : goal.returns
returns g c =
    let shelf = shelved g.H.Shelf.told g.H.Shelf.faults g.H.Shelf.begun c.args.shelf.now c.decoded-answer.new.shelf in
    let answer = c.decoded-answer.result in
    outputs-Performs
    (call (Some (decode c.args.file.now)) shelf (sunk g.O.Sink.got g.O.Sink.faults c.args.out.now c.deliver.new.out)
    (sunk g.N.Sink.got g.N.Sink.faults c.args.note.now c.deliver.new.note))
    c.deliver.result
    (record {
      answer = status_of answer;
      out_text = text_of answer;
      note_text = note_of answer;
      answers = c.decoded-answer.ensures.answers;
      begins = whole-BeginsFiles (λ status. AnswersDecode c.args.file.now shelf status (text_of answer) (note_of answer))
          (λ article line kind impossible. impossible)
          (status_of answer) c.decoded-answer.ensures.answers _ _ (c.args.file.now ∷ []) c.decoded-answer.ensures.begun;
      delivered = c.deliver.ensures.delivered;
    })
    c.decoded-answer.ensures.told_kept c.decoded-answer.ensures.count c.deliver.ensures.out_count c.deliver.ensures.note_count
