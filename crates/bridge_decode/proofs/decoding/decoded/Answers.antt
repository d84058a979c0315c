use Rattle.holide_sig.specs.Modules.{declarations_of}
use Rattle.bridge_spec.specs.Calls.{shelved}
use Rattle.bridge_decode.proofs.Answered.{IsAnswer-AnswersDecode}
use Rattle.bridge_decode.proofs.decoding.decoded.Goals as goal

pub returns-in-Ok-clause-answers : goal.returns-in-Ok-clause-answers
returns-in-Ok-clause-answers g c =
    IsAnswer-AnswersDecode (shelved g.H.Shelf.told g.H.Shelf.faults g.H.Shelf.begun c.args.shelf.now c.read_module.new.shelf) c.args.file.now
    (declarations_of c.in-Ok.source) c.answered-answer.result c.in-Ok.ensures.reads c.answered-answer.ensures
