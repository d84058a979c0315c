use Rattle.holide_sig.specs.Modules.{declarations_of}
use Rattle.bridge_spec.specs.Calls.{shelved}
use Rattle.bridge_check.proofs.Answered.{IsAnswer-AnswersCheck}
use Rattle.bridge_check.proofs.checking.checked.Goals as goal

pub returns-in-Ok-clause-answers : goal.returns-in-Ok-clause-answers
returns-in-Ok-clause-answers g c =
    IsAnswer-AnswersCheck c.args.rechecks (shelved g.H.Shelf.told g.H.Shelf.faults g.H.Shelf.begun c.args.shelf.now c.read_module.new.shelf) c.args.file.now
    (declarations_of c.in-Ok.source) c.args.budget c.answered-answer.result c.in-Ok.ensures.reads c.answered-answer.ensures
