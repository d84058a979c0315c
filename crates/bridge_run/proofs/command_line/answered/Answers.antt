use Rattle.std.proofs.Common.{◌∙◌, None, IfErr, refl, sym, ap, subst, arith}
use Rattle.std.specs.IoError.{error_kind}
use Rattle.bridge_answer.specs.AnswerTexts.{status_of, text_of, note_of}
use Rattle.bridge_spec.specs.Calls.{call, shelved, sunk}
use Rattle.bridge_spec.specs.Outputs.{Delivers}
use Rattle.bridge_spec.specs.Promises.{Promise}
use Rattle.bridge_run.specs.CommandLine.{form_given, without_words, IsOrWriteFault}
use Rattle.bridge_run.proofs.Unread.{without_words-Promise, delivered-IsOrWriteFault}
use Rattle.bridge_run.proofs.command_line.answered.Goals as goal

pub returns-in-Ok-clause-promise : goal.returns-in-Ok-clause-promise
returns-in-Ok-clause-promise g c =
    let shelf = shelved g.H.Shelf.told g.H.Shelf.faults g.H.Shelf.begun c.args.shelf.now c.run_words.new.shelf in
    let out = sunk g.O.Sink.got g.O.Sink.faults c.args.out.now c.run_words.new.out in
    let note = sunk g.N.Sink.got g.N.Sink.faults c.args.note.now c.run_words.new.note in
    subst (λ words. Promise (call (form_given words) shelf out note) c.run_words.result) (sym c.in-Ok.is) c.run_words.ensures

pub returns-in-Err-clause-promise : goal.returns-in-Err-clause-promise
returns-in-Err-clause-promise g c =
    let shelf = shelved g.H.Shelf.told g.H.Shelf.faults g.H.Shelf.begun c.args.shelf.now c.args.shelf.now in
    let out = sunk g.O.Sink.got g.O.Sink.faults c.args.out.now c.deliver.new.out in
    let note = sunk g.N.Sink.got g.N.Sink.faults c.args.note.now c.deliver.new.note in
    let answer = c.without_words.ensures ∙ ap without_words c.kind.ensures in
    let delivered = subst (λ answer. Delivers (status_of answer) (text_of answer) (note_of answer) out note c.deliver.result) answer c.deliver.ensures.delivered
    in
    subst (λ words. Promise (call (form_given words) shelf out note) c.deliver.result) (sym c.in-Err.is)
    (without_words-Promise (error_kind c.in-Err.error) (call None shelf out note) c.deliver.result refl delivered refl refl (omega arith)
    c.deliver.ensures.out_count c.deliver.ensures.note_count)

pub returns-in-Err-clause-without_words : goal.returns-in-Err-clause-without_words
returns-in-Err-clause-without_words g c =
    let out = sunk g.O.Sink.got g.O.Sink.faults c.args.out.now c.deliver.new.out in
    let note = sunk g.N.Sink.got g.N.Sink.faults c.args.note.now c.deliver.new.note in
    let is = delivered-IsOrWriteFault (status_of c.without_words.result) c.deliver.result (text_of c.without_words.result) (note_of c.without_words.result) out
    note c.deliver.ensures.delivered in
    subst (λ words. IfErr words (λ error. IsOrWriteFault (status_of (without_words (error_kind error))) c.deliver.result)) (sym c.in-Err.is)
    (subst (λ answer. IsOrWriteFault (status_of answer) c.deliver.result) (c.without_words.ensures ∙ ap without_words c.kind.ensures) is)
