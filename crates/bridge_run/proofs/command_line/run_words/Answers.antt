use Rattle.std.proofs.Common.{◌∙◌, refl, subst, arith}
use Rattle.bridge_laws.specs.FormPromises.{Performs-Promise}
use Rattle.bridge_answer.specs.Performed.{memory-Performs}
use Rattle.bridge_spec.specs.Calls.{call, shelved, sunk, form_in}
use Rattle.bridge_spec.specs.Promises.{Promise}
use Rattle.bridge_run.specs.CommandLine.{words_of}
use Rattle.bridge_run.proofs.command_line.run_words.Goals as goal

pub returns-in-Ok : goal.returns-in-Ok
returns-in-Ok g c =
    let shelf = shelved g.H.Shelf.told g.H.Shelf.faults g.H.Shelf.begun c.args.shelf.now c.bridge-status.new.shelf in
    let out = sunk g.O.Sink.got g.O.Sink.faults c.args.out.now c.bridge-status.new.out in
    let note = sunk g.N.Sink.got g.N.Sink.faults c.args.note.now c.bridge-status.new.note in
    subst (λ words. Promise (call (form_in words) shelf out note) c.bridge-status.result) (c.deref.ensures.value ∙ c.in-Ok.ensures) c.bridge-status.ensures

pub returns-in-Err : goal.returns-in-Err
returns-in-Err g c =
    let shelf = shelved g.H.Shelf.told g.H.Shelf.faults g.H.Shelf.begun c.args.shelf.now c.args.shelf.now in
    let out = sunk g.O.Sink.got g.O.Sink.faults c.args.out.now c.deliver.new.out in
    let note = sunk g.N.Sink.got g.N.Sink.faults c.args.note.now c.deliver.new.note in
    let this = call (form_in (words_of c.args.words)) shelf out note in
    Performs-Promise this c.deliver.result
    (memory-Performs this c.deliver.result c.deliver.ensures.delivered refl refl (omega arith) c.deliver.ensures.out_count c.deliver.ensures.note_count)
