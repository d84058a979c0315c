use Rattle.std.proofs.Common.{option_map, ◌∙◌, refl, sym, ap, subst, arith}
use Rattle.bridge_spec.specs.Calls.{call, shelved, sunk, form_in, names_in}
use Rattle.bridge_spec.specs.Promises.{Performs}
use Rattle.bridge_laws.specs.FormPromises.{Performs-Promise}
use Rattle.bridge_answer.specs.Performed.{usage-Performs, memory-Performs}
use Rattle.bridge_words.specs.Asked.{asked}
use Rattle.bridge_run.specs.Blocks.{HasBlocks}
use Rattle.bridge_run.proofs.Trials.{form_of-HasBlocks}
use Rattle.bridge_run.proofs.program.bridge.Goals as goal

pub answered-status-requires : goal.answered-status-requires
answered-status-requires g c = subst HasBlocks (sym c.in-Ok-Some.ensures ∙ ap (option_map asked) c.in-Ok-Some.field-0-is)
    (form_of-HasBlocks (names_in c.args.words.now))

pub returns-in-Ok-Some : goal.returns-in-Ok-Some
returns-in-Ok-Some g c =
    let shelf = shelved g.H.Shelf.told g.H.Shelf.faults g.H.Shelf.begun c.args.shelf.now c.answered-status.new.shelf in
    let out = sunk g.O.Sink.got g.O.Sink.faults c.args.out.now c.answered-status.new.out in
    let note = sunk g.N.Sink.got g.N.Sink.faults c.args.note.now c.answered-status.new.note in
    Performs-Promise (call (form_in c.args.words.now) shelf out note) c.answered-status.result
    (subst (λ form. Performs (call form shelf out note) c.answered-status.result) (ap (option_map asked) (sym c.in-Ok-Some.field-0-is) ∙ c.in-Ok-Some.ensures)
    c.answered-status.ensures)

pub returns-in-Ok-None : goal.returns-in-Ok-None
returns-in-Ok-None g c =
    let shelf = shelved g.H.Shelf.told g.H.Shelf.faults g.H.Shelf.begun c.args.shelf.now c.args.shelf.now in
    let out = sunk g.O.Sink.got g.O.Sink.faults c.args.out.now c.deliver.new.out in
    let note = sunk g.N.Sink.got g.N.Sink.faults c.args.note.now c.deliver.new.note in
    let this = call (form_in c.args.words.now) shelf out note in
    Performs-Promise this c.deliver.result
    (usage-Performs this c.deliver.result (sym c.in-Ok-None.ensures ∙ ap (option_map asked) c.in-Ok-None.field-0-is) c.deliver.ensures.delivered refl refl
    (omega arith) c.deliver.ensures.out_count c.deliver.ensures.note_count)

pub returns-in-Err : goal.returns-in-Err
returns-in-Err g c =
    let shelf = shelved g.H.Shelf.told g.H.Shelf.faults g.H.Shelf.begun c.args.shelf.now c.args.shelf.now in
    let out = sunk g.O.Sink.got g.O.Sink.faults c.args.out.now c.deliver-in-Err.new.out in
    let note = sunk g.N.Sink.got g.N.Sink.faults c.args.note.now c.deliver-in-Err.new.note in
    let this = call (form_in c.args.words.now) shelf out note in
    Performs-Promise this c.deliver-in-Err.result
    (memory-Performs this c.deliver-in-Err.result c.deliver-in-Err.ensures.delivered refl refl (omega arith) c.deliver-in-Err.ensures.out_count
    c.deliver-in-Err.ensures.note_count)
