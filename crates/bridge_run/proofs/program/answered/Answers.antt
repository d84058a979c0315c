use Rattle.std.proofs.Common.{Some, sym, subst}
use Rattle.bridge_spec.specs.Calls.{call, shelved, sunk}
use Rattle.bridge_spec.specs.Promises.{Performs}
use Rattle.bridge_words.specs.Asked.{asked}
use Rattle.bridge_run.specs.Blocks.{HasBlocks}
use Rattle.bridge_run.proofs.program.answered.Goals as goal

pub trial-requires-clause-some : goal.trial-requires-clause-some
trial-requires-clause-some g c = (subst (λ form. HasBlocks (Some (asked form))) c.in-Trial.is c.requires).0

pub trial-requires-clause-within : goal.trial-requires-clause-within
trial-requires-clause-within g c = (subst (λ form. HasBlocks (Some (asked form))) c.in-Trial.is c.requires).1

pub returns-in-Trial : goal.returns-in-Trial
returns-in-Trial g c =
    let shelf = shelved g.H.Shelf.told g.H.Shelf.faults g.H.Shelf.begun c.args.shelf.now c.args.shelf.now in
    let out = sunk g.O.Sink.got g.O.Sink.faults c.args.out.now c.trial.new.out in
    let note = sunk g.N.Sink.got g.N.Sink.faults c.args.note.now c.trial.new.note in
    subst (λ form. Performs (call (Some (asked form)) shelf out note) c.trial.result) (sym c.in-Trial.is)
    (c.trial.ensures (g.H.Shelf.told c.args.shelf.now) (g.H.Shelf.faults c.args.shelf.now) (g.H.Shelf.begun c.args.shelf.now))
