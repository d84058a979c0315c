use Rattle.std.proofs.Common.{subst, sym}
use Rattle.hol_term.specs.Subterms.{variables_of}
use Rattle.sequent.specs.Closing.{IsWalk}
use Rattle.sequent.proofs.ClosedLaws.{closed_free}
use Rattle.sequent.proofs.Turns.{free_turn}
use Rattle.sequent.proofs.closed.visit.Goals as goal

pub returns-in_ok-push-in-Free-clause-walk : goal.returns-in_ok-push-in-Free-clause-walk
returns-in_ok-push-in-Free-clause-walk c = λ root w.
    let trees = c.args.table.now in
    let names = c.args.params.now.type_vars in
    let free = c.args.params.now.free_vars in
    let place = c.place_of_variable-place.result in
    let same =
    closed_free trees c.requires.distinct c.in-Free.name.now c.in-Free.ty c.in-Free.ensures.lower names free c.variables.result.now c.args.id.0 place
    c.requires.types c.variables.ensures c.in-Free.ensures.is c.place_of_variable-place.ensures in
    subst (IsWalk trees names (variables_of trees free) root c.args.tasks.now) (sym c.in_ok-push-in-Free.ensures.items)
    (free_turn trees names (variables_of trees free) root c.args.id place c.args.tasks.now c.args.nodes.now.items same w)
