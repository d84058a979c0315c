use Rattle.std.proofs.Common.{subst, sym, ◌++◌, ◌∷◌, ◌<◌}
use Rattle.std.proofs.lemmas.Result.{on_ok_weaker}
use Rattle.sequent.specs.Closing.{IsTypeWalk, type_work}
use Rattle.sequent.proofs.Turns.{operator_turn, operator_less}
use Rattle.sequent.proofs.closed.visit_type.Goals as goal

pub returns-in_ok-push-in-Op-clause-walk : goal.returns-in_ok-push-in-Op-clause-walk
returns-in_ok-push-in-Op-clause-walk c = on_ok_weaker c.set_out.result (λ set root w.
    let trees = c.args.types.now in
    let names = c.args.names.now in
    let turned =
    operator_turn trees names root c.args.id c.in_ok-name-in-Op.name c.in-Op.name.now c.in-Op.args.now c.args.tasks.now c.args.nodes.now.items
    c.in_ok-name-in-Op.ensures.cases c.in-Op.ensures.is c.in-Op.ensures.lower w in
    subst (λ tasks. IsTypeWalk trees names root tasks c.push-in-Op.new.self.items) (sym set)
    (subst (IsTypeWalk trees names root (c.in-Op.args.now ++ c.args.tasks.now)) (sym c.in_ok-push-in-Op.ensures.items) turned)) c.set_out.ensures

pub returns-in_ok-push-in-Op-clause-less : goal.returns-in_ok-push-in-Op-clause-less
returns-in_ok-push-in-Op-clause-less c = on_ok_weaker c.set_out.result (λ set.
    subst (λ tasks. type_work c.args.types.now tasks < type_work c.args.types.now (c.args.id ∷ c.args.tasks.now)) (sym set)
    (operator_less c.args.types.now c.args.names.now c.args.id c.in-Op.name.now c.in-Op.args.now c.args.tasks.now c.in-Op.ensures.is)) c.set_out.ensures
