use Rattle.std.proofs.Common.{subst}
use Rattle.std.proofs.lemmas.Result.{on_ok_weaker}
use Rattle.lp_term.specs.Walks.{IsReplaced}
use Rattle.lp_term.proofs.Turns.{renamed_wanted, visit_given, visit_less, argument_walk, argument_less}
use Rattle.lp_term.proofs.walk.visit_variable.Goals as goal

pub returns-in_ok-id-in-Renamed-clause-walk : goal.returns-in_ok-id-in-Renamed-clause-walk
returns-in_ok-id-in-Renamed-clause-walk c =
    let r = subst (IsReplaced c.args.args.now c.args.place c.args.n) c.in-Renamed.is c.in_ok-n.ensures in
    rw (c.give.ensures.tasks, c.give.ensures.memo)
    (on_ok_weaker c.give.result
    (λ m. rw m (visit_given c.node.ensures.keeps _ _ _ _ _ c.in_ok-id-in-Renamed.id
    (renamed_wanted c.node.ensures.keeps _ _ _ _ _ c.args.n c.in-Renamed.n _ c.requires.variable r c.in_ok-id-in-Renamed.ensures.made)))
    c.give.ensures.made)

pub returns-in_ok-id-in-Renamed-clause-less : goal.returns-in_ok-id-in-Renamed-clause-less
returns-in_ok-id-in-Renamed-clause-less c =
    rw c.give.ensures.tasks
    (on_ok_weaker c.give.result (λ m. visit_less c.node.ensures.keeps _ _ _ _ _ c.requires.walk.0 c.requires.walk.1 c.requires.walk.2) c.give.ensures.made)

pub returns-in_ok-push-in-Argument-clause-walk : goal.returns-in_ok-push-in-Argument-clause-walk
returns-in_ok-push-in-Argument-clause-walk c =
    let r = subst (IsReplaced c.args.args.now c.args.place c.args.n) c.in-Argument.is c.in_ok-n.ensures in
    rw c.in_ok-push-in-Argument.ensures.pushed (argument_walk _ _ _ _ _ _ c.args.n c.in-Argument.id c.requires.small c.requires.variable r)

pub returns-in_ok-push-in-Argument-clause-less : goal.returns-in_ok-push-in-Argument-clause-less
returns-in_ok-push-in-Argument-clause-less c =
    let r = subst (IsReplaced c.args.args.now c.args.place c.args.n) c.in-Argument.is c.in_ok-n.ensures in
    rw c.in_ok-push-in-Argument.ensures.pushed
    (argument_less _ _ _ _ c.args.walk.now.made c.args.walk.now.memo c.args.n c.in-Argument.id c.requires.small c.requires.variable r)
