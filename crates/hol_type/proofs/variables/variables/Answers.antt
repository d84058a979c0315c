use Rattle.hol_type.proofs.SearchTurns.{search_begins}
use Rattle.hol_type.proofs.variables.variables.Goals as goal

pub loop-task-init : goal.loop-task-init
loop-task-init c = rw (c.in_ok-push.ensures.pushed, c.new.ensures.empty, c.new-2.ensures.items) (search_begins _ c.args.root _ c.requires c.new-3.ensures.empty)

pub loop-task-preserved : goal.loop-task-preserved
loop-task-preserved c =
    let w = rw c.in-Some.ensures.popped at c.loop-task.invariant in
    c.in_ok-turn.ensures.search _ _ w
