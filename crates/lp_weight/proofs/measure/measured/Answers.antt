use Rattle.lp_weight.proofs.Turns.{walk_begins}
use Rattle.lp_weight.proofs.measure.measured.Goals as goal

pub loop-task-init : goal.loop-task-init
loop-task-init c =
    rw (c.in_ok-push.ensures.pushed, c.requires.idle.tasks, c.requires.idle.amounts) (walk_begins _ _ c.args.place _ c.requires.place c.requires.idle.noted)
