use Rattle.lp_term.specs.TableLaws.{Keeps-refl}
use Rattle.lp_term.proofs.Turns.{walk_begins, walk_done}
use Rattle.lp_term.proofs.LpTable.walk_on.Goals as goal

pub loop-task-init : goal.loop-task-init
loop-task-init c = (
  Keeps-refl _,
  rw (c.in_ok-push.ensures.pushed, c.new.ensures.empty, c.new-2.ensures.empty)
      (walk_begins _ _ c.args.root _ c.requires.root c.requires.given c.new-3.ensures.empty),
)

pub returns-clause-made : goal.returns-clause-made
returns-clause-made c =
    walk_done _ _ _ _ _ _ _ c.unwrap.result c.pop-2.new.self c.in_default.ensures.popped (rw c.unwrap.ensures at c.pop-2.ensures.popped) c.loop-task.invariant.1
