use Rattle.std.proofs.Common.{List, [], sym, subst}
use Rattle.article_reach.specs.declared.walk.Task.{Task}
use Rattle.article_reach.specs.declared.walk.Walk.{Walk}
use Rattle.article_reach.specs.Walks.{IsWalk, Wants}
use Rattle.article_reach.proofs.Walked.{Wants-trans}
use Rattle.article_reach.proofs.walk.Walk.run.Goals as goal

pub loop-task-preserved : goal.loop-task-preserved
loop-task-preserved c count h =
    let trees = c.args.terms.now in
    let w = c.loop-task.self in
    let v = c.turn.new.self in
    let old = c.loop-task.invariant count h in
    let with : List Task → Walk = λ tasks. record w { tasks = tasks } in
    let turned = c.in_ok-turn.ensures count (subst (λ l. IsWalk trees count (with l)) c.in-Some.ensures.popped old.0) in
    (turned.walk, Wants-trans trees count [] [] c.args.self.now w v old.1 (subst (λ l. Wants trees [] (with l) v) (sym c.in-Some.ensures.popped) turned.wants))
