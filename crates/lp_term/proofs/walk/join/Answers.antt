use Rattle.std.proofs.Common.{ap, ◌∙◌, Some}
use Rattle.std.proofs.lemmas.Result.{on_ok_weaker}
use Rattle.lp_term.specs.Tables.{tree_of_node}
use Rattle.lp_term.proofs.Turns.{join_walk, join_less}
use Rattle.lp_term.proofs.walk.join.Goals as goal

pub returns-clause-walk : goal.returns-clause-walk
returns-clause-walk c =
    rw (c.give.ensures.tasks, c.give.ensures.memo)
    (on_ok_weaker c.give.result
    (λ m. rw m (join_walk c.node.ensures.keeps _ c.args.place _ _ _ _ _ c.two.result.0 c.two.result.1 c.in_ok-id.id c.view.result c.two.ensures
    c.view.ensures.is
    (c.in_ok-id.ensures.made ∙ ap (λ n. Some (tree_of_node c.args.table.now n)) c.with_parts-node.ensures) c.in_ok-note.ensures.noted))
    c.give.ensures.made)

pub returns-clause-less : goal.returns-clause-less
returns-clause-less c =
    rw c.give.ensures.tasks
    (on_ok_weaker c.give.result
    (λ m. join_less c.node.ensures.keeps _ c.args.place _ _ c.two.new.made c.args.walk.now.memo c.args.walk.now.memo c.two.result.0 c.two.result.1 c.in_ok-id.id
    c.view.result c.requires.0 c.requires.1 c.requires.2)
    c.give.ensures.made)
