use Rattle.std.proofs.Common.{◌≡◌, arith}
use Rattle.std.proofs.lemmas.Result.{on_ok_weaker}
use Rattle.lp_spec.specs.Trees.{loose}
use Rattle.lp_term.specs.Tables.{tree_of_node}
use Rattle.lp_term.specs.TableLaws.{Keeps-refl}
use Rattle.lp_term.proofs.Turns.{leaf_wanted, visit_given, app_walk, app_less, binder_walk, binder_less}
use Rattle.lp_term.proofs.walk.visit_node.Goals as goal

pub returns-in-App-clause-walk : goal.returns-in-App-clause-walk
returns-in-App-clause-walk c =
    rw (c.set_out.ensures.made, c.set_out.ensures.memo)
    (on_ok_weaker c.set_out.result (λ m. rw m (app_walk _ _ _ _ _ _ c.in-App.f c.in-App.x c.in-App.ensures.is c.in-App.ensures.lower)) c.set_out.ensures.tasks)

pub returns-in-App-clause-less : goal.returns-in-App-clause-less
returns-in-App-clause-less c =
    on_ok_weaker c.set_out.result
    (λ m. rw m (app_less c.args.table.now c.args.args.now c.args.place c.args.walk.now.tasks c.args.walk.now.made c.args.walk.now.memo c.in-App.f c.in-App.x
    c.in-App.ensures.is)) c.set_out.ensures.tasks

pub returns-in-SortType-clause-walk : goal.returns-in-SortType-clause-walk
returns-in-SortType-clause-walk c =
    let leaf : loose (tree_of_node c.args.table.now c.view.result) ≡ 0 = grind (arith, c.in-SortType.is) in
    rw (c.give.ensures.tasks, c.give.ensures.memo)
    (on_ok_weaker c.give.result (λ m. rw m (visit_given (Keeps-refl _) _ _ _ _ _ c.args.place.id (leaf_wanted _ _ _ _ _ _ c.view.ensures.is leaf)))
    c.give.ensures.made)

pub returns-in-Lam-clause-walk : goal.returns-in-Lam-clause-walk
returns-in-Lam-clause-walk c =
    rw (c.set_out-in-Lam.ensures.made, c.set_out-in-Lam.ensures.memo)
    (on_ok_weaker c.set_out-in-Lam.result
    (λ m. rw m (binder_walk _ _ _ _ _ _ c.in-Lam.a c.in-Lam.b c.view.result c.view.ensures.is c.in-Lam.is c.view.ensures.lower))
    c.set_out-in-Lam.ensures.tasks)

pub returns-in-Lam-clause-less : goal.returns-in-Lam-clause-less
returns-in-Lam-clause-less c =
    on_ok_weaker c.set_out-in-Lam.result
    (λ m. rw m (binder_less c.args.table.now c.args.args.now c.args.place c.args.walk.now.tasks c.args.walk.now.made c.args.walk.now.memo c.in-Lam.a
    c.in-Lam.b c.view.result c.view.ensures.is c.in-Lam.is)) c.set_out-in-Lam.ensures.tasks
