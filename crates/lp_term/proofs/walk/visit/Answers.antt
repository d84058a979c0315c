use Rattle.std.proofs.lemmas.Result.{on_ok_weaker}
use Rattle.lp_term.specs.TableLaws.{Keeps-refl}
use Rattle.lp_term.proofs.Turns.{already_wanted, visit_given, visit_less}
use Rattle.lp_term.proofs.walk.visit.Goals as goal

pub returns-in-Some-clause-walk : goal.returns-in-Some-clause-walk
returns-in-Some-clause-walk c =
    rw (c.give.ensures.tasks, c.give.ensures.memo)
    (on_ok_weaker c.give.result (λ m. rw m (visit_given (Keeps-refl _) _ _ _ _ _ c.in-Some.id (already_wanted _ _ _ _ _ _ c.in-Some.ensures)))
    c.give.ensures.made)

pub returns-in-Some-clause-less : goal.returns-in-Some-clause-less
returns-in-Some-clause-less c =
    rw c.give.ensures.tasks
    (on_ok_weaker c.give.result (λ m. visit_less (Keeps-refl _) _ _ _ _ _ c.requires.0 c.requires.1 c.requires.2) c.give.ensures.made)
