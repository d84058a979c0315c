use Rattle.std.proofs.Common.{subst}
use Rattle.std.proofs.lemmas.Result.{on_ok_weaker}
use Rattle.lp_weight.specs.Measures.{place_occurrences, IsPart}
use Rattle.lp_weight.proofs.Turns.{visit_given, visit_less, set_out_walk, set_out_less}
use Rattle.lp_weight.proofs.measure.visit.Goals as goal

pub returns-in-Alone-clause-walk : goal.returns-in-Alone-clause-walk
returns-in-Alone-clause-walk c =
    let h = subst (IsPart (place_occurrences c.args.base.now) c.args.base.now.table c.args.place) c.in-Alone.is c.parts_of.ensures in
    rw (c.give.ensures.tasks, c.give.ensures.memo)
    (on_ok_weaker c.give.result (λ m. rw m (λ goal w. visit_given _ _ _ _ _ _ c.in-Alone.amount h goal w)) c.give.ensures.amounts)

pub returns-in-Alone-clause-less : goal.returns-in-Alone-clause-less
returns-in-Alone-clause-less c =
    rw c.give.ensures.tasks
    (on_ok_weaker c.give.result
    (λ m. visit_less (place_occurrences c.args.base.now) c.args.base.now.table c.args.place c.args.walk.now.tasks c.args.walk.now.amounts
    c.args.walk.now.memo) c.give.ensures.amounts)

pub returns-in-Some-clause-walk : goal.returns-in-Some-clause-walk
returns-in-Some-clause-walk c =
    rw (c.give-in-Some.ensures.tasks, c.give-in-Some.ensures.memo)
    (on_ok_weaker c.give-in-Some.result
    (λ m. rw m (λ goal w. visit_given _ _ _ _ _ _ c.in-Some.amount (w.noted c.args.place c.in-Some.amount c.in-Some.ensures.noted) goal w))
    c.give-in-Some.ensures.amounts)

pub returns-in-Some-clause-less : goal.returns-in-Some-clause-less
returns-in-Some-clause-less c =
    rw c.give-in-Some.ensures.tasks
    (on_ok_weaker c.give-in-Some.result
    (λ m. visit_less (place_occurrences c.args.base.now) c.args.base.now.table c.args.place c.args.walk.now.tasks c.args.walk.now.amounts
    c.args.walk.now.memo) c.give-in-Some.ensures.amounts)

pub returns-in-None-clause-walk : goal.returns-in-None-clause-walk
returns-in-None-clause-walk c =
    let h = subst (IsPart (place_occurrences c.args.base.now) c.args.base.now.table c.args.place) c.in-Two.is c.parts_of.ensures in
    rw (c.set_out.ensures.amounts, c.set_out.ensures.memo)
    (on_ok_weaker c.set_out.result (λ m. rw m (set_out_walk _ _ _ _ _ _ c.in-Two.first c.in-Two.second h)) c.set_out.ensures.tasks)

pub returns-in-None-clause-less : goal.returns-in-None-clause-less
returns-in-None-clause-less c =
    let h = subst (IsPart (place_occurrences c.args.base.now) c.args.base.now.table c.args.place) c.in-Two.is c.parts_of.ensures in
    on_ok_weaker c.set_out.result
    (λ m. rw m (set_out_less (place_occurrences c.args.base.now) c.args.base.now.table c.args.place c.args.walk.now.tasks c.args.walk.now.amounts
    c.args.walk.now.memo c.in-Two.first c.in-Two.second h)) c.set_out.ensures.tasks

pub returns-in-None-clause-once : goal.returns-in-None-clause-once
returns-in-None-clause-once c = on_ok_weaker c.set_out.result (λ m large n noted. absurd (c.in-None.ensures.absent large n noted)) c.set_out.ensures.tasks
