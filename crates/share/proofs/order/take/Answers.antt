use Rattle.std.proofs.Common.{ap, sym, ◌∙◌, arith, length, true, false}
use Rattle.std.proofs.lemmas.Result.{on_ok_weaker}
use Rattle.lp_term.specs.Tables.{tree_at, trees_at}
use Rattle.share.specs.Meetings.{unwound}
use Rattle.share.proofs.MeetingLaws.{visit-met, visit-new, size-some, left-meeting, flag-met}
use Rattle.share.proofs.order.take.Goals as goal

pub returns-in-Leave-clause-meeting : goal.returns-in-Leave-clause-meeting
returns-in-Leave-clause-meeting c =
    on_ok_weaker c.leave.result
    (λ e. left-meeting c.args.table.now _ _ _ _ c.in-Leave.id (rw c.in-Leave.is at c.requires.below).0 c.leave.ensures.met e c.requires.meeting)
    c.leave.ensures.order

pub returns-then-index-clause-order : goal.returns-then-index-clause-order
returns-then-index-clause-order c =
    let ts = c.args.table.now in
    let m = c.args.meeting.now in
    let flag = flag-met ts m.met.items m.order.items c.in-Enter.id.0 true c.index.result.now c.requires.meeting (rw c.in-Enter.is at c.requires.below).0
    c.index.ensures c.if-index.true in
    rw c.in-Enter.is (ap (unwound ts m.turns) (sym (visit-met (trees_at ts m.order.items) (tree_at ts c.in-Enter.id.0) flag)))

pub returns-then-index-clause-less : goal.returns-then-index-clause-less
returns-then-index-clause-less c = rw c.in-Enter.is (omega (arith, size-some (tree_at c.args.table.now c.in-Enter.id.0)))

pub returns-else-index-clause-order : goal.returns-else-index-clause-order
returns-else-index-clause-order c =
    let ts = c.args.table.now in
    let m = c.args.meeting.now in
    let flag = flag-met ts m.met.items m.order.items c.in-Enter.id.0 false c.index.result.now c.requires.meeting (rw c.in-Enter.is at c.requires.below).0
    c.index.ensures c.if-index.false in
    rw c.in-Enter.is
    (on_ok_weaker c.enter.result (λ f. f (trees_at ts m.order.items)
    ∙ ap (unwound ts m.turns) (sym (visit-new (trees_at ts m.order.items) (tree_at ts c.in-Enter.id.0) flag))) c.enter.ensures.order)

pub returns-else-index-clause-below : goal.returns-else-index-clause-below
returns-else-index-clause-below c = let b = rw c.in-Enter.is at c.requires.below in on_ok_weaker c.enter.result
    (λ f. f (length c.args.meeting.now.met.items) b.0 b.1) c.enter.ensures.below
