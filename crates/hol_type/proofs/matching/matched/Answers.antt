use Rattle.hol_type.proofs.MatchTurns.{matching_begins, matching_ends, goes_on, stops}
use Rattle.hol_type.proofs.matching.matched.Goals as goal

pub loop-part-init : goal.loop-part-init
loop-part-init c = rw (c.in_ok-push.ensures.pushed, c.new.ensures.empty, c.new-2.ensures.items)
    (matching_begins _ c.args.general c.args.instance _ c.requires.distinct c.requires.general c.requires.instance c.new-3.ensures.empty)

pub returns-then-not-branch-clause-matches : goal.returns-then-not-branch-clause-matches
returns-then-not-branch-clause-matches c =
    let w = rw c.in-Some.ensures.popped at c.loop-part.invariant in
    stops c.in_ok-meet.field-0 _ _ _ _ _ _ c.if-not-branch.true (c.in_ok-meet.ensures.turn _ _ w)

pub loop-part-preserved : goal.loop-part-preserved
loop-part-preserved c =
    let w = rw c.in-Some.ensures.popped at c.loop-part.invariant in
    goes_on c.in_ok-meet.field-0 _ _ _ _ _ _ c.if-not-branch.false (c.in_ok-meet.ensures.turn _ _ w)

pub returns-clause-matches : goal.returns-clause-matches
returns-clause-matches c =
    let w = rw c.in_default.ensures.popped at c.loop-part.invariant in
    rw c.of.ensures (matching_ends _ _ _ _ _ w)
