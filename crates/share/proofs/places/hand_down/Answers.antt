use Rattle.std.proofs.Common.{arith, ◌-◌}
use Rattle.share.proofs.CountLaws.{pass_begins, pass_step, pass_ends}
use Rattle.share.proofs.places.hand_down.Goals as goal

pub loop-left-init : goal.loop-left-init
loop-left-init c = pass_begins c.args.table.now c.args.counts.now

pub loop-left-preserved : goal.loop-left-preserved
loop-left-preserved c = pass_step _ _ c.loop-left.left (c.loop-left.left - 1) _ _ _ (omega (arith, c.loop-left-test.true)) c.hand_parts.ensures.length
    c.hand_parts.ensures.lower c.hand_parts.ensures.handed c.loop-left.invariant

pub returns-clause-lower : goal.returns-clause-lower
returns-clause-lower c = λ i l. c.loop-left.invariant.lower i (omega (arith, c.loop-left-test.false)) l

pub returns-clause-handed : goal.returns-clause-handed
returns-clause-handed c = pass_ends _ _ _ _ _ (omega (arith, c.loop-left-test.false)) c.loop-left.invariant
