use Rattle.std.proofs.Common.{arith, ◌∙◌}
use Rattle.dk_write.proofs.GainedLaws.{gained_both, writes_failed}
use Rattle.dk_write.proofs.tree.write_tree.Goals as goal

pub returns-in_err-turn-in-Write-clause-writes : goal.returns-in_err-turn-in-Write-clause-writes
returns-in_err-turn-in-Write-clause-writes g c =
    let t = c.in-Write.is in
    let before = rw t at c.loop-turn.invariant.text in
    writes_failed _ _ _ _ _ _ _ _ _ _ _ _ c.from_residual.ensures.0 before c.loop-turn.invariant.later c.in_err-turn-in-Write.ensures.err
    c.in_err-turn-in-Write.ensures.cause

pub returns-in_err-turn-in-Some-clause-writes : goal.returns-in_err-turn-in-Some-clause-writes
returns-in_err-turn-in-Some-clause-writes g c =
    let t = c.in-Leave.is in
    let p = c.in-Some.ensures.popped in
    let before = rw (t, p) at c.loop-turn.invariant.text in
    writes_failed _ _ _ _ _ _ _ _ _ _ _ _ c.from_residual-in_err-turn-in-Some.ensures.0 before c.loop-turn.invariant.later c.in_err-turn-in-Some.ensures.err
    c.in_err-turn-in-Some.ensures.cause

pub loop-turn-preserved-in_ok-turn-in-Write : goal.loop-turn-preserved-in_ok-turn-in-Write
loop-turn-preserved-in_ok-turn-in-Write g c =
    let t = c.in-Write.is in
    let before = rw t at c.loop-turn.invariant.text in
    record {
      turn = c.in_ok-turn-in-Write.ensures.turn;
      frames = c.in_ok-turn-in-Write.ensures.frames;
      room = c.write_seen.ensures.room ∙ c.loop-turn.invariant.room;
      text = gained_both _ _ _ _ _ _ before c.in_ok-turn-in-Write.ensures.ok;
      later = omega (arith, c.loop-turn.invariant.later, c.in_ok-turn-in-Write.ensures.cause.later);
    }

pub loop-turn-preserved : goal.loop-turn-preserved
loop-turn-preserved g c =
    let t = c.in-Leave.is in
    let p = c.in-Some.ensures.popped in
    let before = rw (t, p) at c.loop-turn.invariant.text in
    record {
      turn = c.in_ok-turn-in-Some.ensures.turn;
      frames = c.in_ok-turn-in-Some.ensures.frames;
      room = c.write_frame.ensures.room ∙ c.pop.ensures.room ∙ c.loop-turn.invariant.room;
      text = gained_both _ _ _ _ _ _ before c.in_ok-turn-in-Some.ensures.ok;
      later = omega (arith, c.loop-turn.invariant.later, c.in_ok-turn-in-Some.ensures.cause.later);
    }
