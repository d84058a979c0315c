use Rattle.vectors.proofs.WritingLaws.{writes_same, writes_stop, writes_then}
use Rattle.vectors.proofs.TrialParts.{trial_parts}
use Rattle.vectors.proofs.trial.Goals as goal

pub returns-in_err-put : goal.returns-in_err-put
returns-in_err-put g c =
    let w = writes_same _ _ (trial_parts c.args.n) (writes_stop _ _ _ _ _ _ _ _ _ c.in_err-put.was c.from_residual.ensures.0 c.put.ensures) in
    record { ok = w.ok; err = w.err; cause = w.cause }

pub returns-in_err-write_blocks : goal.returns-in_err-write_blocks
returns-in_err-write_blocks g c =
    let w = writes_same _ _ (trial_parts c.args.n)
    (writes_then _ _ _ _ _ _ _ _ _ _ _ c.in_ok-put.was c.put.ensures
    (writes_stop _ _ _ _ _ _ _ _ _ c.in_err-write_blocks.was c.from_residual-in_err-write_blocks.ensures.0 c.write_blocks.ensures)) in
    record { ok = w.ok; err = w.err; cause = w.cause }

pub returns : goal.returns
returns g c =
    let w = writes_same _ _ (trial_parts c.args.n)
    (writes_then _ _ _ _ _ _ _ _ _ _ _ c.in_ok-put.was c.put.ensures
    (writes_then _ _ _ _ _ _ _ _ _ _ _ c.in_ok-write_blocks.was c.write_blocks.ensures c.put-2.ensures)) in
    record { ok = w.ok; err = w.err; cause = w.cause }
