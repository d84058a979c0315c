use Rattle.std.proofs.Common.{arith, sym, ◌∙◌}
use Rattle.hol_spec.specs.Proofs.{steps_of}
use Rattle.article_write.specs.Fitting.{fits_step}
use Rattle.article_write.proofs.FittingLaws.{next-told, not-told, passed-yes, passed-no}
use Rattle.article_write.proofs.fitting.is_fitting.Goals as goal

pub returns-then-not-is_passed : goal.returns-then-not-is_passed
returns-then-not-is_passed c exports are =
    let p = c.args.proof.now in
    let fails = passed-no (sym (c.is_passed.ensures exports are) ∙ c.if-not-is_passed.true) in
    sym (not-told (fits_step c.args.version exports) c.args.told.now (steps_of p.made) c.loop-step.step _
    (omega (arith, c.loop-step-test.true, c.len-step-end.ensures)) fails.0 fails.1)

pub loop-step-preserved : goal.loop-step-preserved
loop-step-preserved c exports are =
    let p = c.args.proof.now in
    next-told (fits_step c.args.version exports) c.args.told.now (steps_of p.made) c.loop-step.step _
    (omega (arith, c.loop-step-test.true, c.len-step-end.ensures)) (c.loop-step.invariant exports are)
    (passed-yes (sym (c.is_passed.ensures exports are) ∙ c.if-not-is_passed.false))
