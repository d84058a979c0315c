use Rattle.std.proofs.Common.{◌≡◌, ◌+◌, ◌-◌, arith}
use Rattle.article_reach.proofs.Stepped.{looked-next}
use Rattle.article_reach.proofs.walk.Walk.look_all.Goals as goal

pub loop-step-preserved : goal.loop-step-preserved
loop-step-preserved c =
    let j = c.loop-step.step in
    let e : j ≡ (j - 1) + 1 = omega (arith, c.loop-step-test.true) in
    looked-next c.args.proof.now c.args.exports.now (j - 1) j c.loop-step.self c.look.new.self c.loop-step.told.items c.in_ok-told.field-0 e
    c.loop-step.invariant
    (record { is_told = c.in_ok-told.ensures.is; tasks = c.in_ok-told.ensures.tasks; walks = c.in_ok-told.ensures.walks })
