use Rattle.std.proofs.lemmas.Result.{IfOk-weaker}
use Rattle.bridge_verify.proofs.Checked.{accepted-PassBelow, length-budgets, back-PassWithin}
use Rattle.bridge_verify.proofs.checking.verdict_on.Goals as goal

pub checked_fast-requires-clause-run : goal.checked_fast-requires-clause-run
checked_fast-requires-clause-run c = let r = c.requires.run in (r.0, r.1, r.2, r.3)

pub check_module-requires-clause-budgets : goal.check_module-requires-clause-budgets
check_module-requires-clause-budgets c = let r = c.requires.run in length-budgets r.0 r.1 r.2 c.args.back.now r.3 c.args.bounds.now r.4

pub returns-then-fast-clause-pass : goal.returns-then-fast-clause-pass
returns-then-fast-clause-pass c = rw c.if-fast.true c.checked_fast.ensures.pass

pub returns-else-fast-clause-accepts : goal.returns-else-fast-clause-accepts
returns-else-fast-clause-accepts c =
    let r = c.requires.run in
    IfOk-weaker c.check_module.result _ _ (λ v h. h (back-PassWithin r.0 r.1 r.2 c.args.back.now r.3 c.args.bounds.now r.4)) c.check_module.ensures.accepts

pub returns-else-fast-clause-pass : goal.returns-else-fast-clause-pass
returns-else-fast-clause-pass c = rw c.if-fast.false (IfOk-weaker c.check_module.result _ _ (λ v h. accepted-PassBelow _ _ _ v h) c.check_module.ensures.judged)
