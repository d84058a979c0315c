use Rattle.std.proofs.Common.{◌∙◌, subst}
use Rattle.std.proofs.lemmas.Result.{IfOk-weaker}
use Rattle.bridge_verify.proofs.Checked.{accepted-PassBelow}
use Rattle.bridge_verify.proofs.FastBounds.{length-budgets, back-PassWithin}
use Rattle.bridge_verify.proofs.fast.checked_fast.Goals as goal

pub check_fast-requires-clause-budgets : goal.check_fast-requires-clause-budgets
check_fast-requires-clause-budgets c = length-budgets c.requires.run.0 c.requires.run.1 c.requires.run.2 c.args.back.now c.requires.run.3 c.deref.result.now
    (c.deref.ensures.value ∙ c.in_ok-bounds.ensures)

pub returns-clause-accepts : goal.returns-clause-accepts
returns-clause-accepts c =
    IfOk-weaker c.check_fast.result _ _
    (λ v h. h (back-PassWithin c.requires.run.0 c.requires.run.1 c.requires.run.2 c.args.back.now c.requires.run.3 c.deref.result.now
    (c.deref.ensures.value ∙ c.in_ok-bounds.ensures)))
    c.check_fast.ensures.accepts

pub returns-clause-pass : goal.returns-clause-pass
returns-clause-pass c = IfOk-weaker c.check_fast.result _ _ (λ v h. accepted-PassBelow _ _ _ v h) c.check_fast.ensures.judged
