use Rattle.bridge_verify.proofs.Checked.{IllTyped-Accepted, OverBudget-Accepted}
use Rattle.bridge_verify.proofs.checking.check_read.Goals as goal

pub returns-in-Ok-IllTyped-clause-memory : goal.returns-in-Ok-IllTyped-clause-memory
returns-in-Ok-IllTyped-clause-memory c = absurd (IllTyped-Accepted c.in-Ok-IllTyped.field-0 _ c.in-Ok-IllTyped.field-0-is c.in-Ok-IllTyped.ensures.accepts)

pub returns-in-Ok-OverBudget-clause-memory : goal.returns-in-Ok-OverBudget-clause-memory
returns-in-Ok-OverBudget-clause-memory c = absurd
    (OverBudget-Accepted c.in-Ok-OverBudget.field-0 _ c.in-Ok-OverBudget.field-0-is c.in-Ok-OverBudget.ensures.accepts)
