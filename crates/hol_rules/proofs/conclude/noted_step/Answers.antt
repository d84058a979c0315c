use Rattle.std.proofs.Common.{◌∙◌}
use Rattle.hol_rules.proofs.Pushed.{take-pushed}
use Rattle.hol_rules.proofs.conclude.noted_step.Goals as goal

pub returns-in-Err-clause-unnoted : goal.returns-in-Err-clause-unnoted
returns-in-Err-clause-unnoted c = rw
    (c.truncate.ensures.items, c.push_reserved.ensures.items, c.reserve.ensures.items, c.len-count.ensures ∙ c.args.made.now.ok.0)
    (take-pushed c.args.made.now.items _)
