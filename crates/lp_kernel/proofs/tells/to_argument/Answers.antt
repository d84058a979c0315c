use Rattle.std.proofs.Common.{arith}
use Rattle.lp_kernel.proofs.Told.{told-applied, told-unapplied}
use Rattle.lp_kernel.proofs.tells.to_argument.Goals as goal

pub returns-in_ok-push-in-Pi-clause-turned : goal.returns-in_ok-push-in-Pi-clause-turned
returns-in_ok-push-in-Pi-clause-turned c = λ rechecks left. told-applied rechecks _ _ _ _ c.args.product c.in-Pi.a c.in-Pi.b c.args.app _ _ c.in-Pi.ensures.is
    c.requires.application c.in_ok-push-in-Pi.ensures.pushed (omega arith)
