use Rattle.std.proofs.Common.{sym}
use Rattle.lp_kernel.proofs.Asked.{known-state}
use Rattle.lp_conv.specs.GrowthLaws.{declarations_of-Grows}
use Rattle.lp_kernel.proofs.Expected.{converted-yes, converted-no, converted-over}
use Rattle.lp_kernel.proofs.tells.convert.Goals as goal

pub returns-in-Yes-clause-known : goal.returns-in-Yes-clause-known
returns-in-Yes-clause-known c = known-state c.conv.ensures.grows.keeps _ c.requires.known

pub returns-in-Yes-clause-turned : goal.returns-in-Yes-clause-turned
returns-in-Yes-clause-turned c = λ rechecks.
    converted-yes rechecks _ _ _ c.conv.ensures.grows.keeps.stays c.args.state.now.context c.args.state.now.frames c.args.expected c.requires.frame _ _ _
    (sym (declarations_of-Grows _ _ c.conv.ensures.grows c.requires.held))
    (rw c.in-Yes.is at c.in_ok-conv.ensures.answered)

pub returns-in-No-clause-known : goal.returns-in-No-clause-known
returns-in-No-clause-known c = known-state c.conv.ensures.grows.keeps _ c.requires.known

pub returns-in-No-clause-turned : goal.returns-in-No-clause-turned
returns-in-No-clause-turned c = λ rechecks.
    converted-no rechecks _ _ _ c.conv.ensures.grows.keeps.stays c.args.state.now.context c.args.state.now.frames c.args.expected c.requires.frame _ _
    (sym (declarations_of-Grows _ _ c.conv.ensures.grows c.requires.held))
    (rw c.in-No.is at c.in_ok-conv.ensures.answered)

pub returns-in-Over-clause-known : goal.returns-in-Over-clause-known
returns-in-Over-clause-known c = known-state c.conv.ensures.grows.keeps _ c.requires.known

pub returns-in-Over-clause-turned : goal.returns-in-Over-clause-turned
returns-in-Over-clause-turned c = λ rechecks.
    converted-over rechecks _ _ _ c.conv.ensures.grows.keeps.stays c.args.state.now.context c.args.state.now.frames c.args.expected c.requires.frame _ _
    (sym (declarations_of-Grows _ _ c.conv.ensures.grows c.requires.held))
    (rw c.in-Over.is at c.in_ok-conv.ensures.answered)
