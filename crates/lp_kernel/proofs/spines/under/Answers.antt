use Rattle.std.proofs.Common.{sym, subst}
use Rattle.lp_kernel.specs.Pending.{IsKnownState}
use Rattle.lp_kernel.proofs.Asked.{known-state}
use Rattle.lp_kernel.proofs.Gathered.{made-type}
use Rattle.lp_kernel.proofs.spines.under.Goals as goal

pub returns-in_ok-made-in-None-clause-known : goal.returns-in_ok-made-in-None-clause-known
returns-in_ok-made-in-None-clause-known c = subst (IsKnownState c.filled.new.base.table) (sym (rw c.in-None.is at c.in_ok-x.ensures.awaited))
    (known-state c.filled.ensures.grows.keeps _ c.requires.known)

pub returns-in_ok-made-in-None-clause-turned : goal.returns-in_ok-made-in-None-clause-turned
returns-in_ok-made-in-None-clause-turned c = λ rechecks.
    made-type rechecks c.filled.new.base c.args.state.now c.awaited.new.state c.args.b c.args.k c.args.g c.in_ok-made-in-None.made
    c.filled.ensures.grows.keeps.stays c.requires.b c.requires.g c.in_ok-made-in-None.ensures.is (rw c.in-None.is at c.in_ok-x.ensures.awaited)
