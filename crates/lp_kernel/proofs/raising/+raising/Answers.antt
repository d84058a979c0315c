use Rattle.std.proofs.Common.{arith}
use Rattle.lp_kernel.proofs.Raised.{lift-closed, lift-parts}
use Rattle.lp_kernel.proofs.raising.+raising.Goals as goal

pub raised_shallow-returns-then-is_closed_under-clause-is : goal.raised_shallow-returns-then-is_closed_under-clause-is
raised_shallow-returns-then-is_closed_under-clause-is t c =
    lift-closed c.args.base.now.table c.args.b c.args.k (c.if-is_closed_under.ensures.closed (omega arith))

pub application_raised-returns-clause-is : goal.application_raised-returns-clause-is
application_raised-returns-clause-is t c =
    lift-parts c.args.base.now.table c.raised_shallow.new.base.table c.raised_shallow-2.new.base.table c.node.new.self
    c.raised_shallow.ensures.grows.keeps.stays c.raised_shallow-2.ensures.grows.keeps.stays c.args.g c.args.x c.in-Some-2.h c.in-Some-3.y
    c.in_ok-whole.whole c.args.k c.requires.x (rw c.in-Some-2.is at c.in_ok-h.ensures.known)
    (rw c.in-Some-2.is at c.in_ok-h.ensures.is) (rw c.in-Some-3.is at c.in_ok-y.ensures.is) c.in_ok-whole.ensures.made
