use Rattle.std.proofs.Common.{arith, refl}
use Rattle.lp_spec.specs.Trees.{App, Lam, Pi}
use Rattle.lp_kernel.proofs.Filled.{part-closed, parts-made, node-made}
use Rattle.lp_kernel.proofs.spines.+making.Goals as goal

pub made-returns-then-is_closed_under-clause-is : goal.made-returns-then-is_closed_under-clause-is
made-returns-then-is_closed_under-clause-is t c = part-closed c.args.base.now.table c.args.depth c.args.b c.args.k c.args.f
    (c.if-is_closed_under.ensures.closed (omega arith))
