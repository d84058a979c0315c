use Rattle.std.proofs.Common.{arith}
use Rattle.lp_kernel.proofs.Told.{filled-none}
use Rattle.lp_kernel.proofs.spines.filled.Goals as goal

pub returns-then-k-eq0-clause-is : goal.returns-then-k-eq0-clause-is
returns-then-k-eq0-clause-is c = filled-none c.args.base.now.table c.args.b c.args.k c.args.f (omega (arith, c.if-k-eq0.true))
