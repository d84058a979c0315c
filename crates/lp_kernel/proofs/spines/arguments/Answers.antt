use Rattle.std.proofs.Common.{arith}
use Rattle.lp_kernel.proofs.Gathered.{gathered-more}
use Rattle.lp_kernel.proofs.spines.arguments.Goals as goal

pub loop-function-preserved : goal.loop-function-preserved
loop-function-preserved c =
    let fact = c.in-Some.ensures in
    gathered-more c.args.base.now.table c.args.k c.args.f c.in-Some.function c.in-Some.x c.loop-function.at c.loop-function.args.items c.push.new.self.items
    c.loop-function.left _ c.loop-function.invariant c.in_ok-push.ensures.items (omega (arith, fact.0)) fact.1 fact.2 fact.3
