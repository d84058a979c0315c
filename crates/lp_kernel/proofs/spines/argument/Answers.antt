use Rattle.std.proofs.Common.{arith, ◌-◌}
use Rattle.lp_kernel.proofs.Filled.{sought-found, sought-more}
use Rattle.lp_kernel.proofs.spines.argument.Goals as goal

pub loop-function-preserved : goal.loop-function-preserved
loop-function-preserved c =
    let fact = c.in-Some.ensures in
    sought-more c.args.base.now.table c.args.k c.args.f c.args.n c.loop-function.left _ c.loop-function.at c.in-Some.function c.in-Some.x
    (omega (arith, fact.0)) fact.3 c.loop-function.number _ c.loop-function.invariant (omega (arith, c.if-number-eq0.false)) fact.1

pub returns-then-number-eq0 : goal.returns-then-number-eq0
returns-then-number-eq0 c =
    let fact = c.in-Some.ensures in (
      fact.2,
      sought-found c.args.base.now.table c.args.k c.args.f c.args.n c.loop-function.left (c.loop-function.left - 1) c.loop-function.at c.in-Some.function
          c.in-Some.x (omega (arith, fact.0)) fact.3 c.loop-function.number c.loop-function.invariant (omega (arith, c.if-number-eq0.true)),
    )
